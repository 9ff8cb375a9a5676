-- The loops that compare a book's figures with those of the job.
use mathlib.Core.Path.{◌≡◌, refl, sym, ap, ap₂, ◌∙◌}
use mathlib.Core.Bool.{Bool, true, false, ◌&&◌}
use mathlib.Core.List.{List}
use Prim.Native.Nat.{ℕ, ◌+◌, ◌<◌}
use native.Mathlib.Omega.{arith}
use lib.Dec.{eqb}
use lib.ListN.{length, get_or}
use Rattle.network.specs.Lists.{every}
use Rattle.network.specs.Graph.{below}
use Rattle.network.proofs.Tests.{and_join}
use Rattle.job.specs.declared.Job.{Job}
use Rattle.job.specs.Fields.{word2}
use Rattle.plan.specs.declared.Head.{Head}
use Rattle.plan.specs.Plan.{Entry}
use Rattle.book.specs.declared.Reading.{Reading}
use Rattle.plan.proofs.Length.{route_size_lem}
use Rattle.planner.specs.Held.{runs_in, Held}
use Rattle.planner.proofs.Held.{length_held, numbers_held}
use Rattle.judge.specs.Judged.{entry_at, is_of}
use Rattle.judge.specs.Steps.{ReadAs}
use Rattle.judge.proofs.Entries.{count_read, route_room, number_at, meets_at, newer_room, centre_at}

-- ---- tests in a row

-- the second fails
pub second_off : (a b c : Bool) → false ≡ b → false ≡ a && (b && c)
second_off true b c e = ap (λ t. t && c) e
second_off false b c e = refl

-- the third fails
pub third_off : (a b c : Bool) → false ≡ c → false ≡ a && (b && c)
third_off true true c e = e
third_off true false c e = refl
third_off false b c e = refl

-- all three hold
pub all_three : (a b c : Bool) → a ≡ true → b ≡ true → c ≡ true → true ≡ a && (b && c)
all_three a b c d e f = sym (and_join a (b && c) d (and_join b c e f))

-- ---- the numbers of the job's runs

module _ (j : Job) (H : Held j) (h : Head) (es : List Entry) where
  -- the test of a book by the job's arrays
  pub of_arrays : is_of j.number (runs_in j) h es ≡ eqb h.job j.number && (eqb h.runs j.count && every (λ k. eqb (entry_at es k).number (get_or j.numbers k 0)) (below j.count))
  unfolding is_of
  of_arrays =
      ap₂ (λ (n : ℕ) (f : ℕ → Bool). eqb h.job j.number && (eqb h.runs n && every f (below n))) (length_held j)
      (λ i k. eqb (entry_at es k).number (sym (numbers_held j H k) i))

-- ---- what is read at a route's place

module _ (book : List ℕ) (r : Reading) (es : List Entry) (R : ReadAs book r es) (n : ℕ) (counted : r.head.runs ≡ n) (i : ℕ) (l : i < n) where
  pub listed : i < length es
  listed = omega (arith, (count_read book r es R).0)

  -- the run number, and the bytes that hold it
  pub number_room : get_or r.places i 0 + 2 < length book
  number_room = omega (arith, route_room book r es R i listed, route_size_lem r.head.grouped)

  pub number_says : (at v : ℕ) → at ≡ get_or r.places i 0 → v ≡ word2 book (at + 1) → v ≡ (entry_at es i).number
  number_says at v a e = e ∙ ap (λ p. word2 book (p + 1)) a ∙ number_at book r es R i listed

  -- the meets figure
  pub meets_says : (at v : ℕ) → at ≡ get_or r.places i 0 → v ≡ word2 book (at + 3) → v ≡ (entry_at es i).meets
  meets_says at v a e = e ∙ ap (λ p. word2 book (p + 3)) a ∙ meets_at book r es R i listed

  module _ (newer : r.head.grouped ≡ true) where
    -- the centre, and the bytes up to it
    pub centre_room : get_or r.places i 0 + 8 < length book
    centre_room = omega (arith, newer_room book r es R i listed newer)

    pub centre_says : (at v : ℕ) → at ≡ get_or r.places i 0 → v ≡ word2 book (at + 7) → v ≡ (entry_at es i).centre
    centre_says at v a e = e ∙ ap (λ p. word2 book (p + 7)) a ∙ centre_at book r es R i listed newer
