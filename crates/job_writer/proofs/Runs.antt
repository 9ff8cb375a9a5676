-- A list whose runs are accepted is the list of runs that rise, are in range and between two points, and every such list is accepted.
-- Assumes nothing.
use Prim.Native.Nat.{ℕ, zero, suc, ◌+◌, ◌-◌, ◌*◌, ◌<◌, ◌≤◌}
use mathlib.Core.Path.{◌≡◌, refl, sym, ap, ap₂, ◌∙◌}
use mathlib.Core.List.{List, [], ◌∷◌, ◌++◌, flat_map}
use mathlib.Core.Bool.{true, false, not, ◌&&◌, and-eq-true_iff}
use native.Mathlib.Omega.{arith}
use native.Mathlib.Nat.{add-zero}
use borrow.Author.Tests.{not-false}
use native.Mathlib.Numerals.{add-one, add-two, add-three, add-four}
use lib.IntN.{ℤ, pos, nat_abs}
use lib.ListN.{length, get_or, drop}
use lib.Seq.{drop-cons, drop-drop, get_or-drop}
use Rattle.refusal.specs.declared.Refusal.{Refusal}
use Rattle.job.specs.declared.Run.{Run}
use Rattle.std.specs.Prelude.{Ok, Err}
use Rattle.job.specs.Fields.{decimetres}
use Rattle.job.specs.Written.{InRange, Coincide}
use Rattle.job.specs.Parse.{coincide}
use Rattle.job.proofs.Steps.{passed, coincide_false, apart_tested}
use Rattle.job.proofs.Rising.{Rising, none, more}
use Rattle.job_writer.specs.declared.Listed.{Listed}
use Rattle.job_writer.specs.Listed.{Answer, listed_at, run_of, runs_from, first_of, number_before, follows, in_range, coordinates_in, run_answer, runs_answer}
use Rattle.job_writer.specs.Books.{five_of, list_of}
use Rattle.job_writer.proofs.Signed.{Held, in_range_true, held_decimetres, biased_decimetres, true_in_range, Follows, follows_true, true_follows}

-- ---- answers

-- a refusal accepts nothing
pub refused_accepted : (x : Refusal) → ◌≡◌ {A = Answer} (Err x) (Ok tt) → ⊥
refused_accepted x e = let z : ◌≡◌ {A = ℕ} 0 1 = cc in omega arith

-- of two answers neither is a refusal
pub neither : (a b : Answer) → first_of a b ≡ Ok tt → (a ≡ Ok tt) × (b ≡ Ok tt)
neither (Ok _) b e = (refl, e)
neither (Err x) b e = absurd (refused_accepted x e)

-- ---- one run

-- a run that is accepted behind the number last
pub record Good (last : ℕ) (l : Listed) : Type 0 where
  pub number_in_lem : Follows last l.number
  pub x1_in : Held l.x1
  pub y1_in : Held l.y1
  pub x2_in : Held l.x2
  pub y2_in : Held l.y2
  pub apart : Coincide (run_of l) → ⊥

-- the four tests of its coordinates
pub record Ranged (l : Listed) : Type 0 where
  pub x1_in : in_range l.x1 ≡ true
  pub y1_in : in_range l.y1 ≡ true
  pub x2_in : in_range l.x2 ≡ true
  pub y2_in : in_range l.y2 ≡ true

pub coordinates_true : (l : Listed) → coordinates_in l ≡ true → Ranged l
coordinates_true l t =
    let y2 = (and-eq-true_iff (in_range l.x1 && in_range l.y1 && in_range l.x2) (in_range l.y2)).0 t in
    let x2 = (and-eq-true_iff (in_range l.x1 && in_range l.y1) (in_range l.x2)).0 y2.0 in
    let y1 = (and-eq-true_iff (in_range l.x1) (in_range l.y1)).0 x2.0 in
    record { x1_in = y1.0; y1_in = y1.1; x2_in = x2.1; y2_in = y2.1 }

-- the three tests of a run that is accepted
pub run_passed : (list : List ℤ) (i : ℕ) → run_answer list i ≡ Ok tt
    → (follows (number_before list i) (listed_at list i).number ≡ true) × (coordinates_in (listed_at list i) ≡ true)
    × (coincide (run_of (listed_at list i)) ≡ false)
unfolding run_answer
run_passed list i e =
    let a = passed (not (follows (number_before list i) (listed_at list i).number)) _ _ _ e (refused_accepted _) in
    let b = passed (not (coordinates_in (listed_at list i))) _ _ _ a.1 (refused_accepted _) in
    let c = passed (coincide (run_of (listed_at list i))) _ _ _ b.1 (refused_accepted _) in
    (not-false _ a.0, not-false _ b.0, c.0)

run_good : (list : List ℤ) (i last : ℕ) → number_before list i ≡ pos last → run_answer list i ≡ Ok tt → Good last (listed_at list i)
run_good list i last h e =
    let t = run_passed list i e in
    let r = coordinates_true (listed_at list i) t.1 in
    record {
      number_in_lem = follows_true last _ (ap (λ z. follows z (listed_at list i).number) (sym h) ∙ t.0);
      x1_in = in_range_true _ r.x1_in;
      y1_in = in_range_true _ r.y1_in;
      x2_in = in_range_true _ r.x2_in;
      y2_in = in_range_true _ r.y2_in;
      apart = coincide_false (run_of (listed_at list i)) t.2;
    }

-- it is in range, as a job holds it
good_range : (last : ℕ) (l : Listed) → Good last l → InRange (run_of l)
good_range last l g =
    record {
      least = g.number_in_lem.least;
      most = g.number_in_lem.most;
      x1_in = g.x1_in.most;
      y1_in = g.y1_in.most;
      x2_in = g.x2_in.most;
      y2_in = g.y2_in.most;
    }

-- its five numbers
abbrev five : Listed → List ℤ
five l = l.number ∷ l.x1 ∷ l.y1 ∷ l.x2 ∷ l.y2 ∷ []

good_five : (last : ℕ) (l : Listed) → Good last l → five_of (run_of l) ≡ five l
good_five last l g i =
    g.number_in_lem.same i
    ∷ held_decimetres l.x1 g.x1_in i
    ∷ held_decimetres l.y1 g.y1_in i
    ∷ held_decimetres l.x2 g.x2_in i
    ∷ held_decimetres l.y2 g.y2_in i
    ∷ []

-- they are what stands in the list
five_drop : (list : List ℤ) (i : ℕ) → 5 * i + 5 ≤ length list → drop (5 * i) list ≡ five (listed_at list i) ++ drop (5 * suc i) list
five_drop list i h =
    let at : ℕ = 5 * i in
    let e : 5 * suc i ≡ suc (suc (suc (suc (suc at)))) = omega arith in
    rw (e, add-one, add-two, add-three, add-four)
    (rw (
      drop-cons list at (pos 0) (omega arith),
      drop-cons list (suc at) (pos 0) (omega arith),
      drop-cons list (suc (suc at)) (pos 0) (omega arith),
      drop-cons list (suc (suc (suc at))) (pos 0) (omega arith),
      drop-cons list (suc (suc (suc (suc at)))) (pos 0) (omega arith),
    ) refl)

-- ---- from the list to the runs

pub record Taken (list : List ℤ) (left i last : ℕ) : Type 0 where
  pub up : Rising last (runs_from list left i)
  pub listed : drop (5 * i) list ≡ list_of (runs_from list left i) ++ drop (5 * (i + left)) list

pub runs_taken : (list : List ℤ) (left i last : ℕ) → 5 * (i + left) ≤ length list → number_before list i ≡ pos last → runs_answer list left i ≡ Ok tt
    → Taken list left i last
unfolding runs_from runs_answer flat_map
runs_taken list zero i last h p e = record { up = none; listed = rw (add-zero i) refl }
runs_taken list (suc left) i last h p e =
    let a = neither (run_answer list i) (runs_answer list left (suc i)) e in
    let l = listed_at list i in
    let g = run_good list i last p a.0 in
    let rest = runs_taken list left (suc i) (nat_abs l.number) (omega arith) (sym g.number_in_lem.same) a.1 in
    let s : i + suc left ≡ suc i + left = omega arith in
    record {
      up = more g.number_in_lem.rises (good_range last l g) g.apart rest.up;
      listed =
          five_drop list i (omega arith)
          ∙ ap₂ {C = List ℤ} (λ a b. a ++ b) (sym (good_five last l g)) (rest.listed ∙ ap (λ n. list_of (runs_from list left (suc i)) ++ drop (5 * n) list) (sym s));
    }

-- ---- from the runs to the list

-- a run as it is listed
abbrev as_listed : Run → Listed
as_listed r =
    record { number = pos r.number; x1 = decimetres r.x1; y1 = decimetres r.y1; x2 = decimetres r.x2; y2 = decimetres r.y2 }

-- the job holds that run
listed_run : (r : Run) → run_of (as_listed r) ≡ r
listed_run r i =
    record {
      number = r.number;
      x1 = biased_decimetres r.x1 i;
      y1 = biased_decimetres r.y1 i;
      x2 = biased_decimetres r.x2 i;
      y2 = biased_decimetres r.y2 i;
    }

-- it stands in the list where its five numbers do
field_drop : (list rest : List ℤ) (at k : ℕ) → drop at list ≡ rest → get_or list (at + k) (pos 0) ≡ get_or rest k (pos 0)
field_drop list rest at k e = sym (get_or-drop at list k (pos 0)) ∙ ap (λ l. get_or l k (pos 0)) e

stands : (list rest : List ℤ) (i : ℕ) (r : Run) → drop (5 * i) list ≡ five_of r ++ rest → listed_at list i ≡ as_listed r
stands list rest i r e j =
    record {
      number = (ap (λ n. get_or list n (pos 0)) (sym (add-zero (5 * i))) ∙ field_drop list _ (5 * i) 0 e) j;
      x1 = field_drop list _ (5 * i) 1 e j;
      y1 = field_drop list _ (5 * i) 2 e j;
      x2 = field_drop list _ (5 * i) 3 e j;
      y2 = field_drop list _ (5 * i) 4 e j;
    }

-- a run in range and between two points, above the number before it, is accepted
listed_accepted : (list : List ℤ) (i last : ℕ) (r : Run) → number_before list i ≡ pos last → listed_at list i ≡ as_listed r → last < r.number → InRange r → (Coincide r → ⊥)
    → run_answer list i ≡ Ok tt
unfolding run_answer
listed_accepted list i last r p e up h apart =
    let f : follows (number_before list i) (listed_at list i).number ≡ true =
    ap₂ follows p (ap (λ l. l.number) e) ∙ true_follows last r.number h.least h.most up in
    let c : coordinates_in (listed_at list i) ≡ true =
    ap coordinates_in e
    ∙ simp (
      true_in_range r.x1 h.x1_in,
      true_in_range r.y1 h.y1_in,
      true_in_range r.x2 h.x2_in,
      true_in_range r.y2 h.y2_in,
    ) in
    let d : coincide (run_of (listed_at list i)) ≡ false = ap (λ l. coincide (run_of l)) e ∙ ap coincide (listed_run r) ∙ apart_tested r apart in
    rw (f, c, d) refl

-- the runs that the list has from index i on
pub record Back (list : List ℤ) (runs : List Run) (i : ℕ) : Type 0 where
  pub accepted : runs_answer list (length runs) i ≡ Ok tt
  pub same : runs_from list (length runs) i ≡ runs

pub runs_back : (list : List ℤ) (runs : List Run) (i last : ℕ) → number_before list i ≡ pos last → drop (5 * i) list ≡ list_of runs → Rising last runs
    → Back list runs i
unfolding runs_from runs_answer flat_map
runs_back list [] i last p e up = record { accepted = refl; same = refl }
runs_back list (r ∷ runs) i last p e (more above range apart rest) =
    let s = stands list (list_of runs) i r e in
    let n : 5 * suc i ≡ 5 * i + 5 = omega arith in
    let d : drop (5 * suc i) list ≡ list_of runs = rw n (sym (drop-drop 5 (5 * i) list) ∙ ap (drop 5) e) in
    let later = runs_back list runs (suc i) r.number (ap (λ l. l.number) s) d rest in
    record {
      accepted = rw (listed_accepted list i last r p s above range apart) later.accepted;
      same = ap₂ {C = List Run} (λ q qs. q ∷ qs) (ap run_of s ∙ listed_run r) later.same;
    }

-- ---- run by run, as a loop goes

-- of so many runs, those from index i on
pub left_more : (count i : ℕ) → i < count → count - i ≡ suc (count - (i + 1))
left_more count i h = omega arith

pub answers_next : (list : List ℤ) (count i : ℕ) → i < count
    → runs_answer list (count - i) i ≡ first_of (run_answer list i) (runs_answer list (count - (i + 1)) (i + 1))
unfolding runs_answer
answers_next list count i h = rw (left_more count i h, add-one i) refl

pub answers_end : (list : List ℤ) (count i : ℕ) → count ≤ i → runs_answer list (count - i) i ≡ Ok tt
unfolding runs_answer
answers_end list count i h = let e : count - i ≡ 0 = omega arith in rw e refl

-- ---- how many

pub runs_count : (list : List ℤ) (left i : ℕ) → length (runs_from list left i) ≡ left
unfolding runs_from
runs_count list zero i = refl
runs_count list (suc left) i = ap suc (runs_count list left (suc i))

pub list_length : (runs : List Run) → length (list_of runs) ≡ 5 * length runs
unfolding flat_map
list_length [] = refl
list_length (r ∷ runs) = omega (arith, list_length runs)
