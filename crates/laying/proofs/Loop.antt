-- The loop over the centres: nothing is laid at first, a run that is not its own centre is passed over, and a centre adds its group.
-- What is laid for a group stays as long as the steps of its runs do. The loop in it over the runs likewise: a run of another group is passed over.
use mathlib.Core.Path.{◌≡◌, refl, sym, ap, ap₂, ◌∙◌, subst}
use mathlib.Core.Logic.{◌⊎◌, inl, inr}
use mathlib.Core.Bool.{cond}
use mathlib.Core.List.{List}
use Prim.Native.Nat.{ℕ, suc, ◌+◌, ◌≤◌, ◌<◌}
use native.Mathlib.Nat.{eq-or-lt_of_le, add-zero}
use native.Mathlib.Numerals.{add-one}
use native.Mathlib.Omega.{arith}
use lib.Dec.{eqb}
use borrow.Author.Count.{below_more}
use borrow.Author.Tests.{eq-eqb, ne_eqb}
use lib.ListN.{length, get_or}
use Rattle.network.specs.Lists.{sum}
use Rattle.network.specs.Plane.{Run}
use Rattle.network.proofs.Sums.{sum_cong}
use Rattle.sharing.specs.Trace.{Move}
use Rattle.table.specs.Side.{Side}
use Rattle.table.specs.Rule.{Beyond}
use Rattle.layout.specs.Points.{points_of}
use Rattle.layout.specs.Laid.{Laid}
use Rattle.groups.specs.Groups.{heads}
use Rattle.groups.proofs.Parts.{head_of, heads_next}
use Rattle.laying.specs.Lease.{GroupWritten, Served}

-- what stands behind stays, step by step
pub beyond_on : (a b c : List ℕ) (n : ℕ) → Beyond a b n → Beyond b c n → Beyond a c n
beyond_on a b c n p q = record { size = q.size ∙ p.size; same = λ k h. q.same k h ∙ p.same k h }

pub beyond_self : (a : List ℕ) (n : ℕ) → Beyond a a n
beyond_self a n = record { size = refl; same = λ k h. refl }

-- ---- the runs of a group

module _ (xs ys : Side) (centres : List ℕ) (c : ℕ) (moves : List Move) where
  -- before the first run none is laid
  pub laid_none : (steps : ℕ → List ℕ) → GroupWritten xs ys 0 centres c moves steps steps
  laid_none steps = record { laid = λ k h. absurd (omega arith); others = λ k d. refl }

  -- run k has another centre
  pub laid_skip : {k : ℕ} {old new : ℕ → List ℕ} → ¬ (get_or centres k 0 ≡ c) → GroupWritten xs ys k centres c moves old new → GroupWritten xs ys (k + 1) centres c moves old new
  laid_skip {k} {old} {new} d G =
      record {
        laid = below_more (λ j. get_or centres j 0 ≡ c → Laid (points_of xs ys c) (points_of xs ys j) c moves j (new j)) k G.laid (λ e. absurd (d e));
        others = λ j f. G.others j (λ h. f (omega arith));
      }

  -- run k has this one, and is laid
  pub laid_next : {k : ℕ} {old new then : ℕ → List ℕ} → get_or centres k 0 ≡ c → Laid (points_of xs ys c) (points_of xs ys k) c moves k (then k)
      → ((j : ℕ) → ¬ (j ≡ k) → then j ≡ new j) → GroupWritten xs ys k centres c moves old new → GroupWritten xs ys (k + 1) centres c moves old then
  laid_next {k} {old} {new} {then} own L same G =
      record {
        laid = below_more (λ j. get_or centres j 0 ≡ c → Laid (points_of xs ys c) (points_of xs ys j) c moves j (then j)) k
            (λ j h e. rw (same j (λ q. omega arith)) (G.laid j h e)) (λ e. L);
        others = λ j f. same j (λ e. f (omega arith) (subst (λ i. get_or centres i 0 ≡ c) (sym e) own)) ∙ G.others j (λ h. f (omega arith));
      }

-- ---- the groups

module _ (runs : List Run) (xs ys : Side) (centres : List ℕ) where
  abbrev centre : ℕ → ℕ
  centre k = get_or centres k 0

  -- the groups whose centres are below i are laid, and share together what is saved
  pub record Progress (i saved : ℕ) (steps : ℕ → List ℕ) : Type 0 where
    pub size : ℕ → ℕ
    pub total : saved ≡ sum size (heads (λ k. get_or centres k 0) i)
    pub served : (c : ℕ) → c < i → get_or centres c 0 ≡ c → Served runs xs ys centres c (size c) steps

  -- other steps of other groups
  pub served_kept : {c size : ℕ} {steps others : ℕ → List ℕ} → ((k : ℕ) → k < length runs → centre k ≡ c → others k ≡ steps k)
      → Served runs xs ys centres c size steps → Served runs xs ys centres c size others
  served_kept {c} h D =
      record {
        table = D.table;
        moves = D.moves;
        exact = D.exact;
        traced = D.traced;
        says = D.says;
        laid = λ k l z. rw (h k l z) (D.laid k l z);
      }

  pub progress_start : (steps : ℕ → List ℕ) → Progress 0 0 steps
  unfolding heads
  progress_start steps = record { size = λ c. 0; total = refl; served = λ c h e. absurd (omega arith) }

  -- run i is not its own centre
  skip : (i saved : ℕ) (steps : ℕ → List ℕ) → ¬ (centre i ≡ i) → Progress i saved steps → Progress (suc i) saved steps
  skip i saved steps d P =
      record {
        size = P.size;
        total = P.total ∙ sym (add-zero (sum P.size (heads centre i))) ∙ sym (heads_next centre i P.size ∙ ap (λ b. sum P.size (heads centre i) + cond b (P.size i) 0) (ne_eqb (centre i) i d));
        served = λ c h e. go c h e (eq-or-lt_of_le (upto c h));
      }
    where
      upto : (c : ℕ) → c < suc i → c ≤ i
      upto c h = omega arith

      go : (c : ℕ) → c < suc i → centre c ≡ c → (c ≡ i) ⊎ (c < i) → Served runs xs ys centres c (P.size c) steps
      go c h e (inl q) = absurd (d (subst (λ c. centre c ≡ c) q e))
      go c h e (inr l) = P.served c l e

  -- run i is, and its group is laid; the routes of the other groups stay
  step : (i n saved : ℕ) (steps others : ℕ → List ℕ) → centre i ≡ i → Progress i saved steps
      → Served runs xs ys centres i n others → ((k : ℕ) → k < length runs → ¬ (centre k ≡ i) → others k ≡ steps k)
      → Progress (suc i) (saved + n) others
  step i n saved steps others own P D kept =
      record { size = size; total = total; served = λ c h e. go c e (eq-or-lt_of_le (upto c h)) }
    where
      size : ℕ → ℕ
      size c = cond (eqb c i) n (P.size c)

      here : size i ≡ n
      here = rw (eq-eqb i i refl)

      before : (c : ℕ) → c < i → size c ≡ P.size c
      before c l = rw (ne_eqb c i (λ e. omega arith))

      total : saved + n ≡ sum size (heads centre (suc i))
      total =
          ap₂ ◌+◌ (P.total ∙ sym (sum_cong size P.size (heads centre i) (λ c m. before c (head_of centre i c m).0))) (sym here)
          ∙ sym (heads_next centre i size ∙ ap (λ b. sum size (heads centre i) + cond b (size i) 0) (eq-eqb (centre i) i own))

      upto : (c : ℕ) → c < suc i → c ≤ i
      upto c h = omega arith

      go : (c : ℕ) → centre c ≡ c → (c ≡ i) ⊎ (c < i) → Served runs xs ys centres c (size c) others
      go c e (inl q) = subst (λ c. Served runs xs ys centres c (size c) others) (sym q) (subst (λ m. Served runs xs ys centres i m others) (sym here) D)
      go c e (inr l) =
          subst (λ m. Served runs xs ys centres c m others) (sym (before c l))
          (served_kept (λ k h z. kept k h (λ q. omega arith)) (P.served c l e))

  -- the same, as the loop counts
  pub progress_skip : (i saved : ℕ) (steps : ℕ → List ℕ) → ¬ (centre i ≡ i) → Progress i saved steps → Progress (i + 1) saved steps
  progress_skip i saved steps d P = subst (λ m. Progress m saved steps) (sym (add-one i)) (skip i saved steps d P)

  pub progress_step : (i n saved : ℕ) (steps others : ℕ → List ℕ) → centre i ≡ i → Progress i saved steps
      → Served runs xs ys centres i n others → ((k : ℕ) → k < length runs → ¬ (centre k ≡ i) → others k ≡ steps k)
      → Progress (i + 1) (saved + n) others
  progress_step i n saved steps others own P D kept = subst (λ m. Progress m (saved + n) others) (sym (add-one i)) (step i n saved steps others own P D kept)
