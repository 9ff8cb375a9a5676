-- Unit steps: each is along a row or along a column and digs one unit edge, so those at each column and at each row are together no more than all.
-- Steps that dig the same unit edge have the same two ends.
use mathlib.Core.Path.{◌≡◌, refl, sym, ap₂, ◌∙◌}
use mathlib.Core.Logic.{◌⊎◌, inl, inr, ⊎_map}
use mathlib.Core.List.{List, [], ◌∷◌}
use mathlib.Core.Bool.{Bool, true, cond}
use Prim.Native.Nat.{ℕ, suc, ◌+◌, ◌≤◌, ◌<◌, min}
use native.Mathlib.Omega.{arith}
use lib.ListN.{length}
use Rattle.network.specs.Lists.{count, All}
use Rattle.network.specs.Plane.{Point, Run, ◌to◌, gap, distance, same_point}
use Rattle.network.specs.Grid.{Edge, across, upward}
use Rattle.network.specs.Route.{lies}
use Rattle.network.proofs.Tests.{and_split, and_join, or_split, or_join, lies_true, lies_turned}
use Rattle.network.proofs.Numbers.{order}
use Rattle.network.proofs.Sums.{sum_to, sum_to_zero, sum_to_add}
use Rattle.network.proofs.Corners.{point_true, true_point}
use Rattle.network.proofs.Moved.{moved_piece}
use Rattle.network.proofs.Turned.{turned}
use Rattle.unit.specs.Paths.{UnitStep, same_step, same_edge}
use Rattle.unit.proofs.Totals.{none_passes, one_passes}

-- ---- one step

-- a unit step goes along a row or along a column
pub unit_kind : (r : Run) → UnitStep r
    → ((r.first.y ≡ r.second.y) × (gap r.first.x r.second.x ≡ 1)) ⊎ ((r.first.x ≡ r.second.x) × (gap r.first.y r.second.y ≡ 1))
unfolding distance gap
unit_kind r h = go (order (gap r.first.x r.second.x) 0)
  where
    go : (gap r.first.x r.second.x ≤ 0) ⊎ (0 < gap r.first.x r.second.x)
        → ((r.first.y ≡ r.second.y) × (gap r.first.x r.second.x ≡ 1)) ⊎ ((r.first.x ≡ r.second.x) × (gap r.first.y r.second.y ≡ 1))
    go (inl k) = inr (omega arith)
    go (inr k) = inl (omega arith)

-- the step goes from column x to column x + 1 or back, and from row y to row y + 1 or back
abbrev pub across_from : ℕ → Run → Bool
across_from x r = lies (across x (suc x) r.first.y) r

abbrev pub upward_from : ℕ → Run → Bool
upward_from y r = lies (upward r.first.x y (suc y)) r

-- it does one of these, for one x or y
one_step : (n m : ℕ) (r : Run) → UnitStep r → sum_to n (λ x. cond (across_from x r) 1 0) + sum_to m (λ y. cond (upward_from y r) 1 0) ≤ 1
unfolding gap
one_step n m r u = go (unit_kind r u)
  where
    go : ((r.first.y ≡ r.second.y) × (gap r.first.x r.second.x ≡ 1)) ⊎ ((r.first.x ≡ r.second.x) × (gap r.first.y r.second.y ≡ 1))
        → sum_to n (λ x. cond (across_from x r) 1 0) + sum_to m (λ y. cond (upward_from y r) 1 0) ≤ 1
    go (inl k) =
        omega (
          arith,
          one_passes n (min r.first.x r.second.x) (λ x. across_from x r) (λ x h. omega (arith, lies_true (across x (suc x) r.first.y) r h)),
          none_passes m (λ y. upward_from y r) (λ y h. omega (arith, lies_true (upward r.first.x y (suc y)) r h)),
        )
    go (inr k) =
        omega (
          arith,
          none_passes n (λ x. across_from x r) (λ x h. omega (arith, lies_true (across x (suc x) r.first.y) r h)),
          one_passes m (min r.first.y r.second.y) (λ y. upward_from y r) (λ y h. omega (arith, lies_true (upward r.first.x y (suc y)) r h)),
        )

-- so the steps at each column and at each row are together no more than all
pub all_steps : (n m : ℕ) (l : List Run) → All UnitStep l
    → sum_to n (λ x. count (across_from x) l) + sum_to m (λ y. count (upward_from y) l) ≤ length l
all_steps n m [] u = omega (arith, sum_to_zero n (λ x. 0) (λ i h. refl), sum_to_zero m (λ x. 0) (λ i h. refl))
all_steps n m (r ∷ l) u =
    omega (
      arith,
      sum_to_add n (λ x. cond (across_from x r) 1 0) (λ x. count (across_from x) l),
      sum_to_add m (λ y. cond (upward_from y r) 1 0) (λ y. count (upward_from y) l),
      one_step n m r u.0,
      all_steps n m l u.1,
    )

-- ---- steps that dig the same unit edge

-- they are between the same two points, one way or the other
abbrev pub Same-ends : Run → Run → Type 0
Same-ends r s = ((r.first ≡ s.first) × (r.second ≡ s.second)) ⊎ ((r.first ≡ s.second) × (r.second ≡ s.first))

-- the same step
step_true : (r s : Run) → same_step r s ≡ true → (r.first ≡ s.first) × (r.second ≡ s.second)
unfolding same_step
step_true r s h =
    let (a, b) = and_split (same_point r.first s.first) (same_point r.second s.second) h in
    (point_true r.first s.first a, point_true r.second s.second b)

true_step : (r s : Run) → (r.first ≡ s.first) × (r.second ≡ s.second) → same_step r s ≡ true
unfolding same_step
true_step r s h =
    and_join (same_point r.first s.first) (same_point r.second s.second) (true_point r.first s.first h.0) (true_point r.second s.second h.1)

-- the test and what it says
same_ends : (r s : Run) → same_edge r s ≡ true → Same-ends r s
unfolding same_edge
same_ends r s h = ⊎_map (step_true r s) (step_true r (turned s)) (or_split (same_step r s) (same_step r (turned s)) h)

pub ends_same : (r s : Run) → Same-ends r s → same_edge r s ≡ true
unfolding same_edge
ends_same r s h = or_join (same_step r s) (same_step r (turned s)) (⊎_map (true_step r s) (true_step r (turned s)) h)

-- steps that dig the edge of one step dig one edge
pub same_both : (r s d : Run) → same_edge r d ≡ true → same_edge s d ≡ true → same_edge r s ≡ true
same_both r s d h k = ends_same r s (go (same_ends r d h) (same_ends s d k))
  where
    go : Same-ends r d → Same-ends s d → Same-ends r s
    go (inl a) (inl b) = inl (a.0 ∙ sym b.0, a.1 ∙ sym b.1)
    go (inl a) (inr b) = inr (a.0 ∙ sym b.1, a.1 ∙ sym b.0)
    go (inr a) (inl b) = inr (a.0 ∙ sym b.1, a.1 ∙ sym b.0)
    go (inr a) (inr b) = inl (a.0 ∙ sym b.0, a.1 ∙ sym b.1)

-- wherever the points are moved, an edge that lies on the one then lies on the other
pub same_lies : (f : Point → Point) (e : Edge) (r s : Run) → same_edge r s ≡ true → lies e (moved_piece f r) ≡ lies e (moved_piece f s)
same_lies f e r s h = go (same_ends r s h)
  where
    go : Same-ends r s → lies e (moved_piece f r) ≡ lies e (moved_piece f s)
    go (inl k) = ap₂ (λ p q. lies e (f p to f q)) k.0 k.1
    go (inr k) = ap₂ (λ p q. lies e (f p to f q)) k.0 k.1 ∙ lies_turned e (f s.second) (f s.first)
