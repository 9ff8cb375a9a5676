-- The runs of a group can be laid by the centre's moves that are traced in its table: the boxes that the code works with have the steps of the boxes on the
-- grid, each leaf's steps lead from its first point to its second, and the moves that are shared with it are consecutive.
use mathlib.Core.Path.{◌≡◌, sym, ap, ap₂, ◌∙◌}
use mathlib.Core.Logic.{◌⊎◌, inl, inr}
use mathlib.Core.Bool.{Bool, true, false, cond}
use mathlib.Core.List.{List, reverse, reverse-reverse}
use Prim.Native.Nat.{ℕ, ◌+◌, ◌-◌, ◌≤◌, ◌<◌}
use native.Mathlib.Omega.{arith}
use borrow.Author.Tests.{eq-eqb, ne_eqb}
use lib.Dec.{eqb}
use lib.ListN.{length}
use Rattle.network.specs.Plane.{Run, gap}
use Rattle.network.specs.Grid.{Grid}
use Rattle.network.specs.Graph.{meets}
use Rattle.network.specs.Steps.{Dir, hor, ver, steps}
use Rattle.network.proofs.Numbers.{gap_rise}
use Rattle.network.proofs.Meeting.{meets_true}
use Rattle.sharing.specs.Table.{Table}
use Rattle.sharing.specs.Trace.{Move}
use Rattle.sharing.specs.Walk.{dirs, moved, Traced}
use Rattle.sharing.specs.Leaf.{before, stretch, via, leaf_steps}
use Rattle.sharing.specs.View.{lines, index}
use Rattle.sharing.specs.Star.{star_of, Centred, steps_of}
use Rattle.sharing.proofs.Leaf.{leaf_leads}
use Rattle.sharing.proofs.Centre.{leaf_is, separate}
use Rattle.table.specs.Side.{Side}
use Rattle.table.specs.OnSides.{first_at, second_at, OnSides, view_by, box_by}
use Rattle.layout.specs.Points.{points_of, goes_back, box64}
use Rattle.layout.specs.Laid.{steps_by, Layable}
use Rattle.layout.proofs.Consecutive.{kept_together}
use Rattle.layout.proofs.Lifting.{gap_lifted, lifted, via_lifted}

-- the number of a line among 64, by its number among n
number_lifted : (f : Bool) (n i : ℕ) → i < n → n ≤ 64 → index f 64 i ≡ cond f (64 - n) 0 + index f n i
number_lifted true n i h k = omega arith
number_lifted false n i h k = omega arith

-- ---- the boxes

module _ (g : Grid) (runs : List Run) (xs ys : Side) (c leaves : ℕ) (S : OnSides g runs xs ys c leaves) (few : (d : Dir) → length (lines g d) ≤ 64) where
  -- how much higher the lines are counted that the code works with
  lift : Dir → ℕ
  lift d = cond ((view_by g xs ys c).flip d) (64 - length (lines g d)) 0

  -- the first point's lines
  first_lifted : (k : ℕ) → k < length runs → (d : Dir) → (box64 (points_of xs ys c) (points_of xs ys k)).first d ≡ lift d + (box_by g xs ys c k).first d
  unfolding lift goes_back
  first_lifted k h hor = number_lifted ((view_by g xs ys c).flip hor) (length (lines g hor)) (first_at xs ys k hor) ((S.first_at_lem k h).fits hor) (few hor)
  first_lifted k h ver = number_lifted ((view_by g xs ys c).flip ver) (length (lines g ver)) (first_at xs ys k ver) ((S.first_at_lem k h).fits ver) (few ver)

  -- and the second's
  second_lifted : (k : ℕ) → k < length runs → (d : Dir) → (box64 (points_of xs ys c) (points_of xs ys k)).second d ≡ lift d + (box_by g xs ys c k).second d
  unfolding lift goes_back
  second_lifted k h hor = number_lifted ((view_by g xs ys c).flip hor) (length (lines g hor)) (second_at xs ys k hor) ((S.second_at_lem k h).fits hor) (few hor)
  second_lifted k h ver = number_lifted ((view_by g xs ys c).flip ver) (length (lines g ver)) (second_at xs ys k ver) ((S.second_at_lem k h).fits ver) (few ver)

  -- its boxes have the steps of the view's
  pub steps_lifted : (moves : List Move) → c < length runs → (k : ℕ) → k < length runs → steps_by (box64 (points_of xs ys c) (points_of xs ys c)) (box64 (points_of xs ys c) (points_of xs ys k)) c moves k ≡ steps_by (box_by g xs ys c c) (box_by g xs ys c k) c moves k
  steps_lifted moves h k i =
      let near : (d : Dir) → (box64 (points_of xs ys c) (points_of xs ys c)).first d + moved d (before k moves) ≡ lift d + ((box_by g xs ys c c).first d + moved d (before k moves))
      = λ d. omega (arith, first_lifted c h d) in
      let box : box64 (points_of xs ys c) (points_of xs ys k) ≡ lifted lift (box_by g xs ys c k) = λ j. record { first = λ d. first_lifted k i d j; second = λ d. second_lifted k i d j } in
      ap (cond (eqb k c) (dirs moves))
      ((λ j. via (box j) (λ d. near d j) (dirs (stretch k moves)))
      ∙ via_lifted lift (box_by g xs ys c k) (λ d. (box_by g xs ys c c).first d + moved d (before k moves)) (dirs (stretch k moves)))

  -- ---- the moves

  module _ (C : Centred (view_by g xs ys c) runs (box_by g xs ys c) c) (T : Table) (moves : List Move)
      (traced : Traced (star_of (view_by g xs ys c) runs (box_by g xs ys c) c) T moves) where
    -- run k is the centre or a leaf
    abbrev InGroup : ℕ → Type 0
    InGroup k = (k ≡ c) ⊎ (meets g runs c k ≡ true)

    not_centre : (k : ℕ) → meets g runs c k ≡ true → ¬ (k ≡ c)
    not_centre k m e = (meets_true g runs c k m).0 (sym e)

    -- the steps by the boxes are those of the star
    pub steps_are : (k : ℕ) → InGroup k
        → steps_by (box_by g xs ys c c) (box_by g xs ys c k) c moves k ≡ steps_of (star_of (view_by g xs ys c) runs (box_by g xs ys c) c) c moves k
    steps_are k (inl e) = rw (eq-eqb k c e)
    steps_are k (inr m) =
        ap (λ b. cond (eqb k c) (dirs moves) (via b (λ d. (box_by g xs ys c c).first d + moved d (before k moves)) (dirs (stretch k moves))))
        (sym (leaf_is (view_by g xs ys c) runs (box_by g xs ys c) c C k m))

    leads : (k : ℕ) → InGroup k → (d : Dir)
        → steps d (steps_by (box_by g xs ys c c) (box_by g xs ys c k) c moves k) ≡ gap ((box_by g xs ys c k).first d) ((box_by g xs ys c k).second d)
    leads k (inl e) d =
        rw (eq-eqb k c e, e) (omega (arith, traced.leads d, gap_rise ((box_by g xs ys c c).first d) ((box_by g xs ys c c).second d) (C.rises d)))
    leads k (inr m) d =
        let v = view_by g xs ys c in
        let box = box_by g xs ys c in
        let I = star_of v runs box c in
        ap (steps d) (steps_are k (inr m) ∙ ap (λ t. cond t (dirs moves) (leaf_steps I k moves)) (ne_eqb k c (not_centre k m)))
        ∙ (rw reverse-reverse at (leaf_leads I (separate v runs box c C) k (reverse moves) traced.kept d))
        ∙ ap (λ b. gap (b.first d) (b.second d)) (leaf_is v runs box c C k m)

    -- the moves fit a run of the group
    pub traced_layable : (k : ℕ) → k < length runs → InGroup k → Layable (points_of xs ys c) (points_of xs ys k) c moves k
    traced_layable k h p =
        record {
          in_columns = (omega (arith, (S.first_at_lem k h).fits hor, few hor), omega (arith, (S.second_at_lem k h).fits hor, few hor));
          in_rows = (omega (arith, (S.first_at_lem k h).fits ver, few ver), omega (arith, (S.second_at_lem k h).fits ver, few ver));
          leads = λ d. ap (steps d) (steps_lifted moves C.listed k h) ∙ leads k p d
              ∙ sym (ap₂ gap (first_lifted k h d) (second_lifted k h d) ∙ gap_lifted (lift d) ((box_by g xs ys c k).first d) ((box_by g xs ys c k).second d));
          together = λ n. kept_together (star_of (view_by g xs ys c) runs (box_by g xs ys c) c) (separate (view_by g xs ys c) runs (box_by g xs ys c) c C) k moves traced.kept;
        }
