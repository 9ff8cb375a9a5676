-- Unit steps rounded at the emptiest cut of each gap between lines: the edges of the grid that they are on are together no longer than the unit edges
-- that they were on.
--
-- An edge on a rounded step has a unit edge on the step itself, at the cut of the edge's gap and in a row that is rounded to the edge's own.
use mathlib.Core.Path.{◌≡◌, refl, sym, ap, ◌∙◌}
use mathlib.Core.Logic.{◌⊎◌, inl, inr, ⊎_swap}
use mathlib.Core.List.{List, map, flat_map, Memᴰ as Member}
use mathlib.Core.Bool.{Bool, true, cond}
use Prim.Native.Nat.{ℕ, suc, pred, ◌-◌, ◌≤◌, ◌<◌}
use native.Mathlib.Omega.{arith}
use lib.ListN.{length, get_or}
use Rattle.network.specs.Lists.{sum, any, count, All, unique}
use Rattle.network.specs.Plane.{Point, Run}
use Rattle.network.specs.Grid.{Grid, Edge, across, upward, len, across_at, upward_at, edges}
use Rattle.network.specs.Route.{Route, pieces, Straight, lies, on, union_length}
use Rattle.network.proofs.Tests.{Level, Spans, Lies, lies_true, true_lies}
use Rattle.network.proofs.Lists.{any_true, all_member}
use Rattle.network.proofs.Lanes.{point_path}
use Rattle.network.proofs.Sums.{sum_cong, sum_to_swap}
use Rattle.network.proofs.Edges.{sum_edges}
use Rattle.network.proofs.Repeats.{unique_all, unique_any}
use Rattle.network.proofs.Moved.{moved_piece, on_moved_lem}
use Rattle.unit.specs.Paths.{UnitStep, same_edge, unit_length}
use Rattle.unit.proofs.Cuts.{Cuts, cuts, rounded, rounded_listed, rounded_between, line_of, rounded_line, rounded_spans}
use Rattle.unit.proofs.Narrower.{Found, narrower}
use Rattle.unit.proofs.Edges.{across_from, upward_from, all_steps, same_lies}
use Rattle.unit.proofs.Rounding.{unit_straight, Rounds}

-- ---- one step, in either direction: x goes along the edge, y across it

module _ (l k : List ℕ) (f h c d line line' : ℕ → ℕ) (w : Cuts l f c line) (v : Cuts k h d line') where
  step_back : (x x' y y' i j : ℕ) → (x ≡ x') ⊎ (y ≡ y') → suc i < length l → j < length k
      → Level (rounded k line' y) (rounded k line' y') (get_or k j 0) × Spans (rounded l line x) (rounded l line x') (get_or l i 0) (get_or l (suc i) 0)
      → (line' y ≡ j) × (Level y y' y × Spans x x' (c i) (suc (c i)))
  step_back x x' y y' i j (inl e) a b s = absurd (omega (arith, ap (rounded l line) e, w.rises i a))
  step_back x x' y y' i j (inr e) a b s = (
    line_of k h d line' v (omega arith) y j b s.0.first_at_lem,
    (record { first_at_lem = refl; second_at_lem = sym e }, rounded_spans l f c line w (omega arith) x x' i a s.1),
  )

-- ---- the plane

abbrev round : Grid → (line line' : ℕ → ℕ) → Point → Point
round g line line' p = record { x = rounded g.columns line p.x; y = rounded g.rows line' p.y }

rounds : (g : Grid) (f h c d line line' : ℕ → ℕ) → Cuts g.columns f c line → Cuts g.rows h d line' → 0 < length g.columns → 0 < length g.rows
    → Rounds g (round g line line')
rounds g f h c d line line' w v a b =
    record {
      vertex = λ p. record { column = rounded_listed g.columns f c line w a p.x; row = rounded_listed g.rows h d line' v b p.y };
      fixed = λ p u. point_path (rounded_line g.columns f c line w a p.x u.column) (rounded_line g.rows h d line' v b p.y u.row);
      same_x_lem = λ e. ap (rounded g.columns line) e;
      same_y_lem = λ e. ap (rounded g.rows line') e;
      goes = λ t. record { in_x = rounded_between g.columns f c line w a t.in_x; in_y = rounded_between g.rows h d line' v b t.in_y };
    }

-- the edge lies on one of the steps, with their points moved
abbrev on_moved : (Point → Point) → List Run → Edge → Bool
on_moved f steps e = any (λ r. lies e (moved_piece f r)) steps

module _ (g : Grid) (steps : List Run) (unit : All UnitStep steps) (c d line line' : ℕ → ℕ)
    (w : Cuts g.columns (λ x. count (across_from x) steps) c line) (v : Cuts g.rows (λ y. count (upward_from y) steps) d line') where
  -- a step that is rounded onto an edge
  rounded_onto : (e : Edge) → on_moved (round g line line') steps e ≡ true → (r : Run) × Member r steps × Straight r × Lies e (moved_piece (round g line line') r)
  rounded_onto e u =
      let (r, m, k) = any_true (λ r. lies e (moved_piece (round g line line') r)) steps u in
      (r, m, unit_straight r (all_member UnitStep unit m), lies_true e (moved_piece (round g line line') r) k)

  -- an edge of a row that is used after rounding, and one of a column
  found_across : Found g.columns g.rows steps across_from c (λ r. line' r.first.y) (λ i j. on_moved (round g line line') steps (across_at g i j))
  found_across i j a b u =
      let (r, m, s, k) = rounded_onto (across_at g i j) u in
      let (e, h) = step_back g.columns g.rows _ _ c d line line' w v r.first.x r.second.x r.first.y r.second.y i j s a b k in
      (r, m, e, true_lies (across (c i) (suc (c i)) r.first.y) r h)

  found_upward : Found g.rows g.columns steps upward_from d (λ r. line r.first.x) (λ j i. on_moved (round g line line') steps (upward_at g i j))
  found_upward j i a b u =
      let (r, m, s, k) = rounded_onto (upward_at g i j) u in
      let (e, h) = step_back g.rows g.columns _ _ d c line' line v w r.first.y r.second.y r.first.x r.second.x j i (⊎_swap s) a b k in
      (r, m, e, true_lies (upward r.first.x (d j) (suc (d j))) r h)

  no_longer : sum (λ e. cond (on_moved (round g line line') steps e) (len e) 0) (edges g) ≤ length steps
  unfolding len
  no_longer =
      let used = on_moved (round g line line') steps in
      omega (
        arith,
        sum_edges g (λ e. cond (used e) (len e) 0),
        narrower g.columns g.rows steps across_from c line (λ r. line' r.first.y) (λ i j. used (across_at g i j)) w found_across,
        sum_to_swap (length g.columns) (pred (length g.rows)) (λ i j. cond (used (upward_at g i j)) (get_or g.rows (suc j) 0 - get_or g.rows j 0) 0),
        narrower g.rows g.columns steps upward_from d line' (λ r. line r.first.x) (λ j i. used (upward_at g i j)) v found_upward,
        all_steps (get_or g.columns (pred (length g.columns)) 0) (get_or g.rows (pred (length g.rows)) 0) steps unit,
      )

-- ---- the emptiest cuts

-- any unit steps
emptiest : (g : Grid) (steps : List Run) → All UnitStep steps → 0 < length g.columns → 0 < length g.rows
    → (f : Point → Point) × Rounds g f × (sum (λ e. cond (on_moved f steps e) (len e) 0) (edges g) ≤ length steps)
emptiest g steps unit a b =
    let (c, line, w) = cuts g.columns g.columns_rise (λ x. count (across_from x) steps) in
    let (d, line', v) = cuts g.rows g.rows_rise (λ y. count (upward_from y) steps) in
    (round g line line', rounds g _ _ c d line line' w v a b, no_longer g steps unit c d line line' w v)

-- the steps of paths, with repeats left out: the paths can be rounded so that their union is no longer than it was
pub emptiest_union : (g : Grid) (paths : List Route) → All UnitStep (flat_map pieces paths) → 0 < length g.columns → 0 < length g.rows
    → (f : Point → Point) × Rounds g f × (union_length g (map (map f) paths) ≤ unit_length paths)
unfolding unit_length union_length
emptiest_union g paths unit a b =
    let steps = flat_map pieces paths in
    let (f, w, h) = emptiest g (unique same_edge steps) (unique_all same_edge UnitStep steps unit) a b in
    (f, w, omega (arith, sum_cong _ _ (edges g) (λ e m. ap (λ t. cond t (len e) 0) (same f e)), h))
  where
    -- leaving repeats out changes no edge of the rounded union
    same : (f : Point → Point) (e : Edge) → any (on e) (map (map f) paths) ≡ on_moved f (unique same_edge (flat_map pieces paths)) e
    same f e = on_moved_lem f e paths ∙ sym (unique_any same_edge (λ r. lies e (moved_piece f r)) (same_lies f e) (flat_map pieces paths))
