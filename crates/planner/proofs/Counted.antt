-- The forecast is counted from the lines, and from the places of the runs' points among them.
use mathlib.Core.Path.{◌≡◌, refl, sym, ap, ap₂, ◌∙◌}
use mathlib.Core.List.{List}
use Prim.Native.Nat.{ℕ, zero, suc, ◌+◌, ◌-◌, ◌*◌, ◌<◌}
use native.Mathlib.Omega.{arith}
use native.Mathlib.Numerals.{add-one}
use lib.ListN.{get_or}
use Rattle.network.specs.Plane.{Run, ◌to◌, gap}
use Rattle.network.specs.Grid.{Grid, Rising}
use Rattle.network.specs.Hanan.{hanan}
use Rattle.network.specs.Distinct.{distinct}
use Rattle.network.specs.Route.{Listed}
use Rattle.network.specs.Lists.{sum}
use Rattle.network.specs.Graph.{below, origin}
use Rattle.network.proofs.Sums.{sum_to, sum_to_cong, sum_at, sum_below}
use Rattle.grid.specs.declared.Axis.{Axis}
use Rattle.grid.specs.Lines.{values, axis_of, index_of}
use Rattle.grid.specs.Runs.{run_held, runs_held}
use Rattle.grid.proofs.Places.{axis_count, position_line}
use Rattle.grid.proofs.Hanan.{length_runs, run_at_lem, axis_columns, axis_rows, run_placed}
use Rattle.table.specs.Side.{PlacesOf}
use Rattle.job.specs.declared.Spans.{Spans}
use Rattle.planner.specs.Forecast.{touching, lines_at, words_for, bytes_for}
use Rattle.planner.specs.Stages.{steps_on}
use Rattle.planner.proofs.Touching.{touching_gap}

-- the lines that touch a box, by the places of its sides
touching_places : (a : Axis) (l : List ℕ) → a ≡ axis_of l → Rising l → (u v : ℕ) → Listed l u → Listed l v
    → touching l u v ≡ suc (gap (index_of a.lines a.count u) (index_of a.lines a.count v))
touching_places a l e r u v h k =
    let (i, p) = position_line a l e r u h in
    let (j, q) = position_line a l e r v k in
    sym (ap₂ (touching l) p q) ∙ touching_gap l r (index_of a.lines a.count u) (index_of a.lines a.count v) i j

-- a sum, term by term
counted : (f g : ℕ → ℕ) (n : ℕ) → sum_to n (λ k. 9 + 9 * (suc (f k) + suc (g k) - 1)) ≡ 18 * n + 9 * (sum_to n f + sum_to n g)
counted f g zero = omega arith
counted f g (suc n) = omega (arith, counted f g n)

module _ (x1 y1 x2 y2 : List ℕ) (n : ℕ) (a b : Axis) (ea : a ≡ axis_of (distinct (values x1 x2 n))) (eb : b ≡ axis_of (distinct (values y1 y2 n))) where
  abbrev g : Grid
  g = hanan (runs_held x1 y1 x2 y2 n)

  -- the words
  pub words_counted : words_for (runs_held x1 y1 x2 y2 n) ≡ a.count * b.count * 4
  words_counted =
      ap₂ (λ c r. c * r * 4) (sym (axis_count a g.columns (axis_columns x1 y1 x2 y2 n a ea))) (sym (axis_count b g.rows (axis_rows x1 y1 x2 y2 n b eb)))

  module _ (x y : Spans) (pa : PlacesOf a.lines a.count x1 n x.first) (pb : PlacesOf a.lines a.count x2 n x.second)
      (qa : PlacesOf b.lines b.count y1 n y.first) (qb : PlacesOf b.lines b.count y2 n y.second) where
    -- the lines that touch run k's box
    lines_counted : (k : ℕ) → k < n → lines_at g (run_held x1 y1 x2 y2 k) ≡ suc (gap (get_or x.first k 0) (get_or x.second k 0)) + suc (gap (get_or y.first k 0) (get_or y.second k 0))
    lines_counted k h =
        let p = run_placed x1 y1 x2 y2 n k h in
        ap₂ ◌+◌
        (touching_places a g.columns (axis_columns x1 y1 x2 y2 n a ea) g.columns_rise _ _ p.first_vertex.column p.second_vertex.column
        ∙ ap₂ (λ u v. suc (gap u v)) (sym (pa k h)) (sym (pb k h)))
        (touching_places b g.rows (axis_rows x1 y1 x2 y2 n b eb) g.rows_rise _ _ p.first_vertex.row p.second_vertex.row
        ∙ ap₂ (λ u v. suc (gap u v)) (sym (qa k h)) (sym (qb k h)))

    -- the bytes
    pub bytes_counted : bytes_for (runs_held x1 y1 x2 y2 n) ≡ 22 + 18 * n + 9 * (steps_on x n + steps_on y n)
    unfolding steps_on
    bytes_counted =
        let f : ℕ → ℕ = λ k. gap (get_or x.first k 0) (get_or x.second k 0) in
        let h : ℕ → ℕ = λ k. gap (get_or y.first k 0) (get_or y.second k 0) in
        let term : Run → ℕ = λ r. 9 + 9 * (lines_at g r - 1) in
        let e = sum_at term (runs_held x1 y1 x2 y2 n) (origin to origin)
        ∙ ap (λ m. sum_to m (λ k. term (get_or (runs_held x1 y1 x2 y2 n) k (origin to origin)))) (length_runs x1 y1 x2 y2 n)
        ∙ sum_to_cong n (λ k. term (get_or (runs_held x1 y1 x2 y2 n) k (origin to origin))) (λ k. 9 + 9 * (suc (f k) + suc (h k) - 1))
        (λ k l. ap term (run_at_lem x1 y1 x2 y2 n k l) ∙ ap (λ m. 9 + 9 * (m - 1)) (lines_counted k l))
        ∙ counted f h n in
        omega (arith, e, sum_below f n, sum_below h n)

-- ---- the steps of one axis

module _ (places : Spans) where
  pub steps_none : steps_on places 0 ≡ 0
  unfolding steps_on
  steps_none = refl

  -- one run more
  pub steps_more : (n : ℕ) → steps_on places (n + 1) ≡ steps_on places n + gap (get_or places.first n 0) (get_or places.second n 0)
  unfolding steps_on
  steps_more n =
      let f : ℕ → ℕ = λ k. gap (get_or places.first k 0) (get_or places.second k 0) in
      ap (λ m. sum f (below m)) (add-one n) ∙ omega (arith, sum_below f (suc n), sum_below f n)
