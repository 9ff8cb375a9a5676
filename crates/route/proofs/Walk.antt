-- A walker on a route. The vertices that it has still to visit, `visits`, and the corners among them, `left`, go by its own steps; those of the walker
-- that has not moved are the corners of the network's route, on the grid of indexes (`corners_of`) and, once its lines are looked up, on every grid
-- (`corners_placed`).
use mathlib.Core.Path.{◌≡◌, sym, ap, ◌∙◌}
use mathlib.Core.Bool.{Bool, true, false, not}
use mathlib.Core.List.{List, [], ◌∷◌, ◌++◌}
use Prim.Native.Nat.{ℕ, zero, suc, ◌+◌, ◌-◌, ◌≤◌, ◌<◌}
use native.Mathlib.Omega.{arith}
use lib.ListN.{length, get_or, take, drop, length-map, get_or-map, drop_of_length-le}
use lib.Seq.{take-suc, drop-cons, get_or-take, length-take-le}
use lib.Dec.{eqb}
use Rattle.network.specs.Plane.{Point}
use Rattle.network.specs.Steps.{Dir, hor, ver, steps, at}
use Rattle.network.specs.Graph.{below}
use Rattle.route.specs.declared.Walker.{Walker}
use Rattle.route.specs.declared.Stepped.{Stepped}
use Rattle.route.specs.Route.{Route, dir_of, steps_of, columns_of, rows_of, OnGrid, numbered, indexed}
use Rattle.network.specs.Entries.{length_below}
use Rattle.route.specs.Walker.{heading_of, ahead, standing, next_of, stepped, Free}
use Rattle.route.specs.Marked.{indexes_of}
use Rattle.network.proofs.StepCounts.{steps_take, steps_all, step_along, step_across}
use Rattle.route.proofs.Lanes.{fits_few, columns_extent, rows_extent, lane_start, lane_following, lane_in, lane_room}
use Rattle.route.proofs.Turns.{passing, Visit, bends, trail}

-- ---- the step list

module _ (r : Route) (held : r.count ≤ length r.steps) where
  -- there are as many steps as the route counts
  pub steps_length : length (steps_of r) ≡ r.count
  unfolding steps_of
  steps_length = length-map (take r.count r.steps) dir_of ∙ length-take-le r.count r.steps held

  -- step i
  step_at : (i : ℕ) → i < r.count → get_or (steps_of r) i hor ≡ dir_of (get_or r.steps i 0)
  unfolding steps_of
  step_at i h = get_or-map dir_of (take r.count r.steps) i 0 ∙ ap dir_of (get_or-take r.count r.steps i 0 h)

  -- the steps up to it
  pub taken_next : (i : ℕ) → i < r.count → take (suc i) (steps_of r) ≡ take i (steps_of r) ++ dir_of (get_or r.steps i 0) ∷ []
  taken_next i h = take-suc (steps_of r) i hor (omega (arith, steps_length)) ∙ rw (step_at i h)

  -- from it on
  pub rest_next : (i : ℕ) → i < r.count → drop i (steps_of r) ≡ dir_of (get_or r.steps i 0) ∷ drop (suc i) (steps_of r)
  rest_next i h = drop-cons (steps_of r) i hor (omega (arith, steps_length)) ∙ rw (step_at i h)

-- how many steps along d lead to the walker
abbrev pub taken : Dir → Route → Walker → ℕ
taken d r w = steps d (take w.at (steps_of r))

-- a walker that stands on the route, where its steps lead
pub record On (r : Route) (w : Walker) : Type 0 where
  pub grid : OnGrid numbered r
  pub passed : w.at ≤ r.count
  pub column : w.here.column ≡ at (columns_of r) (taken hor r w)
  pub row : w.here.row ≡ at (rows_of r) (taken ver r w)

-- ---- on the grid of indexes

-- a route on at most 64 columns and 64 rows has at most 126 steps
pub few_steps : (r : Route) → OnGrid numbered r → length (steps_of r) ≤ 126
unfolding indexed
few_steps r g =
    omega (
      arith,
      steps_all (steps_of r),
      fits_few (below 64) (columns_of r) g.columns_fit,
      fits_few (below 64) (rows_of r) g.rows_fit,
      columns_extent r,
      rows_extent r,
      length_below 64,
    )

module _ (r : Route) (w : Walker) (o : On r w) where
  -- the walker stands in a column of each grid of indexes that the route is on
  pub column_below : (width height : ℕ) → OnGrid (indexed width height) r → w.here.column < width
  unfolding indexed
  column_below width height g = rw o.column (lane_in width r.right _ _ _ g.columns_fit (steps_take hor w.at (steps_of r)))

  -- in a row of it
  pub row_below : (width height : ℕ) → OnGrid (indexed width height) r → w.here.row < height
  unfolding indexed
  row_below width height g = rw o.row (lane_in height r.up _ _ _ g.rows_fit (steps_take ver w.at (steps_of r)))

  -- in one of 64 columns
  pub column_in : w.here.column < 64
  column_in = column_below 64 64 o.grid

  -- and of 64 rows
  pub row_in : w.here.row < 64
  row_in = row_below 64 64 o.grid

  -- its route has few steps
  pub on_few : r.count ≤ 126
  on_few = omega (arith, few_steps r o.grid, steps_length r o.grid.held)

  module _ (h : w.at < r.count) where
    -- its next step leads to a line of the grid
    pub can_step : Free r.right r.up (next_of r w) w.here
    unfolding indexed
    can_step = go (next_of r w) (taken_next r o.grid.held w.at h)
      where
        before : (d : Dir) → take (suc w.at) (steps_of r) ≡ take w.at (steps_of r) ++ d ∷ [] → taken d r w < steps d (steps_of r)
        before d e = omega (arith, ap (steps d) e, step_along d (take w.at (steps_of r)), steps_take d (suc w.at) (steps_of r))

        go : (d : Dir) → take (suc w.at) (steps_of r) ≡ take w.at (steps_of r) ++ d ∷ [] → Free r.right r.up d w.here
        go hor e = rw o.column (lane_room r.right _ _ _ o.grid.columns_fit (before hor e))
        go ver e = rw o.row (lane_room r.up _ _ _ o.grid.rows_fit (before ver e))

    -- it leads to the vertex that the walker is said to be at
    next_column_lem : (d : Dir) → take (suc w.at) (steps_of r) ≡ take w.at (steps_of r) ++ d ∷ []
        → (ahead r.right r.up d w.here).column ≡ at (columns_of r) (steps hor (take (suc w.at) (steps_of r)))
    next_column_lem hor e = rw (e, step_along hor (take w.at (steps_of r)), o.column) (sym (lane_following r.right _ _ _))
    next_column_lem ver e = rw (e, step_across hor (take w.at (steps_of r)), o.column)

    -- in its row
    next_row_lem : (d : Dir) → take (suc w.at) (steps_of r) ≡ take w.at (steps_of r) ++ d ∷ []
        → (ahead r.right r.up d w.here).row ≡ at (rows_of r) (steps ver (take (suc w.at) (steps_of r)))
    next_row_lem hor e = rw (e, step_across ver (take w.at (steps_of r)), o.row)
    next_row_lem ver e = rw (e, step_along ver (take w.at (steps_of r)), o.row) (sym (lane_following r.up _ _ _))

    -- so the walker stands on the route after the step
    on_next : On r (stepped r w).walker
    on_next =
        let e = taken_next r o.grid.held w.at h in
        record { grid = o.grid; passed = h; column = next_column_lem (next_of r w) e; row = next_row_lem (next_of r w) e }

-- the walker that has not moved stands on the route
pub on_start : (r : Route) → OnGrid numbered r → On r (standing r.start)
unfolding steps
on_start r g =
    record {
      grid = g;
      passed = omega arith;
      column = lane_start r.right r.start.column (steps hor (steps_of r));
      row = lane_start r.up r.start.row (steps ver (steps_of r));
    }

-- ---- the vertices ahead

-- the vertices from a walker on: with n steps left, and on its route
abbrev visits_in : ℕ → Route → Walker → List Visit
visits_in zero r w = record { spot = indexes_of w.here; corner = true; heading = w.heading } ∷ []
visits_in (suc n) r w = record { spot = indexes_of w.here; corner = (stepped r w).turned; heading = heading_of (next_of r w) } ∷ visits_in n r (stepped r w).walker

unfoldable pub visits : Route → Walker → List Visit
visits r w = visits_in (r.count - w.at) r w

-- the corners that a walker has still to meet
abbrev pub left : Route → Walker → List Point
left r w = bends (visits r w)

-- a corner is ahead, the last if no other
pub left_some : (r : Route) (w : Walker) → 0 < length (left r w)
unfolding visits
left_some r w = go (r.count - w.at) w
  where
    passing_some : (b : Bool) (p : Point) (l : List Point) → 0 < length l → 0 < length (passing b p l)
    passing_some true p l h = omega arith
    passing_some false p l h = h

    go : (n : ℕ) (v : Walker) → 0 < length (bends (visits_in n r v))
    go zero v = omega arith
    go (suc n) v = passing_some (stepped r v).turned (indexes_of v.here) (bends (visits_in n r (stepped r v).walker)) (go n (stepped r v).walker)

module _ (r : Route) (w : Walker) (s : Stepped) (o : On r w) (h : w.at < r.count) (e : s ≡ stepped r w) where
  -- the walker after a step
  pub at_step : s.walker.at ≡ suc w.at
  at_step = rw e

  -- stands on the route
  pub on_step : On r s.walker
  on_step = rw e (on_next r w o h)

  -- what is ahead before the step, by what is ahead after it
  pub visits_next : visits r w ≡ record { spot = indexes_of w.here; corner = s.turned; heading = s.walker.heading } ∷ visits r s.walker
  unfolding visits
  visits_next =
      let n : r.count - w.at ≡ suc (r.count - suc w.at) = omega arith in
      rw (n, e)

  -- a step that turns passes a corner
  pub left_turned : s.turned ≡ true → left r w ≡ indexes_of w.here ∷ left r s.walker
  left_turned t = ap bends visits_next ∙ rw t

  -- and one that goes straight on passes none
  pub left_straight : s.turned ≡ false → left r w ≡ left r s.walker
  left_straight t = ap bends visits_next ∙ rw t

-- at the end one vertex is left, a corner
pub visits_end : (r : Route) (w : Walker) → On r w → r.count ≤ w.at → visits r w ≡ record { spot = indexes_of w.here; corner = true; heading = w.heading } ∷ []
unfolding visits
visits_end r w o h =
    let n : r.count - w.at ≡ 0 = omega (arith, o.passed) in
    rw n

pub left_end : (r : Route) (w : Walker) → On r w → r.count ≤ w.at → left r w ≡ indexes_of w.here ∷ []
left_end r w o h = ap bends (visits_end r w o h)

-- the vertices of a route, by the steps that lead there
abbrev pub vertex_at : Route → ℕ → ℕ → Point
vertex_at r i j = record { x = at (columns_of r) i; y = at (rows_of r) j }

-- the walker is at one of them
here_at : (r : Route) (w : Walker) → On r w → indexes_of w.here ≡ vertex_at r (taken hor r w) (taken ver r w)
here_at r w o = λ k. record { x = o.column k; y = o.row k }

-- the walker visits what the steps do
pub visits_trail : (n : ℕ) (r : Route) (w : Walker) → On r w → w.at + n ≡ r.count
    → visits_in n r w ≡ trail (vertex_at r) (taken hor r w) (taken ver r w) w.heading (drop w.at (steps_of r))
visits_trail zero r w o h =
    rw (drop_of_length-le (steps_of r) {i = w.at} (omega (arith, steps_length r o.grid.held)), here_at r w o)
visits_trail (suc n) r w o h =
    let k : w.at < r.count = omega arith in
    go (next_of r w) (taken_next r o.grid.held w.at k) (rest_next r o.grid.held w.at k) (visits_in n r (stepped r w).walker)
    (visits_trail n r (stepped r w).walker (on_next r w o k) (omega arith))
  where
    go : (d : Dir) → take (suc w.at) (steps_of r) ≡ take w.at (steps_of r) ++ d ∷ [] → drop w.at (steps_of r) ≡ d ∷ drop (suc w.at) (steps_of r)
        → (l : List Visit)
        → l ≡ trail (vertex_at r) (steps hor (take (suc w.at) (steps_of r))) (steps ver (take (suc w.at) (steps_of r))) (heading_of d) (drop (suc w.at) (steps_of r))
        → record { spot = indexes_of w.here; corner = not (eqb (heading_of d) w.heading); heading = heading_of d } ∷ l
        ≡ trail (vertex_at r) (taken hor r w) (taken ver r w) w.heading (drop w.at (steps_of r))
    go hor t e l ih =
        rw (e, here_at r w o, ih, t, step_along hor (take w.at (steps_of r)), step_across ver (take w.at (steps_of r)))
    go ver t e l ih =
        rw (e, here_at r w o, ih, t, step_across hor (take w.at (steps_of r)), step_along ver (take w.at (steps_of r)))
