-- The corners that a walker yields are those of the network's route: on the grid of indexes, and on every grid once the lines are looked up.
-- Both are the turns of the same steps.
use mathlib.Core.Path.{◌≡◌, sym, ap, ◌∙◌}
use mathlib.Core.List.{List, [], ◌∷◌, map, map-id, map-map}
use Prim.Native.Nat.{ℕ, ◌-◌, ◌*◌, ◌/◌, ◌≤◌, ◌<◌}
use native.Mathlib.Nat.{le_trans, le-div_iff_mul-le}
use native.Mathlib.Omega.{arith}
use lib.ListN.{length, get_or}
use Rattle.network.specs.Lists.{any, All}
use Rattle.network.specs.Plane.{Point}
use Rattle.network.specs.Grid.{Grid}
use Rattle.network.specs.Graph.{below}
use Rattle.network.specs.Route.{Vertex}
use Rattle.network.specs.Steps.{Dir, steps, extent, spot, at}
use Rattle.network.specs.Corners.{corners}
use Rattle.network.specs.Entries.{below_at, length_below}
use Rattle.network.specs.Pits.{pits_of}
use Rattle.network.proofs.Lists.{all_map, all_imp}
use Rattle.network.proofs.Lanes.{at_fits, point_path}
use Rattle.network.proofs.Moved.{rising_keeps, pits_kept}
use Rattle.route.specs.Route.{Route, steps_of, columns_of, rows_of, drawn_of, OnGrid, numbered, indexed, corners_of, placed, Tables}
use Rattle.route.specs.Walker.{standing}
use Rattle.route.specs.Marked.{touched}
use Rattle.route.proofs.Lists.{map_cong}
use Rattle.route.proofs.Lanes.{fits_few, fits_more, columns_extent, rows_extent}
use Rattle.route.proofs.Turns.{bends, trail, turns, turns_map, turns_all, turns_length, corners_turns}
use Rattle.route.proofs.Walk.{few_steps, visits, left, on_start, vertex_at, visits_trail}
use Rattle.route.proofs.Touched.{touches, touched_way}

-- the corners on a grid, from the turns in line indexes, by a map that takes the route's vertices there
module _ (g : Grid) (r : Route) (o : OnGrid g r) (m : Point → Point)
    (same : (i j : ℕ) → i ≤ extent (columns_of r) → j ≤ extent (rows_of r) → m (vertex_at r i j) ≡ spot g (columns_of r) (rows_of r) i j) where
  -- they are the corners of the route there
  mapped_turns : map m (turns (vertex_at r) 0 0 2 (steps_of r)) ≡ corners (drawn_of g r)
  mapped_turns =
      let p = columns_extent r in
      let q = rows_extent r in
      turns_map (vertex_at r) (spot g (columns_of r) (rows_of r)) m (extent (columns_of r)) (extent (rows_of r)) same 0 0 2 (steps_of r) (omega arith) (omega arith)
      ∙ sym (corners_turns g (columns_of r) (rows_of r) o.columns_fit o.rows_fit (steps_of r) (omega arith) (omega arith))

-- the corners in line indexes
turns_corners : (r : Route) → OnGrid numbered r → turns (vertex_at r) 0 0 2 (steps_of r) ≡ corners_of r
unfolding corners_of indexed
turns_corners r o =
    sym (map-id (turns (vertex_at r) 0 0 2 (steps_of r)))
    ∙ mapped_turns numbered r o (λ p. p)
    (λ i j p q. sym (point_path
    (below_at 64 (at (columns_of r) i) (omega (arith, at_fits numbered.columns (columns_of r) o.columns_fit i p, length_below 64)))
    (below_at 64 (at (rows_of r) j) (omega (arith, at_fits numbered.rows (rows_of r) o.rows_fit j q, length_below 64)))))

-- what is ahead of the walker that has not moved is the whole trail
start_trail : (r : Route) → OnGrid numbered r → visits r (standing r.start) ≡ trail (vertex_at r) 0 0 2 (steps_of r)
unfolding visits steps
start_trail r o = visits_trail (r.count - 0) r (standing r.start) (on_start r o) (omega arith)

-- and the corners ahead are those of the route
pub left_start : (r : Route) → OnGrid numbered r → left r (standing r.start) ≡ corners_of r
left_start r o = ap bends (start_trail r o) ∙ turns_corners r o

-- what is ahead touches what the corners say
pub visits_touched : (r : Route) → OnGrid numbered r → (d : Dir) (p : Point)
    → any (touches d p) (visits r (standing r.start)) ≡ touched (corners_of r) d p
visits_touched r o d p =
    let m = columns_extent r in
    let n = rows_extent r in
    rw (start_trail r o, ← turns_corners r o)
    (sym (touched_way numbered.columns numbered.rows (columns_of r) (rows_of r) o.columns_fit o.rows_fit d p (steps_of r) (omega arith) (omega arith)))

-- a route on at most 64 columns and 64 rows has at most 127 corners
pub corners_few : (r : Route) → OnGrid numbered r → length (corners_of r) ≤ 127
corners_few r o = rw (← turns_corners r o) (omega (arith, turns_length (vertex_at r) 0 0 2 (steps_of r), few_steps r o))

-- what holds of all vertices of a route holds of its corners
corners_all : (P : Point → Type 0) (r : Route) → OnGrid numbered r
    → ((i j : ℕ) → i ≤ extent (columns_of r) → j ≤ extent (rows_of r) → P (vertex_at r i j)) → All P (corners_of r)
corners_all P r o holds =
    let p = columns_extent r in
    let q = rows_extent r in
    rw (← turns_corners r o) (turns_all P (vertex_at r) (extent (columns_of r)) (extent (rows_of r)) holds 0 0 2 (steps_of r) (omega arith) (omega arith))

-- they are vertices of each grid of indexes that the route is on
corners_vertices : (width height : ℕ) (r : Route) → OnGrid numbered r → OnGrid (indexed width height) r → All (Vertex (indexed width height)) (corners_of r)
unfolding indexed
corners_vertices width height r n o =
    corners_all (Vertex (indexed width height)) r n (λ i j a b.
    let c = at_fits (below width) (columns_of r) o.columns_fit i a in
    let d = at_fits (below height) (rows_of r) o.rows_fit j b in
    record {
      column = (at (columns_of r) i, c, below_at width (at (columns_of r) i) (omega (arith, length_below width)));
      row = (at (rows_of r) j, d, below_at height (at (rows_of r) j) (omega (arith, length_below height)));
    })

-- so those of several routes
pub routes_vertices : (width height : ℕ) (l : List Route) → All (OnGrid numbered) l → All (OnGrid (indexed width height)) l
    → All (All (Vertex (indexed width height))) (map corners_of l)
routes_vertices width height [] a b = tt
routes_vertices width height (r ∷ l) a b = (corners_vertices width height r a.0 b.0, routes_vertices width height l a.1 b.1)

-- a grid of at most so many columns and rows: what is on it is on the grid of indexes
pub on_indexed : (width height : ℕ) (g : Grid) (r : Route) → length g.columns ≤ width → length g.rows ≤ height → OnGrid g r
    → OnGrid (indexed width height) r
unfolding indexed
on_indexed width height g r h k o =
    record {
      held = o.held;
      columns_fit = fits_more g.columns (below width) (columns_of r) (omega (arith, length_below width)) o.columns_fit;
      rows_fit = fits_more g.rows (below height) (rows_of r) (omega (arith, length_below height)) o.rows_fit;
    }

-- and there are marks for them, with so many a row
pub on_marks : (width height n : ℕ) (g : Grid) → length g.columns ≤ width → length g.rows ≤ height → height * width ≤ n → (l : List Route) → All (OnGrid g) l
    → All (OnGrid (indexed width (n / width))) l
on_marks width height n g h k s =
    all_imp (OnGrid g) (OnGrid (indexed width (n / width)))
    (λ r o.
    let some : 0 < width = omega (arith, fits_few g.columns (columns_of r) o.columns_fit) in
    on_indexed width (n / width) g r h (le_trans k ((le-div_iff_mul-le some).1 s)) o)

-- ---- a grid of at most 64 columns and 64 rows, whose lines stand in tables

module _ (g : Grid) (few-columns : length g.columns ≤ 64) (few-rows : length g.rows ≤ 64) (columns rows : List ℕ) (t : Tables g columns rows) where
  -- the vertex's indexes are indexes of lines
  abbrev Inside : Point → Type 0
  Inside p = (p.x < length g.columns) × (p.y < length g.rows)

  -- A route's corners in line indexes, looked up, are the corners of the route on the grid.
  pub corners_placed : (r : Route) → OnGrid g r → map (placed columns rows) (corners_of r) ≡ corners (drawn_of g r)
  corners_placed r o =
      rw (← turns_corners r (on_indexed 64 64 g r few-columns few-rows o))
      (mapped_turns g r o (placed columns rows)
      (λ i j a b. point_path (t.column_at (at (columns_of r) i) (at_fits g.columns (columns_of r) o.columns_fit i a))
      (t.row_at (at (rows_of r) j) (at_fits g.rows (rows_of r) o.rows_fit j b))))

  -- corners are such
  corners_inside : (r : Route) → OnGrid g r → All Inside (corners_of r)
  corners_inside r o =
      corners_all Inside r (on_indexed 64 64 g r few-columns few-rows o)
      (λ i j a b. (at_fits g.columns (columns_of r) o.columns_fit i a, at_fits g.rows (rows_of r) o.rows_fit j b))

  -- Routes have as many pits in line indexes as on the grid, since the lines rise.
  pub pits_placed : (routes : List Route) → All (OnGrid g) routes → pits_of (map (λ r. corners (drawn_of g r)) routes) ≡ pits_of (map corners_of routes)
  pits_placed routes a =
      let m = placed columns rows in
      let e : map (λ r. corners (drawn_of g r)) routes ≡ map (map m) (map corners_of routes) =
      map_cong (OnGrid g) (λ r. corners (drawn_of g r)) (λ r. map m (corners_of r)) (λ r o. sym (corners_placed r o)) routes a ∙ sym (map-map (map m) corners_of routes) in
      ap pits_of e
      ∙ pits_kept (λ i. i < length g.columns) (λ j. j < length g.rows) (λ i. get_or columns i 0) (λ j. get_or rows j 0)
      (λ i k h l. rw (t.column_at i h, t.column_at k l) (rising_keeps g.columns g.columns_rise i k h l))
      (λ i k h l. rw (t.row_at i h, t.row_at k l) (rising_keeps g.rows g.rows_rise i k h l))
      (map corners_of routes) (all_map (OnGrid g) (All Inside) corners_of corners_inside routes a)
