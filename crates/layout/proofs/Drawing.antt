-- The routes that are laid, on the grid: each is a Manhattan route of its run.
use mathlib.Core.Path.{◌≡◌, refl, ap, ap₂, ◌∙◌}
use mathlib.Core.Bool.{Bool, true, false}
use mathlib.Core.List.{List}
use Prim.Native.Nat.{ℕ, ◌<◌}
use native.Mathlib.Omega.{arith}
use borrow.Author.Tests.{leb-true, leb-false}
use lib.Dec.{leb}
use lib.ListN.{length}
use Rattle.network.specs.Plane.{Point, Run, gap}
use Rattle.network.specs.Grid.{Grid}
use Rattle.network.specs.Graph.{run_at}
use Rattle.network.specs.Steps.{Dir, hor, ver, steps, Lane, extent, at, Fits, vertex, Frame}
use Rattle.network.proofs.Numbers.{gap_rise, gap_fall}
use Rattle.network.proofs.Lanes.{point_path}
use Rattle.sharing.specs.Trace.{Move}
use Rattle.sharing.specs.View.{Indexed}
use Rattle.route.specs.Route.{lane, columns_of, rows_of, OnGrid}
use Rattle.table.specs.Side.{Side, first_of, second_of}
use Rattle.table.specs.OnSides.{first_at, second_at, OnSides}
use Rattle.layout.specs.declared.Points.{Points}
use Rattle.layout.specs.Points.{points_of}
use Rattle.layout.specs.Laid.{route_to, Layable, Laid}
use Rattle.layout.proofs.Laying.{leads_apart}

-- ---- the lane from one line to another

abbrev lane_to : ℕ → ℕ → Lane
lane_to p q = lane (leb p q) p (gap p q)

-- it has only lines of the list
lane_fits : (l : List ℕ) (p q : ℕ) → p < length l → q < length l → Fits l (lane_to p q)
lane_fits l p q h k = go (leb p q) refl
  where
    go : (b : Bool) → leb p q ≡ b → Fits l (lane b p (gap p q))
    go true e = omega (arith, gap_rise p q (leb-true p q e))
    go false e = let o = leb-false p q e in omega (arith, gap_fall p q (omega arith))

-- it begins at the one line
lane_from : (b : Bool) (p n : ℕ) → at (lane b p n) 0 ≡ p
lane_from true p n = omega arith
lane_from false p n = omega arith

-- and ends at the other
lane_upto : (p q : ℕ) → at (lane_to p q) (extent (lane_to p q)) ≡ q
lane_upto p q = go (leb p q) refl
  where
    go : (b : Bool) → leb p q ≡ b → at (lane b p (gap p q)) (extent (lane b p (gap p q))) ≡ q
    go true e = gap_rise p q (leb-true p q e)
    go false e = let o = leb-false p q e in omega (arith, gap_fall p q (omega arith))

-- ---- one route

module _ (a e : Points) (c : ℕ) (moves : List Move) (k : ℕ) (r : List ℕ) (S : Layable a e c moves k) (l : Laid a e c moves k r) where
  -- it passes the lines between its run's points
  columns_are : columns_of (route_to r e) ≡ lane_to e.x.first e.x.second
  columns_are = ap (lane (leb e.x.first e.x.second) e.x.first) (ap (steps hor) l.goes ∙ leads_apart a e c moves k S hor)

  -- in both directions
  rows_are : rows_of (route_to r e) ≡ lane_to e.y.first e.y.second
  rows_are = ap (lane (leb e.y.first e.y.second) e.y.first) (ap (steps ver) l.goes ∙ leads_apart a e c moves k S ver)

  -- so it is on any grid that has them
  pub laid_on_grid : (g : Grid) → (e.x.first < length g.columns) × (e.x.second < length g.columns)
      → (e.y.first < length g.rows) × (e.y.second < length g.rows) → OnGrid g (route_to r e)
  laid_on_grid g x y =
      record {
        held = l.held;
        columns_fit = rw columns_are (lane_fits g.columns e.x.first e.x.second x.0 x.1);
        rows_fit = rw rows_are (lane_fits g.rows e.y.first e.y.second y.0 y.1);
      }

-- ---- on the grid of the runs

-- the point where the lines with two indexes cross
vertex_at_lem : (g : Grid) (p : Point) (i : Dir → ℕ) → Indexed g p i → vertex g (i hor) (i ver) ≡ p
vertex_at_lem g p i x = point_path (x.at_line hor) (x.at_line ver)

module _ (g : Grid) (runs : List Run) (xs ys : Side) (c leaves : ℕ) (S : OnSides g runs xs ys c leaves) (moves : List Move) where
  -- a route that is laid has a frame of its run
  pub laid_frame : (k : ℕ) → k < length runs → (r : List ℕ) → Layable (points_of xs ys c) (points_of xs ys k) c moves k
      → Laid (points_of xs ys c) (points_of xs ys k) c moves k r → Frame g (run_at runs k) (columns_of (route_to r (points_of xs ys k))) (rows_of (route_to r (points_of xs ys k)))
  laid_frame k h r a l =
      let p = S.first_at_lem k h in
      let q = S.second_at_lem k h in
      let on = laid_on_grid (points_of xs ys c) (points_of xs ys k) c moves k r a l g (p.fits hor, q.fits hor) (p.fits ver, q.fits ver) in
      let X = columns_are (points_of xs ys c) (points_of xs ys k) c moves k r a l in
      let Y = rows_are (points_of xs ys c) (points_of xs ys k) c moves k r a l in
      record {
        columns_fit = on.columns_fit;
        rows_fit = on.rows_fit;
        from = ap₂ (vertex g) (lane_from (leb (first_of xs k) (second_of xs k)) (first_of xs k) _) (lane_from (leb (first_of ys k) (second_of ys k)) (first_of ys k) _) ∙ vertex_at_lem g _ (first_at xs ys k) p;
        upto = ap₂ (vertex g) (ap (λ z. at z (extent z)) X ∙ lane_upto (first_of xs k) (second_of xs k)) (ap (λ z. at z (extent z)) Y ∙ lane_upto (first_of ys k) (second_of ys k))
            ∙ vertex_at_lem g _ (second_at xs ys k) q;
      }
