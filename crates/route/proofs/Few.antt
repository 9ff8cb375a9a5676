-- A Manhattan route between two points has few corners: fewer than its run passes columns and rows together, and so than the grid has. It has the corners of a list of steps in its
-- run's frame, and a step is one turn at most.
use mathlib.Core.Path.{sym, ap, ◌∙◌}
use Prim.Native.Nat.{suc, ◌+◌, ◌≤◌, ◌<◌}
use native.Mathlib.Omega.{arith}
use lib.ListN.{length}
use Rattle.network.specs.Plane.{Run}
use Rattle.network.specs.Grid.{Grid}
use Rattle.network.specs.Route.{Route, Manhattan}
use Rattle.network.specs.Steps.{Lane, extent, spot, Frame}
use Rattle.network.specs.Corners.{corners}
use Rattle.network.proofs.Counting.{route_frame}
use Rattle.network.proofs.StepCounts.{steps_all}
use Rattle.network.proofs.Corners.{TwoPoints}
use Rattle.network.proofs.Turns.{to_turns}
use Rattle.route.proofs.Lanes.{fits_few}
use Rattle.route.proofs.Turns.{turns_length, corners_turns}

-- one more than the frame has steps, at most
pub framed_few : (g : Grid) (run : Run) (route : Route) → TwoPoints run → Manhattan g run route
    → (X : Lane) × (Y : Lane) × Frame g run X Y × (length (corners route) ≤ suc (extent X + extent Y))
framed_few g run route two m =
    let (X, Y, f) = route_frame g run route m in
    let t = to_turns g run X Y f two route m in
    let c = t.complete in (
      X,
      Y,
      f,
      omega (
        arith,
        ap length (sym t.same ∙ corners_turns g X Y f.columns_fit f.rows_fit t.list (omega (arith, c.all_columns)) (omega (arith, c.all_rows))),
        turns_length (spot g X Y) 0 0 2 t.list,
        steps_all t.list,
        c.all_columns,
        c.all_rows,
      ),
    )

-- at most 127 on 64 columns and 64 rows
pub manhattan_few : (g : Grid) (run : Run) (route : Route) → TwoPoints run → Manhattan g run route → length (corners route) < length g.columns + length g.rows
manhattan_few g run route two m =
    let (X, Y, f, l) = framed_few g run route two m in
    omega (arith, l, fits_few g.columns X f.columns_fit, fits_few g.rows Y f.rows_fit)
