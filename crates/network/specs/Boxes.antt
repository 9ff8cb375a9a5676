-- Boxes: "A run's box is the smallest upright rectangle holding its two points" (01, Lines, boxes, meeting; B in 000, 2.3). That some grid edge lies in two
-- boxes is the same as that two points do, for every grid on which the runs are placed.
use Rattle.std.specs.Prelude.{Bool, ◌&&◌}
use Rattle.network.specs.Plane.{Point, Run}
use Rattle.network.specs.Grid.{Grid, spans}
use Rattle.network.specs.Route.{Vertex}

-- the point lies in the run's box
unfoldable pub within : Point → Run → Bool
within p r = spans r.first.x r.second.x p.x p.x && spans r.first.y r.second.y p.y p.y

-- the run's points are vertices of the grid, so the sides of its box are lines of the grid
pub record Placed (g : Grid) (r : Run) : Type 0 where
  pub first_vertex : Vertex g r.first
  pub second_vertex : Vertex g r.second
