-- A route as the code holds it, steps from line to line, and the route of the network that it draws. Lines are named by their indexes;
-- decimetres are looked up where a corner is written.
use Rattle.std.specs.Prelude.{◌≡◌, Bool, true, false, cond, List, map, ℕ, ◌≤◌, ◌<◌, length, get_or, take, eqb}
use Rattle.network.specs.Plane.{Point}
use Rattle.network.specs.Grid.{Grid}
use Rattle.network.specs.Graph.{below}
use Rattle.network.specs.Entries.{below_rises}
use Rattle.network.specs.Steps.{Dir, hor, ver, steps, Lane, forth, back, Fits, drawn}
use Rattle.network.specs.Route.{Route as Points}
use Rattle.network.specs.Corners.{corners}
use Rattle.route.specs.declared.Vertex.{Vertex}
use Rattle.route.specs.declared.Track.{Track}

-- the first `count` of the steps, from `start` on, to higher or lower columns and rows
pub record Route : Type 0 where
  pub steps : List ℕ
  pub count : ℕ
  pub start : Vertex
  pub right : Bool
  pub up : Bool

-- a track with its steps
abbrev pub route_by : List ℕ → Track → Route
route_by steps t = record { steps = steps; count = t.count; start = t.start; right = t.right; up = t.up }

-- a step of 0 goes along the row, any other along the column
abbrev pub dir_of : ℕ → Dir
dir_of d = cond (eqb d 0) hor ver

-- the step list of a route
unfoldable pub steps_of : Route → List Dir
steps_of r = map dir_of (take r.count r.steps)

-- n steps from line a, to higher indexes or to lower ones
abbrev pub lane : Bool → ℕ → ℕ → Lane
lane true a n = forth a n
lane false a n = back a n

-- the columns and the rows that a route passes
abbrev pub columns_of : Route → Lane
columns_of r = lane r.right r.start.column (steps hor (steps_of r))

abbrev pub rows_of : Route → Lane
rows_of r = lane r.up r.start.row (steps ver (steps_of r))

-- the route on a grid, with all its vertices
abbrev pub drawn_of : Grid → Route → Points
drawn_of g r = drawn g (columns_of r) (rows_of r) (steps_of r)

-- the route's lines are lines of the grid
pub record OnGrid (g : Grid) (r : Route) : Type 0 where
  pub held : r.count ≤ length r.steps
  pub columns_fit : Fits g.columns (columns_of r)
  pub rows_fit : Fits g.rows (rows_of r)

-- ---- the grid of indexes

-- so many columns and rows, each at its own index: its points are vertices named by the indexes of their lines
unfoldable pub indexed : (width height : ℕ) → Grid
indexed width height = record { columns = below width; rows = below height; columns_rise = below_rises width; rows_rise = below_rises height }

-- 64 of each: "at most 64 of each" (01)
abbrev pub numbered : Grid
numbered = indexed 64 64

-- a route's corners, in line indexes
unfoldable pub corners_of : Route → Points
corners_of r = corners (drawn_of numbered r)

-- how many they are
abbrev pub corner_count : Route → ℕ
corner_count r = length (corners_of r)

-- ---- from indexes to points

-- the point of a vertex that is given in line indexes, looked up in tables of the columns and the rows
abbrev pub placed : List ℕ → List ℕ → Point → Point
placed columns rows v = record { x = get_or columns v.x 0; y = get_or rows v.y 0 }

-- the tables begin with the lines of the grid
pub record Tables (g : Grid) (columns rows : List ℕ) : Type 0 where
  pub column_at : (i : ℕ) → i < length g.columns → get_or columns i 0 ≡ get_or g.columns i 0
  pub row_at : (j : ℕ) → j < length g.rows → get_or rows j 0 ≡ get_or g.rows j 0
