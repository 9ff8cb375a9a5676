-- Marks of routes on a grid of at most 64 columns and 64 rows, 64 of them a row: three tables, of the corners, of the edges to the right and of the edges
-- upwards. One law serves both directions: the lines along `hor` are the rows, those along `ver` the columns, and an edge goes from a place of its line to the next.
use Rattle.std.specs.Prelude.{◌≡◌, Option, Some, None, Bool, true, false, not, ◌&&◌, ◌||◌, List, ℕ, suc, ◌+◌, ◌*◌, ◌<◌, eqb, leb, ltb, length, get_or}
use Rattle.network.specs.Lists.{any}
use Rattle.network.specs.Plane.{Point, ◌to◌}
use Rattle.network.specs.Grid.{Grid, Edge, across_at, upward_at}
use Rattle.network.specs.Route.{Route, Straight, Vertex as IsVertex, lies, on}
use Rattle.network.specs.Steps.{Dir, hor, ver, vertex}
use Rattle.network.specs.Passes.{among}
use Rattle.grid.specs.Lines.{RisingTo}
use Rattle.route.specs.Route.{Tables}
use Rattle.route.specs.declared.Vertex.{Vertex}

-- ---- lines by direction

abbrev pub direction_of : (upright : Bool) → Dir
direction_of true = ver
direction_of false = hor

-- how many places a line along d has, and how many such lines there are
abbrev pub places : Grid → Dir → ℕ
places g hor = length g.columns
places g ver = length g.rows

abbrev pub lines_along : Grid → Dir → ℕ
lines_along g hor = length g.rows
lines_along g ver = length g.columns

-- the edge from place k of line a to the next
abbrev pub edge_on : Grid → Dir → ℕ → ℕ → Edge
edge_on g hor a k = across_at g k a
edge_on g ver a k = upward_at g a k

-- there is a place behind place k of line a, and the edge to it passes the test
unfoldable pub edge_behind : Grid → Dir → (Edge → Bool) → ℕ → ℕ → Bool
edge_behind g d t a k = ltb (suc k) (places g d) && t (edge_on g d a k)

-- ---- marks

-- where the mark of place k of line a stands
abbrev pub cell : Dir → (a k : ℕ) → ℕ
cell hor a k = a * 64 + k
cell ver a k = k * 64 + a

unfoldable pub is_marked : List ℕ → ℕ → Bool
is_marked marks m = not (eqb (get_or marks m 0) 0)

-- from the marks ms to ns, the places of a line from `low` up to the one before `high` were marked, and no other
pub record Stretched (d : Dir) (line low high : ℕ) (ms ns : List ℕ) : Type 0 where
  pub size : length ns ≡ 4096
  pub marked : (a k : ℕ) → a < 64 → k < 64 → is_marked ns (cell d a k) ≡ (is_marked ms (cell d a k) || (eqb a line && (leb low k && ltb k high)))

-- the edges along d that pass the test were marked, and no other
pub record Marked (g : Grid) (d : Dir) (t : Edge → Bool) (ms ns : List ℕ) : Type 0 where
  pub size : length ns ≡ 4096
  pub marked : (a k : ℕ) → a < lines_along g d → k < places g d → is_marked ns (cell d a k) ≡ (is_marked ms (cell d a k) || edge_behind g d t a k)

-- the marks tell the routes: the vertices that are a corner of one of them, and the edges that are on one of them
pub record Told (g : Grid) (routes : List Route) (corners right up : List ℕ) : Type 0 where
  pub at_corners : (i j : ℕ) → i < length g.columns → j < length g.rows → is_marked corners (j * 64 + i) ≡ any (among (vertex g i j)) routes
  pub to_right : (a k : ℕ) → a < lines_along g hor → k < places g hor → is_marked right (cell hor a k) ≡ edge_behind g hor (λ e. any (on e) routes) a k
  pub upwards : (a k : ℕ) → a < lines_along g ver → k < places g ver → is_marked up (cell ver a k) ≡ edge_behind g ver (λ e. any (on e) routes) a k

-- ---- a piece

-- the index of v among the first n of the lines, or none where these rise and v is none of them
pub data Finds (lines : List ℕ) (n v : ℕ) : Option ℕ → Type 0 where
  found : (r : ℕ) → r < n → get_or lines r 0 ≡ v → Finds lines n v (Some r)
  nowhere : (RisingTo lines n → (i : ℕ) → i < n → get_or lines i 0 ≡ v → ⊥) → Finds lines n v None

-- the tables begin with the lines of the grid, of which there are so many
pub record Ruled (g : Grid) (columns : List ℕ) (across : ℕ) (rows : List ℕ) (down : ℕ) : Type 0 where
  pub tables : Tables g columns rows
  pub across_is : across ≡ length g.columns
  pub down_is : down ≡ length g.rows

-- the point of a vertex that is given by the indexes of its lines
abbrev pub point_of : Grid → Vertex → Point
point_of g v = vertex g v.column v.row

-- from a vertex straight to the point p: the point is no vertex, and none is given; or its vertex is given, and the edges of the piece were marked
pub data Arrived (g : Grid) (from : Vertex) (p : Point) (right up right' up' : List ℕ) : Option Vertex → Type 0 where
  astray : (Straight (point_of g from to p) → IsVertex g p → ⊥) → Arrived g from p right up right' up' None
  arrived : (v : Vertex) → v.column < length g.columns → v.row < length g.rows
      → (Straight (point_of g from to p)
      → (point_of g v ≡ p) × Marked g hor (λ e. lies e (point_of g from to p)) right right' × Marked g ver (λ e. lies e (point_of g from to p)) up up')
      → Arrived g from p right up right' up' (Some v)
