-- Marks that find pits: a byte for each vertex of a grid of indexes, row by row, of two binary digits. The lower is set where a route turns, ends
-- or passes along the row, the upper where one turns, ends or passes along the column. At a pit both are.
use Rattle.std.specs.Prelude.{◌≡◌, Bool, cond, ◌&&◌, ◌||◌, List, [], ◌∷◌, ℕ, ◌+◌, ◌*◌, ◌≤◌, ◌<◌, length, get_or, eqb}
use Rattle.network.specs.Lists.{any, count, each}
use Rattle.network.specs.Plane.{Point, same_point}
use Rattle.network.specs.Route.{Route as Points, pieces}
use Rattle.network.specs.Steps.{Dir, hor, ver}
use Rattle.network.specs.Passes.{among, passes}
use Rattle.route.specs.declared.Vertex.{Vertex}

-- a vertex as a point of the grid of indexes
abbrev pub indexes_of : Vertex → Point
indexes_of v = record { x = v.column; y = v.row }

-- where the mark of a vertex stands, with so many marks a row
abbrev pub mark_of : (width : ℕ) → Point → ℕ
mark_of width p = p.y * width + p.x

-- the byte of two digits
abbrev pub digits : Bool → Bool → ℕ
digits lower upper = cond upper 2 0 + cond lower 1 0

-- no digit is set
abbrev pub Clear : List ℕ → Type 0
Clear marks = (k : ℕ) → k < length marks → get_or marks k 0 ≡ 0

-- there are marks for so many columns and rows, and the digits set are those that a test tells: hor the lower, ver the upper
pub record Marked (width height : ℕ) (marks : List ℕ) (set : Dir → Point → Bool) : Type 0 where
  pub size : height * width ≤ length marks
  pub marked : (p : Point) → p.x < width → p.y < height → get_or marks (mark_of width p) 0 ≡ digits (set hor p) (set ver p)

-- how many vertices have both digits set
unfoldable pub full : (width height : ℕ) → List ℕ → ℕ
full width height marks = count (λ p. eqb (get_or marks (mark_of width p) 0) 3) (each width (λ i. each height (λ j. record { x = i; y = j } ∷ [])))

-- from the marks ms to ns the digits of `added` were set, and n pits came
pub record Counted (width height : ℕ) (ms ns : List ℕ) (added : Dir → Point → Bool) (n : ℕ) : Type 0 where
  pub marked : (set : Dir → Point → Bool) → Marked width height ms set → Marked width height ns (λ d p. set d p || added d p)
  pub new : (set : Dir → Point → Bool) → Marked width height ms set → full width height ns ≡ full width height ms + n

-- a heading is the number of a direction: 0 goes along the row, 1 along the column, and any other along neither
abbrev pub along : Dir → ℕ → Bool
along hor heading = eqb heading 0
along ver heading = eqb heading 1

-- a route that turns or ends at v sets both digits there, one that goes straight on sets that of its direction
abbrev pub visited : Vertex → Bool → ℕ → Dir → Point → Bool
visited v corner heading d p = same_point p (indexes_of v) && (corner || along d heading)

-- the digits of a route that is given by its corners
abbrev pub touched : Points → Dir → Point → Bool
touched route d p = among p route || any (passes d p) (pieces route)
