-- Routes, their union, and least plans: "a path of grid edges between its two points whose length is the Manhattan distance" (01, Routes and
-- sharing; an M-path in 000, 2.1). A route is the list of points at which it starts, may turn, and ends, so that a path with all its
-- vertices listed and the corners of a plan are one kind of thing.
use Rattle.std.specs.Prelude.{◌≡◌, ◌⊎◌, List, [], ◌∷◌, Bool, cond, ◌&&◌, ℕ, ◌≤◌, ◌<◌, eqb, length, get_or}
use Rattle.network.specs.Lists.{sum, any, All, Paired}
use Rattle.network.specs.Plane.{Point, Run, ◌to◌, distance}
use Rattle.network.specs.Grid.{Grid, Edge, across, upward, len, edges, spans}

abbrev pub Route : Type 0
Route = List Point

-- the straight pieces of the route that starts at a point and goes on through the points of a list
abbrev pub pieces_from : Point → List Point → List Run
pieces_from p [] = []
pieces_from p (q ∷ l) = (p to q) ∷ pieces_from q l

abbrev pub pieces : Route → List Run
pieces [] = []
pieces (p ∷ l) = pieces_from p l

abbrev pub last_from : Point → List Point → Point
last_from p [] = p
last_from p (q ∷ l) = last_from q l

abbrev pub Starts : Route → Point → Type 0
Starts [] q = ⊥
Starts (p ∷ l) q = p ≡ q

abbrev pub Ends : Route → Point → Type 0
Ends [] q = ⊥
Ends (p ∷ l) q = last_from p l ≡ q

-- v is one of the list's numbers
abbrev pub Listed : List ℕ → ℕ → Type 0
Listed l v = (i : ℕ) × (i < length l) × (get_or l i 0 ≡ v)

-- a column and a row cross at the point
pub record Vertex (g : Grid) (p : Point) : Type 0 where
  pub column : Listed g.columns p.x
  pub row : Listed g.rows p.y

abbrev pub Straight : Run → Type 0
Straight r = (r.first.x ≡ r.second.x) ⊎ (r.first.y ≡ r.second.y)

-- a Manhattan path of the run on the grid: from the first point to the second, from vertex to vertex along the lines, no longer than it must be
pub record Manhattan (g : Grid) (run : Run) (route : Route) : Type 0 where
  pub starts : Starts route run.first
  pub ends : Ends route run.second
  pub vertices : All (Vertex g) route
  pub straight : All Straight (pieces route)
  pub shortest : sum distance (pieces route) ≡ distance run

-- a and b are both at c
unfoldable pub level : ℕ → ℕ → ℕ → Bool
level a b c = eqb a c && eqb b c

-- the edge lies on the straight piece: "straight from each corner to the next, along every edge between" (01, Plan book)
unfoldable pub lies : Edge → Run → Bool
lies (across x x' y) r = level r.first.y r.second.y y && spans r.first.x r.second.x x x'
lies (upward x y y') r = level r.first.x r.second.x x && spans r.first.y r.second.y y y'

-- the edge is on the route
abbrev pub on : Edge → Route → Bool
on e route = any (lies e) (pieces route)

-- one Manhattan path for each run, in the same order
abbrev pub Routes : Grid → List Run → List Route → Type 0
Routes g runs routes = Paired (Manhattan g) runs routes

-- the length of the union: each edge that is on at least one of the routes counts once (01; the network's length in 000, 2.1)
unfoldable pub union_length : Grid → List Route → ℕ
union_length g routes = sum (λ e. cond (any (on e) routes) (len e) 0) (edges g)

-- no other Manhattan paths of the runs have a shorter union
pub record Least (g : Grid) (runs : List Run) (routes : List Route) : Type 0 where
  pub are_routes : Routes g runs routes
  pub least : (others : List Route) → Routes g runs others → union_length g routes ≤ union_length g others
