-- Pits: "the distinct points that are an end of a route, a turn of a route, or a vertex which one route passes along its row and another along
-- its column" (02, C-14). A route is given by its corners: its first point, its turns, its second point. It passes the inner points of its
-- straight pieces; a Manhattan path passes no point both along its row and along its column, so that the routes of a crossing are two.
use Rattle.std.specs.Prelude.{Bool, cond, ◌&&◌, ◌||◌, ℕ, length, ltb}
use mathlib.Core.List.{List, [], ◌∷◌, ◌++◌, flatten, flat_map}
use Rattle.network.specs.Lists.{unique}
use Rattle.network.specs.Plane.{Point, Run, same_point}
use Rattle.network.specs.Route.{Route, pieces, level}

-- v is strictly between a and b
unfoldable pub amid : ℕ → ℕ → ℕ → Bool
amid a b v = ltb a v && ltb v b || ltb b v && ltb v a

-- a straight piece along the row of p, of which p is an inner point
unfoldable pub passes_row : Point → Run → Bool
passes_row p r = level r.first.y r.second.y p.y && amid r.first.x r.second.x p.x

-- and one along the column of p
unfoldable pub passes_column : Point → Run → Bool
passes_column p r = level r.first.x r.second.x p.x && amid r.first.y r.second.y p.y

-- the point that r passes along its row and s along its column, if there is one
unfoldable pub crossing : Run → Run → List Point
crossing r s = let p : Point = record { x = s.first.x; y = r.first.y } in cond (passes_row p r && passes_column p s) (p ∷ []) []

-- the crossings of the pieces, each with each
unfoldable pub crossings : List Run → List Point
crossings l = flat_map (λ r. flat_map (crossing r) l) l

-- where the pits of routes are
unfoldable pub pit_points : List Route → List Point
pit_points routes = flatten routes ++ crossings (flat_map pieces routes)

-- how many there are
unfoldable pub pits_of : List Route → ℕ
pits_of routes = length (unique same_point (pit_points routes))
