-- The corners of a route: "the first point, each vertex at which the route turns, the second point" (01, Plan book).
use Rattle.std.specs.Prelude.{List, [], ◌∷◌, Bool, true, false, ◌&&◌, ◌||◌, eqb}
use Rattle.network.specs.Plane.{Point}
use Rattle.network.specs.Route.{Route}

-- three points are on one line of the grid
unfoldable pub straight_on : Point → Point → Point → Bool
straight_on p q r = eqb p.x q.x && eqb q.x r.x || eqb p.y q.y && eqb q.y r.y

-- The corners after p of the route that goes from p through q and the points of a list: q is left out where the route goes straight on.
abbrev pub corners_from : Point → Point → List Point → List Point
corners_from p q [] = q ∷ []
corners_from p q (r ∷ l) = elim (straight_on p q r) [ true ↦ corners_from p r l | false ↦ q ∷ corners_from q r l ]

abbrev pub corners : Route → Route
corners [] = []
corners (p ∷ []) = p ∷ []
corners (p ∷ q ∷ l) = p ∷ corners_from p q l
