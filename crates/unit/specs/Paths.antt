-- "Any Manhattan paths of unit steps between whole-decimetre points, one for each run" (02, C-19). There is no grid here: a point has any two whole
-- numbers for its coordinates. They start at the least coordinate of a job, below which no path goes: it stays in its run's box (`unit_in_box`).
use Rattle.std.specs.Prelude.{◌≡◌, Bool, true, false, ◌&&◌, ◌||◌, ℕ, zero, suc, pred, ◌≤◌, eqb, ltb, length}
use mathlib.Core.List.{List, [], ◌∷◌, ◌++◌, map, flat_map}
use Rattle.network.specs.Lists.{All, Paired, unique}
use Rattle.network.specs.Plane.{Point, Run, ◌to◌, distance, same_point}
use Rattle.network.specs.Route.{Route, pieces, Starts, Ends}

-- a step of one decimetre, along x or along y
abbrev pub UnitStep : Run → Type 0
UnitStep step = distance step ≡ 1

-- a path of unit steps of the run: from its first point to its second, with as many steps as the Manhattan distance
pub record UnitPath (run : Run) (path : Route) : Type 0 where
  pub starts : Starts path run.first
  pub ends : Ends path run.second
  pub unit : All UnitStep (pieces path)
  pub shortest : length (pieces path) ≡ distance run

-- one for each run, in the same order
abbrev pub UnitPaths : List Run → List Route → Type 0
UnitPaths runs paths = Paired UnitPath runs paths

-- two steps are the same, from the same point to the same point
unfoldable pub same_step : Run → Run → Bool
same_step r s = same_point r.first s.first && same_point r.second s.second

-- they dig the same unit edge, whichever way they are walked
unfoldable pub same_edge : Run → Run → Bool
same_edge r s = same_step r s || same_step r (s.second to s.first)

-- the length of the union: the number of unit edges, 1 decimetre each, that are on at least one of the paths
unfoldable pub unit_length : List Route → ℕ
unit_length paths = length (unique same_edge (flat_map pieces paths))

-- ---- a route walked in unit steps: all whole-decimetre points on it, in their order

-- the number next to a on the way to b, and the point next to p on the way to q
unfoldable pub nearer : ℕ → ℕ → ℕ
nearer a b = elim (ltb a b) [ true ↦ suc a | false ↦ pred a ]

unfoldable pub next : Point → Point → Point
next p q = elim (eqb p.x q.x) [ true ↦ record { x = p.x; y = nearer p.y q.y } | false ↦ record { x = nearer p.x q.x; y = p.y } ]

-- the next n points on the way from p to q
abbrev pub walk_to : ℕ → Point → Point → List Point
walk_to zero p q = []
walk_to (suc n) p q = next p q ∷ walk_to n (next p q) q

-- the points behind p on the way from p through the points of a list
abbrev pub walk_from : Point → List Point → List Point
walk_from p [] = []
walk_from p (q ∷ l) = walk_to (distance (p to q)) p q ++ walk_from q l

abbrev pub walked : Route → Route
walked [] = []
walked (p ∷ l) = p ∷ walk_from p l

-- ---- the least of all cuts

-- n is the least that cuts for the runs come to, on survey lines or not: no paths of unit steps have a shorter union, and the routes, walked in unit
-- steps, are such paths and have a union of this length
pub record LeastCut (runs : List Run) (routes : List Route) (n : ℕ) : Type 0 where
  pub no_saving : (paths : List Route) → UnitPaths runs paths → n ≤ unit_length paths
  pub are_paths : UnitPaths runs (map walked routes)
  pub attained : unit_length (map walked routes) ≡ n
