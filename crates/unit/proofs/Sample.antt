-- Two runs whose paths of unit steps share an edge, walked in opposite ways: the definitions compute.
-- The union of the paths has four unit edges, as the union of the routes on the Hanan grid has.
use mathlib.Core.Path.{◌≡◌, refl}
use mathlib.Core.List.{List, [], ◌∷◌, map, flat_map}
use Rattle.network.specs.Lists.{unique}
use Rattle.network.specs.Plane.{Run, ◌to◌, gap, distance, same_point}
use Rattle.network.specs.Grid.{len, edges, spans}
use Rattle.network.specs.Hanan.{hanan}
use Rattle.network.specs.Distinct.{insert}
use Rattle.network.specs.Route.{Route, level, lies, union_length}
use Rattle.unit.specs.Paths.{UnitPaths, same_step, same_edge, unit_length, nearer, next, walked}
use Rattle.unit.proofs.Units.{point}

abbrev runs : List Run
runs = (point 0 0 to point 2 1) ∷ (point 2 0 to point 1 1) ∷ []

abbrev paths : List Route
paths = (point 0 0 ∷ point 1 0 ∷ point 2 0 ∷ point 2 1 ∷ []) ∷ (point 2 0 ∷ point 1 0 ∷ point 1 1 ∷ []) ∷ []

-- the same by their corners
abbrev routes : List Route
routes = (point 0 0 ∷ point 2 0 ∷ point 2 1 ∷ []) ∷ (point 2 0 ∷ point 1 0 ∷ point 1 1 ∷ []) ∷ []

are_paths : UnitPaths runs paths
unfolding distance gap
are_paths = (
  record { starts = refl; ends = refl; unit = (refl, (refl, (refl, tt))); shortest = refl },
  (record { starts = refl; ends = refl; unit = (refl, (refl, tt)); shortest = refl }, tt),
)

walks : map walked routes ≡ paths
unfolding next nearer distance gap
walks = refl

four_edges : unit_length paths ≡ 4
unfolding unit_length unique same_edge same_step same_point flat_map
four_edges = refl

four_decimetres : union_length (hanan runs) routes ≡ 4
unfolding union_length edges lies level spans len insert
four_decimetres = refl
