-- C-19, for ANY runs: "the plan is no longer than the union of any Manhattan paths of unit steps between whole-decimetre points, one for each run".
-- Least routes on the Hanan grid are no longer in union than any such paths.
use mathlib.Core.List.{List, [], ◌∷◌, map}
use Prim.Native.Nat.{◌≤◌, ◌<◌}
use native.Mathlib.Omega.{arith}
use lib.ListN.{length}
use Rattle.network.specs.Lists.{All}
use Rattle.network.specs.Plane.{Run}
use Rattle.network.specs.Grid.{Grid, edges}
use Rattle.network.specs.Hanan.{hanan}
use Rattle.network.specs.Route.{Route, Routes, union_length, Least}
use Rattle.network.specs.Boxes.{Placed}
use Rattle.network.proofs.Sums.{sum_zero}
use Rattle.network.proofs.Hanan.{hanan_all}
use Rattle.unit.specs.Paths.{UnitPaths, unit_length}
use Rattle.unit.proofs.Rounding.{all_unit, rounded_paths}
use Rattle.unit.proofs.Emptiest.{emptiest_union}

-- on any grid that has the runs' points for vertices there are Manhattan routes whose union is no longer
pub no_longer_routes : (g : Grid) (runs : List Run) → All (Placed g) runs → (paths : List Route) → UnitPaths runs paths
    → (routes : List Route) × Routes g runs routes × (union_length g routes ≤ unit_length paths)
unfolding union_length unit_length
no_longer_routes g [] j (_ ∷ _) u = elim u [ ]
no_longer_routes g [] j [] u = ([], tt, omega (arith, sum_zero (edges g)))
no_longer_routes g (run ∷ runs) j paths u =
    let a : 0 < length g.columns = omega (arith, j.0.first_vertex.column.1) in
    let b : 0 < length g.rows = omega (arith, j.0.first_vertex.row.1) in
    let (f, w, h) = emptiest_union g paths (all_unit (run ∷ runs) paths u) a b in
    (map (map f) paths, rounded_paths g f w (run ∷ runs) paths j u, h)

-- and so there are on the Hanan grid
pub hanan_no_longer : (runs : List Run) (paths : List Route) → UnitPaths runs paths
    → (routes : List Route) × Routes (hanan runs) runs routes × (union_length (hanan runs) routes ≤ unit_length paths)
hanan_no_longer runs paths u = no_longer_routes (hanan runs) runs (hanan_all runs) paths u

-- C-19: trenches off the survey lines save no digging
pub no_saving : (runs : List Run) (routes : List Route) → Least (hanan runs) runs routes → (paths : List Route) → UnitPaths runs paths
    → union_length (hanan runs) routes ≤ unit_length paths
no_saving runs routes l paths u = let (others, m, h) = hanan_no_longer runs paths u in omega (arith, l.least others m)
