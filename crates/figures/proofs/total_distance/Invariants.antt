-- The invariant: the total is the sum of the distances of the runs passed, each of them at most 4,000,000.
use mathlib.Core.Path.{◌≡◌}
use Prim.Native.Nat.{◌*◌, ◌≤◌}
use Rattle.network.specs.Lists.{sum}
use Rattle.network.specs.Plane.{distance}
use Rattle.grid.specs.Runs.{runs_held}
use Rattle.figures.proofs.total_distance.Given as goal

abbrev pub invariant-loop-i : goal.invariant-loop-i
invariant-loop-i l = (l.total ≡ sum distance (runs_held l.x.first l.y.first l.x.second l.y.second l.i)) × (l.total ≤ 4000000 * l.i)
