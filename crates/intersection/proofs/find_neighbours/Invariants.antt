-- The invariant: the first i runs have been compared with each other. The cases of their boxes tell which of them meet.
use mathlib.Core.Path.{◌≡◌}
use Rattle.grid.specs.Runs.{runs_held}
use Rattle.intersection.specs.Centres.{meets_in, neighbour_sets}
use Rattle.intersection.proofs.find_neighbours.Given as goal

abbrev pub invariant-loop-i : goal.invariant-loop-i
invariant-loop-i l = l.sets ≡ neighbour_sets (meets_in (runs_held l.x.first l.y.first l.x.second l.y.second l.n)) l.i
