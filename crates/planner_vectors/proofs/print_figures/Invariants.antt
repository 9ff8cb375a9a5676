-- Each record has a byte.
use Rattle.std.proofs.Common.{length, ◌-◌}
use Rattle.planner_vectors.proofs.print_figures.Given as goal

abbrev pub decreases-loop-at : goal.decreases-loop-at
decreases-loop-at l = length l.plan - l.at
