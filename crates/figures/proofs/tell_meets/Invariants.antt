-- The invariant: the array holds the figures of the runs passed.
use mathlib.Core.Path.{◌≡◌}
use Rattle.network.specs.Graph.{below, degree}
use Rattle.grid.specs.Tables.{table, padded}
use Rattle.intersection.specs.Centres.{joined_in}
use Rattle.figures.proofs.tell_meets.Given as goal

abbrev pub invariant-loop-i : goal.invariant-loop-i
invariant-loop-i l = l.told ≡ padded 32 (table (λ k. degree (joined_in l.neighbours) (below 32) k) l.i)
