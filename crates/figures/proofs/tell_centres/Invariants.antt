-- The invariant: the array holds the numbers of the centres of the runs passed.
use mathlib.Core.Path.{◌≡◌}
use lib.ListN.{get_or}
use Rattle.grid.specs.Tables.{table, padded}
use Rattle.figures.proofs.tell_centres.Given as goal

abbrev pub invariant-loop-i : goal.invariant-loop-i
invariant-loop-i l = l.told ≡ padded 32 (table (λ k. get_or l.numbers (get_or l.centres k 0) 0) l.i)
