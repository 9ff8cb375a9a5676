-- The invariant: the array holds the centres of the runs passed.
use mathlib.Core.Path.{◌≡◌}
use Rattle.grid.specs.Tables.{table, padded}
use Rattle.groups.specs.Near.{near_centre}
use Rattle.intersection.specs.Centres.{joined_in}
use Rattle.intersection.proofs.finder.centres_of.Given as goal

abbrev pub invariant-loop-i : goal.invariant-loop-i
invariant-loop-i l = l.centres ≡ padded 32 (table (λ k. near_centre (joined_in l.neighbours) 32 k) l.i)
