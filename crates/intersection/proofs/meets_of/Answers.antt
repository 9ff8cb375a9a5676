-- The degree is the size of the set.
use native.Mathlib.Omega.{arith}
use lib.ListN.{get_or}
use Rattle.network.specs.Graph.{degree}
use Rattle.network.proofs.Sums.{count_le}
use Rattle.intersection.specs.Sets.{has}
use Rattle.intersection.proofs.meets_of.Goals as goal

pub returns : goal.returns
unfolding degree
returns c =
    (c.size.ensures, omega (arith, c.size.ensures, count_le (has (get_or c.args.neighbours.now c.args.i 0)) 32))
