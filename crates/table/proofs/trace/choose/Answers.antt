-- By the same cases as the definition.
use Rattle.table.specs.Walk.{chosen}
use Rattle.table.proofs.trace.choose.Goals as goal

pub returns-then-ahead : goal.returns-then-ahead
unfolding chosen
returns-then-ahead c = rw c.if-ahead.true c.take.ensures

pub returns : goal.returns
unfolding chosen
returns c = rw c.if-ahead.false c.take-2.ensures
