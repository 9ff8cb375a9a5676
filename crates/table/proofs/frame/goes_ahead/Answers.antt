-- By the same cases as the definition.
use Rattle.table.specs.Frame.{ahead}
use Rattle.table.proofs.frame.goes_ahead.Goals as goal

pub returns-then-back : goal.returns-then-back
unfolding ahead
returns-then-back c = rw c.if-back.true

pub returns-else-back : goal.returns-else-back
unfolding ahead
returns-else-back c = rw c.if-back.false
