-- The same sum and tests as the definition's.
use Rattle.table.specs.Walk.{begins_with}
use Rattle.table.proofs.trace.begins.Goals as goal

pub returns : goal.returns
unfolding begins_with
returns c = rw (c.max-f.ensures, c.unless_own-2.ensures.0, c.unless_own.ensures.0)
