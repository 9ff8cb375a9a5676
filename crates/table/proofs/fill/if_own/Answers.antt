-- By the same test as the definition.
use Rattle.table.proofs.Rule.{if_yes, if_no}
use native.Mathlib.Omega.{arith}
use Rattle.table.proofs.fill.if_own.Goals as goal

pub returns-then-e-o : goal.returns-then-e-o
returns-then-e-o c = omega (arith, if_yes c.args.e c.args.o c.if-e-o.true)

pub returns-else-e-o : goal.returns-else-e-o
returns-else-e-o c = omega (arith, if_no c.args.e c.args.o c.if-e-o.false)
