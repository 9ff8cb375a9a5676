-- By the test of the definition.
use Rattle.table.specs.Walk.{up_no}
use Rattle.table.proofs.Walking.{up_true, up_false}
use native.Mathlib.Omega.{arith}
use Rattle.table.proofs.trace.up_no.Goals as goal

pub returns-then-ver-b : goal.returns-then-ver-b
unfolding up_no
returns-then-ver-b c =
    let h = up_true c.args.ver c.args.a c.args.b c.requires c.if-ver-b.true in
    rw c.if-ver-b.true (omega arith)

pub returns-else-ver-b : goal.returns-else-ver-b
unfolding up_no
returns-else-ver-b c =
    let h = up_false c.args.ver c.args.a c.args.b c.if-ver-b.false in
    rw c.if-ver-b.false (omega arith)
