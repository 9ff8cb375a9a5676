use native.Mathlib.Omega.{arith}
use Rattle.layout.proofs.Growing.{leg_next}
use Rattle.layout.proofs.leg.Goals as goal

pub loop-i-preserved : goal.loop-i-preserved
loop-i-preserved c =
    let l = c.loop-i in
    let a = c.args in
    leg_next _ _ l.to l.i (omega arith) a.across a.up c.leg_step.result c.loop-i-test.true c.leg_step.ensures l.invariant
