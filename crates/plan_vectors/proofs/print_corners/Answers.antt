-- `plan_vectors::print_corners` is safe: the walker stays on the route.
use Rattle.std.proofs.Common.{arith}
use Rattle.route.specs.Route.{route_by}
use Rattle.route.proofs.Walk.{on_start, on_step, can_step, at_step}
use Rattle.plan_vectors.proofs.print_corners.Goals as goal

pub loop-w-init : goal.loop-w-init
loop-w-init c = rw c.start-w.ensures (on_start (route_by c.args.steps.now c.args.track) c.requires)

pub step-s-requires : goal.step-s-requires
step-s-requires c =
    let o = c.loop-w.invariant in
    (omega (arith, o.grid.held), can_step _ _ o c.loop-w-test.true)

pub loop-w-smaller : goal.loop-w-smaller
loop-w-smaller c = omega (arith, at_step _ _ _ c.loop-w.invariant c.loop-w-test.true c.step-s.ensures)

pub loop-w-preserved : goal.loop-w-preserved
loop-w-preserved c = on_step _ _ _ c.loop-w.invariant c.loop-w-test.true c.step-s.ensures
