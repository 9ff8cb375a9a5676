use native.Mathlib.Omega.{arith}
use Rattle.route.specs.Route.{route_by}
use Rattle.route.proofs.Walk.{can_step, column_in, row_in}
use Rattle.plan.proofs.Corners.{writing_all, corner_fits, corner_few, writing_straight, writing_turned, writing_end}
use Rattle.plan.proofs.write_corners.Goals as goal
use Rattle.plan.proofs.write_corners.Goals.{else-s, then-s}

pub loop-w-init : goal.loop-w-init
loop-w-init c =
    let a = c.args in
    let p = c.requires in
    rw c.start-w.ensures (writing_all _ _ (route_by a.steps.now a.track) a.out.now p.0 p.1)

pub step-s-requires : goal.step-s-requires
step-s-requires c =
    let o = c.loop-w.invariant.on in
    (omega (arith, o.grid.held), can_step _ _ o c.loop-w-test.true)

pub write_corner-at-requires : goal.write_corner-at-requires
write_corner-at-requires c =
    let l = c.loop-w in
    (column_in _ _ l.invariant.on, row_in _ _ l.invariant.on, omega (arith, corner_fits _ _ _ _ _ _ _ l.invariant))

pub loop-w-preserved : goal.loop-w-preserved
loop-w-preserved c =
    let l = c.loop-w in
    let s = c.step-s in
    elim c.if-s.branch [ then-s w ↦ rw (w.out-is, w.at-is) (writing_turned _ _ _ _ _ _ _ l.invariant s.result c.loop-w-test.true s.ensures w.if-s.true w.write_corner-at.new.out w.write_corner-at.result w.write_corner-at.ensures) | else-s w ↦ rw (w.out-is, w.at-is) (writing_straight _ _ _ _ _ _ _ l.invariant s.result c.loop-w-test.true s.ensures w.if-s.false) ]

pub write_corner-requires : goal.write_corner-requires
write_corner-requires c =
    let l = c.loop-w in
    (column_in _ _ l.invariant.on, row_in _ _ l.invariant.on, omega (arith, corner_fits _ _ _ _ _ _ _ l.invariant))

pub returns : goal.returns
returns c =
    let l = c.loop-w in
    let v = c.write_corner in
    (writing_end _ _ _ _ _ _ _ l.invariant c.loop-w-test.false v.new.out v.result v.ensures, omega (arith, corner_few _ _ _ _ _ _ _ l.invariant))
