use mathlib.Core.Path.{◌≡◌, ap}
use Prim.Native.Nat.{ℕ, ◌+◌, ◌*◌, ◌/◌, ◌<◌}
use native.Mathlib.Nat.{div-mul-le_self}
use native.Mathlib.Omega.{arith}
use lib.ListN.{length}
use Rattle.route.specs.declared.Walker.{Walker}
use Rattle.route.specs.Route.{Route, route_by, OnGrid, indexed}
use Rattle.route.specs.Marked.{indexes_of}
use Rattle.route.proofs.Walk.{On, on_start, on_step, on_few, can_step, at_step, column_below, row_below, visits_next, visits_end, left_turned, left_straight, left_end}
use Rattle.route.proofs.Corners.{visits_touched, left_start}
use Rattle.route.proofs.Marks.{mark_inside, rest_all, rest_one, rest_last}
use Rattle.route.proofs.mark_route.Goals as goal
use Rattle.route.proofs.mark_route.Goals.{else-s, then-s}

-- the walker's vertex has a mark
inside : (width n m : ℕ) (r : Route) (w : Walker) → On r w → OnGrid (indexed width (n / width)) r → m ≡ n
    → (w.here.column < width) × (w.here.row * width + w.here.column < m)
inside width n m r w o g e =
    let c = column_below r w o width (n / width) g in
    (c, rw e (mark_inside width (n / width) (indexes_of w.here) n c (row_below r w o width (n / width) g) (div-mul-le_self n width)))

pub loop-w-init : goal.loop-w-init
loop-w-init c =
    let a = c.args in
    let p = c.requires in
    let r = route_by a.steps.now a.track in
    rw c.start-w.ensures
    (on_start r p.0, omega arith, omega arith, omega (arith, ap length (left_start r p.0)), rest_all _ _ _ _ _ (visits_touched r p.0))

pub step-s-requires : goal.step-s-requires
step-s-requires c =
    let o = c.loop-w.invariant.0 in
    (omega (arith, o.grid.held), can_step _ _ o c.loop-w-test.true)

pub mark-pits-requires : goal.mark-pits-requires
mark-pits-requires c =
    let l = c.loop-w in
    inside _ _ _ _ _ l.invariant.0 c.requires.1 l.invariant.2

pub loop-w-preserved : goal.loop-w-preserved
loop-w-preserved c =
    let m = c.mark-pits in
    let s = c.step-s in
    let l = c.loop-w in
    let p = c.requires in
    let o = l.invariant.0 in
    let h = c.loop-w-test.true in
    let g = at_step _ l.w s.result o h s.ensures in (
      on_step _ l.w s.result o h s.ensures,
      omega arith,
      omega arith,
      elim c.if-s.branch [ then-s w ↦ omega (arith, ap length (left_turned _ l.w s.result o h s.ensures w.if-s.true)) | else-s w ↦ omega (arith, ap length (left_straight _ l.w s.result o h s.ensures w.if-s.false)) ],
      rest_one _ _ _ _ _ _ _ _ _ _ (rw (visits_next _ l.w s.result o h s.ensures) at l.invariant.4) (m.ensures.0 _ (row_below _ _ o _ _ p.1)),
    )

pub mark-pits-requires-2 : goal.mark-pits-requires-2
mark-pits-requires-2 c =
    let l = c.loop-w in
    inside _ _ _ _ _ l.invariant.0 c.requires.1 l.invariant.2

pub returns : goal.returns
returns c =
    let m = c.mark-pits-2 in
    let l = c.loop-w in
    let p = c.requires in
    let o = l.invariant.0 in (
      rest_last _ _ _ _ _ _ _ _ _ (rw (visits_end _ _ o c.loop-w-test.false) at l.invariant.4) (m.ensures.0 _ (row_below _ _ o _ _ p.1)),
      omega (arith, on_few _ _ o, o.passed),
      omega (arith, ap length (left_end _ _ o c.loop-w-test.false)),
    )
