use mathlib.Core.Path.{sym, ap, ◌∙◌}
use native.Mathlib.Omega.{arith}
use Rattle.std.specs.Prelude.{Ok}
use Rattle.book.specs.Shape.{none, more}
use Rattle.book.proofs.Progress.{took_corner, corner_room}
use Rattle.book.proofs.scan.run_from.Goals as goal

pub loop-c-init : goal.loop-c-init
loop-c-init c = (c.requires, none)

pub pass-walk-requires : goal.pass-walk-requires
pass-walk-requires c = (took_corner _ _ _ _ (sym c.in_ok-c.ensures ∙ ap Ok c.in-Corner.is)).room

pub loop-c-smaller : goal.loop-c-smaller
loop-c-smaller c = omega (arith, corner_room _ _ _ _ c.loop-c.invariant.0 (sym c.in_ok-c.ensures ∙ ap Ok c.in-Corner.is))

pub loop-c-preserved : goal.loop-c-preserved
loop-c-preserved c =
    let e = sym c.in_ok-c.ensures ∙ ap Ok c.in-Corner.is in
    rw c.pass-walk.ensures (corner_room _ _ _ _ c.loop-c.invariant.0 e, more _ _ _ c.loop-c.invariant.1 e)
