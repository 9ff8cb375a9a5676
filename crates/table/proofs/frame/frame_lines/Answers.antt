use Prim.Native.Nat.{◌<◌, ◌≤◌, ◌-◌}
use mathlib.Core.Path.{◌≡◌, ◌∙◌}
use lib.ListN.{length-set}
use Rattle.network.specs.Plane.{gap}
use Rattle.grid.specs.Lines.{length_at}
use Rattle.table.specs.Frame.{no_line, frame_line}
use Rattle.table.proofs.Lines.{set_next, sets_kept}
use native.Mathlib.Omega.{arith}
use Rattle.table.proofs.frame.frame_lines.Goals as goal

pub line_at-requires : goal.line_at-requires
unfolding gap
line_at-requires c = (c.requires.0, c.requires.1, omega arith, omega arith, c.requires.2)

pub loop-i-preserved : goal.loop-i-preserved
unfolding gap
loop-i-preserved c =
    let l = c.loop-i in
    let a = c.args in
    let r = c.line_at.result in
    let m = c.line_at.ensures in
    let k : l.i < 64 = omega arith in
    let f : l.i ≤ gap a.p a.q = omega arith in (
      length-set l.t l.i r ∙ l.invariant.0,
      λ j. sets_kept l.t l.i j r (omega (arith, l.invariant.0)) m.1 ∙ l.invariant.1 j,
      λ on e. set_next no_line l.t l.i r (omega (arith, l.invariant.0)) (λ j x. x ≡ frame_line on (length_at a.lines.now) a.p a.q j) (l.invariant.2 on e)
          (m.0 on (l.invariant.1 l.i ∙ e l.i f) (l.invariant.1 (l.i - 1) ∙ e (l.i - 1) (omega arith))),
    )

pub returns : goal.returns
unfolding gap
returns c =
    let l = c.loop-i in
    (l.invariant.0, omega arith, λ on e j h. l.invariant.2 on e j (omega arith))
