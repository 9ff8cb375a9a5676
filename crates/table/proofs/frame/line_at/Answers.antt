-- The first line has no line before it; at every other line the definition's sets and its lower line are those of the code.
use Rattle.table.proofs.Lines.{first_line, next_line, lower_lt, lower_rises}
use Prim.Native.Nat.{◌-◌}
use mathlib.Core.Path.{refl}
use native.Mathlib.Omega.{arith}
use Rattle.table.proofs.frame.line_at.Goals as goal

pub returns-then-i-eq0 : goal.returns-then-i-eq0
returns-then-i-eq0 c =
    let a = c.args in
    (λ on e f. first_line on _ a.p a.q a.i _ c.if-i-eq0.true e, refl)

pub bounds-lines-low : goal.bounds-lines-low
bounds-lines-low c =
    let a = c.args in
    omega (arith, c.lower_of-low.ensures.0, lower_lt 64 a.p a.q (a.i - 1) c.requires.0 c.requires.1 (omega arith))

pub overflow_sub-result-2 : goal.overflow_sub-result-2
overflow_sub-result-2 c =
    let a = c.args in
    lower_rises a.lines.now a.p a.q (a.i - 1) _ c.requires.4 (omega arith) c.lower_of-low.ensures.0

pub returns : goal.returns
returns c =
    let a = c.args in
    (λ on e f. next_line on a.lines.now a.p a.q a.i _ _ _ c.if-i-eq0.false e f c.lower_of-low.ensures.0, refl)
