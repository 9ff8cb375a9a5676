-- Counting back where the second position is lower, else forth, as the definition does.
use native.Mathlib.Omega.{arith}
use Rattle.network.specs.Plane.{gap}
use Rattle.table.proofs.Lines.{lower_back, lower_forth}
use Rattle.table.proofs.frame.lower_of.Goals as goal

pub overflow_add-result : goal.overflow_add-result
unfolding gap
overflow_add-result c = omega arith

pub overflow_sub-result : goal.overflow_sub-result
unfolding gap
overflow_sub-result c = omega arith

pub overflow_add-result-else-q-p : goal.overflow_add-result-else-q-p
unfolding gap
overflow_add-result-else-q-p c = omega arith

pub returns-then-q-p : goal.returns-then-q-p
unfolding gap
returns-then-q-p c = let a = c.args in omega (arith, lower_back a.p a.q a.i c.if-q-p.true)

pub returns-else-q-p : goal.returns-else-q-p
unfolding gap
returns-else-q-p c = let a = c.args in omega (arith, lower_forth a.p a.q a.i c.if-q-p.false)
