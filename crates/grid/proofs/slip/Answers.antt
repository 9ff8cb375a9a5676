use native.Mathlib.Omega.{arith}
use Rattle.grid.proofs.Shifting.{slipped_on, slipped_end}
use Rattle.grid.proofs.slip.Goals as goal

pub loop-line-preserved : goal.loop-line-preserved
loop-line-preserved c = slipped_on _ _ _ _ _ _ _ c.loop-line.invariant (omega arith) c.replace-held.ensures.after c.replace-held.ensures.value

pub returns : goal.returns
returns c = slipped_end _ _ _ _ _ c.loop-line.invariant (omega arith)
