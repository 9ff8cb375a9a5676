use mathlib.Core.Path.{sym}
use native.Mathlib.Omega.{arith}
use Rattle.network.specs.Plane.{gap}
use Rattle.planner.proofs.Counted.{steps_none, steps_more}
use Rattle.planner.proofs.survey.steps_on.Goals as goal

pub loop-k-init : goal.loop-k-init
loop-k-init c = (sym (steps_none _), omega arith)

pub loop-k-preserved : goal.loop-k-preserved
unfolding gap
loop-k-preserved c =
    let w = c.requires.1 c.loop-k.k (omega arith) in
    (omega (arith, steps_more c.args.places.now c.loop-k.k, c.abs_diff.ensures, c.loop-k.invariant), omega arith)
