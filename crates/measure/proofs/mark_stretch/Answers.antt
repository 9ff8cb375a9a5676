use native.Mathlib.Omega.{arith}
use Rattle.measure.specs.Marks.{direction_of}
use Rattle.measure.proofs.Marking.{stretched_more}
use Rattle.measure.proofs.mark_stretch.Goals as goal

pub loop-k-preserved : goal.loop-k-preserved
loop-k-preserved c =
    let l = c.loop-k in
    let a = c.args in
    (omega arith, rw c.cell.ensures.0 (stretched_more (direction_of a.upright) a.line a.low l.k a.marks.now l.marks (omega arith) (omega arith) (omega arith) l.invariant.1))
