use Rattle.table.proofs.Boxes.{spread_done}
use native.Mathlib.Omega.{arith}
use Rattle.table.proofs.side.spread.Goals as goal

pub returns : goal.returns
returns c =
    let r = c.loop-i.invariant.2 in
    (r.size, λ i. spread_done _ _ _ _ _ _ r (omega arith) (omega arith) i)
