use mathlib.Core.Path.{sym}
use Rattle.intersection.proofs.Digits.{pack_none, pack_lt}
use Rattle.table.specs.Frame.{crosses}
use Rattle.table.proofs.Boxes.{pack_more}
use native.Mathlib.Omega.{arith}
use Rattle.table.proofs.frame.crossing.Goals as goal

pub loop-k-init : goal.loop-k-init
loop-k-init c = sym (pack_none (crosses _ _ _ _ _))

pub with_bit-s-requires : goal.with_bit-s-requires
with_bit-s-requires c = (omega arith, rw c.loop-k.invariant (pack_lt (crosses _ _ _ _ _) c.loop-k.k))

pub loop-k-preserved : goal.loop-k-preserved
unfolding crosses
loop-k-preserved c =
    let l = c.loop-k in
    let a = c.args in
    rw (pack_more (crosses a.x.now.first a.x.now.second a.y.now.first a.y.now.second a.centre) l.k, ← l.invariant, ← c.goes_down-down.ensures) c.with_bit-s.ensures
