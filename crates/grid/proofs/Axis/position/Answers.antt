use mathlib.Core.Path.{◌≡◌, sym}
use Prim.Native.Nat.{◌+◌}
use native.Mathlib.Omega.{arith}
use lib.ListN.{take, length-take}
use Rattle.grid.proofs.Places.{index_none, index_counted, index_passed, index_le}
use Rattle.grid.proofs.Axis.position.Goals as goal

pub loop-line-init : goal.loop-line-init
loop-line-init c = sym (index_none _ _)

pub overflow_add-k : goal.overflow_add-k
overflow_add-k c =
    let a = c.args.self.now in
    let l = c.loop-line in
    omega (arith, index_counted _ _ _ _ _ l.invariant c.from-k.ensures, index_le (take a.count a.lines) (l.line-index + 1) c.args.v, length-take a.count a.lines)

pub loop-line-preserved : goal.loop-line-preserved
loop-line-preserved c = index_counted _ _ _ _ _ c.loop-line.invariant c.from-k.ensures

pub returns : goal.returns
returns c =
    let a = c.args.self.now in
    let l = c.loop-line in
    let e : l.line-index ≡ a.count = omega (arith, length-take a.count a.lines) in
    (index_passed a.lines a.count _ c.args.v _ e l.invariant, omega (arith, index_le (take a.count a.lines) l.line-index c.args.v))
