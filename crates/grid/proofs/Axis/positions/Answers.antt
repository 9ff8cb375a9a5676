use mathlib.Core.Path.{◌≡◌, sym}
use Prim.Native.Nat.{◌+◌}
use native.Mathlib.Omega.{arith}
use lib.ListN.{take, length-take}
use Rattle.grid.proofs.Places.{index_none, index_counted, index_passed, index_le}
use Rattle.grid.proofs.Axis.positions.Goals as goal

pub loop-line-init : goal.loop-line-init
loop-line-init c = (sym (index_none _ _), sym (index_none _ _))

pub overflow_add-first : goal.overflow_add-first
overflow_add-first c =
    let a = c.args.self.now in
    let l = c.loop-line in
    omega (arith, index_counted _ _ _ _ _ l.invariant.0 c.from-first.ensures, index_le (take a.count a.lines) (l.line-index + 1) c.args.v, length-take a.count a.lines)

pub overflow_add-second : goal.overflow_add-second
overflow_add-second c =
    let a = c.args.self.now in
    let l = c.loop-line in
    omega (arith, index_counted _ _ _ _ _ l.invariant.1 c.from-second.ensures, index_le (take a.count a.lines) (l.line-index + 1) c.args.w, length-take a.count a.lines)

pub loop-line-preserved : goal.loop-line-preserved
loop-line-preserved c =
    (index_counted _ _ _ _ _ c.loop-line.invariant.0 c.from-first.ensures, index_counted _ _ _ _ _ c.loop-line.invariant.1 c.from-second.ensures)

pub returns : goal.returns
returns c =
    let a = c.args.self.now in
    let l = c.loop-line in
    let e : l.line-index ≡ a.count = omega (arith, length-take a.count a.lines) in
    let p = index_passed a.lines a.count _ c.args.v _ e l.invariant.0 in
    let q = index_passed a.lines a.count _ c.args.w _ e l.invariant.1 in
    λ i. record { first = p i; second = q i }
