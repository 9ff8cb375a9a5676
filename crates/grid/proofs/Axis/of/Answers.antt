use mathlib.Core.Path.{◌≡◌, ap, ◌∙◌}
use Prim.Native.Nat.{ℕ}
use native.Mathlib.Omega.{arith}
use Rattle.network.specs.Distinct.{distinct}
use Rattle.grid.specs.Lines.{values, axis_of}
use Rattle.grid.proofs.Values.{none_laid, laid_few}
use Rattle.grid.proofs.Axis.of.Goals as goal

pub loop-i-init : goal.loop-i-init
loop-i-init c = none_laid _ _ _ c.new-axis.ensures

pub returns : goal.returns
returns c =
    let s = c.args.spans.now in
    let e : c.loop-i.i ≡ c.args.n = omega arith in
    let p = c.loop-i.invariant ∙ ap (λ (k : ℕ). axis_of (distinct (values s.first s.second k))) e in
    (p, laid_few s.first s.second _ c.args.n c.requires p)
