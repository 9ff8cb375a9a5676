use mathlib.Core.Path.{◌≡◌, sym, ap, ◌∙◌}
use Prim.Native.Nat.{ℕ}
use native.Mathlib.Omega.{arith}
use Rattle.network.specs.Lists.{every}
use Rattle.network.specs.Graph.{below}
use Rattle.groups.specs.Near.{is_local}
use Rattle.intersection.specs.Centres.{joined_in}
use Rattle.intersection.proofs.Finding.{every_on, every_off}
use Rattle.intersection.proofs.finder.are_local.Goals as goal

pub returns-then-not-is_local : goal.returns-then-not-is_local
returns-then-not-is_local c =
    every_off (is_local (joined_in c.args.neighbours.now) 32) c.loop-i.i c.args.n (omega arith) (sym c.is_local.ensures ∙ c.if-not-is_local.true)

pub loop-i-preserved : goal.loop-i-preserved
loop-i-preserved c =
    let l = c.loop-i in
    every_on (is_local (joined_in c.args.neighbours.now) 32) l.i (sym c.is_local.ensures ∙ c.if-not-is_local.false) l.invariant

pub returns : goal.returns
returns c =
    let l = c.loop-i in
    let e : l.i ≡ c.args.n = omega arith in
    sym l.invariant ∙ ap (λ (n : ℕ). every (is_local (joined_in c.args.neighbours.now) 32) (below n)) e
