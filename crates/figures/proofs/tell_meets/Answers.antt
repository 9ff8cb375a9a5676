use mathlib.Core.Path.{◌≡◌, ap, ◌∙◌}
use Prim.Native.Nat.{ℕ}
use native.Mathlib.Omega.{arith}
use Rattle.network.specs.Graph.{below, degree}
use Rattle.grid.specs.Tables.{table, padded}
use Rattle.grid.proofs.Tables.{table_more}
use Rattle.intersection.specs.Centres.{joined_in}
use Rattle.figures.proofs.tell_meets.Goals as goal

pub loop-i-preserved : goal.loop-i-preserved
loop-i-preserved c =
    let l = c.loop-i in
    table_more (λ k. degree (joined_in c.args.neighbours.now) (below 32) k) 32 l.i _ l.told (omega arith) c.meets_of.ensures.0 l.invariant

pub returns : goal.returns
returns c =
    let e : c.loop-i.i ≡ c.args.n = omega arith in
    c.loop-i.invariant ∙ ap (λ (k : ℕ). padded 32 (table (λ i. degree (joined_in c.args.neighbours.now) (below 32) i) k)) e
