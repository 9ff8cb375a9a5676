use mathlib.Core.Path.{ap}
use Prim.Native.Nat.{min, max}
use native.Mathlib.Omega.{arith}
use lib.ListN.{get_or}
use Rattle.job.specs.declared.Spans.{Spans}
use Rattle.grid.proofs.Tables.{table_more}
use Rattle.intersection.proofs.box_sides.Goals as goal

pub loop-i-preserved : goal.loop-i-preserved
loop-i-preserved c =
    let s = c.args.spans.now in
    let l = c.loop-i in
    let lower = table_more (λ k. min (get_or s.first k 0) (get_or s.second k 0)) 32 l.i _ l.sides.first (omega arith) c.min.ensures (ap (λ (x : Spans). x.first) l.invariant) in
    let higher = table_more (λ k. max (get_or s.first k 0) (get_or s.second k 0)) 32 l.i _ l.sides.second (omega arith) c.max.ensures (ap (λ (x : Spans). x.second) l.invariant) in
    λ o. record { first = lower o; second = higher o }
