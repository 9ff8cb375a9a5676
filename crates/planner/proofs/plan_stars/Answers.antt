-- By the tests on the runs and the lines.
use native.Mathlib.Omega.{arith}
use borrow.Author.Tests.{leb-true}
use Rattle.network.proofs.Tests.{and_split}
use Rattle.planner.proofs.Stages.{few_ample, many_ample}
use Rattle.planner.proofs.plan_stars.Goals as goal

pub plan_within-requires : goal.plan_within-requires
plan_within-requires c =
    let p = c.requires in
    let (h, n) = and_split _ _ c.if-grouped.true in
    let (x, y) = and_split _ _ h in
    (p.0, record { words = p.1.words; bytes = p.1.bytes }, few_ample _ (leb-true _ 8 n) (leb-true _ 16 x) (leb-true _ 16 y), omega arith)

pub plan_within-requires-2 : goal.plan_within-requires-2
plan_within-requires-2 c = let p = c.requires in (p.0, record { words = p.1.words; bytes = p.1.bytes }, many_ample _ p.0, omega arith)
