-- The function's own words are enough.
use mathlib.Core.Path.{subst}
use Prim.Native.Nat.{ℕ}
use lib.ListN.{length, length-replicate}
use Rattle.planner.specs.Verdict.{verdict}
use Rattle.planner.specs.Call.{said}
use Rattle.planner.specs.Outcome.{Outcome}
use Rattle.planner.proofs.Stages.{own_outcome}
use Rattle.planner.proofs.plan_with.Goals as goal

pub returns : goal.returns
returns g c =
    let a = c.args in
    own_outcome g.row.N a.job.now a.out.now _ _ (λ i. (c.type_inv.job i).fits) c.requires.0
    (subst (λ n. Outcome (verdict a.job.now n (length a.out.now)) a.out.now (said c.plan.result) c.plan.new.out) (length-replicate {A = ℕ} g.row.N 0) c.plan.ensures.0)
