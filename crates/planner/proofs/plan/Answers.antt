-- What the reading accepts is planned.
use mathlib.Core.Path.{refl}
use lib.ListN.{length}
use Rattle.std.proofs.lemmas.Result.{err_from_is_err_and}
use Rattle.job.proofs.Answered.{into_refuses}
use Rattle.planner.proofs.Held.{into_held}
use Rattle.planner.proofs.Verdicts.{read_refused, read_accepted}
use Rattle.planner.proofs.plan.Goals as goal

pub plan_job-requires : goal.plan_job-requires
plan_job-requires c = (into_held _ _ _ (λ i. (c.type_inv.job i).fits) c.read_into.ensures c.in_ok-read_into.was).0

pub returns : goal.returns
returns c =
    let a = c.args in
    let parsed = (into_held _ _ _ (λ i. (c.type_inv.job i).fits) c.read_into.ensures c.in_ok-read_into.was).1 in
    let p = c.plan_job.ensures in
    read_accepted a.job.now a.work.now a.out.now _ _ _ _ _ parsed p.0 p.1

pub returns-in_err-read_into : goal.returns-in_err-read_into
returns-in_err-read_into c =
    let a = c.args in
    let p = err_from_is_err_and c.from_residual.result c.from_residual.ensures.1 in
    rw (p.1, p.2) (read_refused a.job.now a.out.now (length a.work.now) _ (into_refuses _ _ _ c.read_into.ensures _ c.in_err-read_into.was), refl)
