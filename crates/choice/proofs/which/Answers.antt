-- What the reading of the job accepts decides by its books.
use mathlib.Core.Path.{◌∙◌}
use Rattle.std.proofs.lemmas.Result.{err_from_is_err_and}
use Rattle.job.proofs.Answered.{reading_refuses}
use Rattle.planner.proofs.Held.{reading_held}
use Rattle.choice.proofs.Cases.{job_accepted, job_refused}
use Rattle.choice.proofs.which.Goals as goal

pub returns-in_err-found : goal.returns-in_err-found
returns-in_err-found c =
    let a = c.args in
    let p = err_from_is_err_and c.from_residual.result c.from_residual.ensures.1 in
    rw (p.1, p.2) (job_refused a.job.now a.first.now a.second.now _ (reading_refuses _ c.read.result _ c.read.ensures c.in_err-found.was))

pub choose_for-requires : goal.choose_for-requires
choose_for-requires c = (reading_held _ c.read.result _ (λ i. (c.type_inv.job i).fits) c.read.ensures c.in_ok-found.was).0

pub returns : goal.returns
returns c =
    let a = c.args in
    let parsed = (reading_held _ c.read.result _ (λ i. (c.type_inv.job i).fits) c.read.ensures c.in_ok-found.was).1 in
    c.choose_for.ensures ∙ job_accepted a.job.now a.first.now a.second.now _ _ parsed
