-- What the call of the planner says of the answer and of the plan buffer is the verdict on the job; each arm lists what it answers.
use mathlib.Core.Path.{sym}
use native.Mathlib.Omega.{arith}
use lib.Seq.{length-take-le}
use Rattle.report.proofs.Answered.{answered}
use Rattle.report.proofs.Reported.{plan_within, plan_reported, refusal_reported}
use Rattle.report.proofs.list_job.Goals as goal

pub slice_bounds-out-end : goal.slice_bounds-out-end
slice_bounds-out-end c =
    let p = c.plan in
    let job = c.args.job.now in
    omega (arith, plan_within job p.result p.new.out (answered job p.result p.new.out (λ i. (c.type_inv.job i).fits) p.ensures.0) _ c.in-Ok.is)

pub slice_bounds-list_plan-end : goal.slice_bounds-list_plan-end
slice_bounds-list_plan-end c =
    let p = c.plan in
    let job = c.args.job.now in
    let h = plan_within job p.result p.new.out (answered job p.result p.new.out (λ i. (c.type_inv.job i).fits) p.ensures.0) _ c.in-Ok.is in
    sym (length-take-le _ p.new.out (omega (arith, h)))

pub returns-in-Ok : goal.returns-in-Ok
returns-in-Ok c =
    let l = c.list_plan.ensures in
    let p = c.plan in
    let job = c.args.job.now in
    let call = answered job p.result p.new.out (λ i. (c.type_inv.job i).fits) p.ensures.0 in
    record { reported = plan_reported job p.result p.new.out call _ _ _ (λ i. (c.type_inv.job i).fits) _ c.in-Ok.is l; within = (l.within, l.front) }

pub returns-in-Err : goal.returns-in-Err
returns-in-Err c =
    let l = c.list_refusal.ensures in
    let p = c.plan in
    let job = c.args.job.now in
    let call = answered job p.result p.new.out (λ i. (c.type_inv.job i).fits) p.ensures.0 in
    record { reported = refusal_reported job p.result p.new.out call _ _ _ _ c.in-Err.is l; within = (l.within, l.front) }
