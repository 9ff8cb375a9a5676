-- What reading the book gives is what its bytes say; each arm lists that.
use Rattle.plan_report.proofs.Books.{plan_due, refusal_due}
use Rattle.plan_report.proofs.list_book.Goals as goal

pub returns-in-Ok : goal.returns-in-Ok
returns-in-Ok c =
    let l = c.list_plan.ensures in
    record { listed = plan_due _ _ _ _ (λ i. (c.type_inv.book i).fits) _ c.in-Ok.ensures l; within = (l.within, l.front) }

pub returns-in-Err : goal.returns-in-Err
returns-in-Err c =
    let l = c.list_refusal.ensures in
    record { listed = refusal_due _ _ _ _ _ c.in-Err.ensures l; within = (l.within, l.front) }
