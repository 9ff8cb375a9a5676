-- The outcome with work words of the function's own, as the map screen is told it.
use Rattle.planner.proofs.MapScreen.{plan_short}
use Rattle.planner.proofs.plan_for_map.Goals as goal

pub answer_code-requires : goal.answer_code-requires
answer_code-requires c =
    let a = c.args in
    plan_short a.job.now 16384 a.out.now _ _ (λ i. (c.type_inv.job i).fits) c.plan_own.ensures
