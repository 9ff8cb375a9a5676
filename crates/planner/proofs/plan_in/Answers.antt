-- The outcome of the call in the lent words, as C is told it.
use mathlib.Core.Path.{◌∙◌}
use lib.ListN.{length}
use mir.Syntax.{w32}
use mir.ValLaws.{to_z-of_z}
use Rattle.planner.proofs.MapScreen.{plan_short}
use Rattle.planner.proofs.plan_in.Goals as goal

pub answer_code-requires : goal.answer_code-requires
answer_code-requires c =
    let a = c.args in
    plan_short a.job.now (length a.work.now) a.out.now _ _ (λ i. (c.type_inv.job i).fits) c.plan.ensures.0

pub returns : goal.returns
returns c =
    let p = c.plan.ensures in
    record { map_outcome = record { said = _; told = to_z-of_z w32 c.answer_code.result (record { sfits = c.answer_code.type_inv }) ∙ c.answer_code.ensures; outcome = p.0 }; words = p.1 }
