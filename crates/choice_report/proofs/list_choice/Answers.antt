-- `choice_report::list_choice` meets its contract: each arm lists what was chosen.
use mathlib.Core.Path.{sym, ap, ◌∙◌}
use Rattle.std.specs.Prelude.{Ok}
use Rattle.choice_report.proofs.Chosen.{first_due, second_due, refusal_due}
use Rattle.choice_report.proofs.list_choice.Goals as goal

pub returns-in-Ok-First : goal.returns-in-Ok-First
returns-in-Ok-First c =
    let l = c.list_chosen.ensures in
    let e = sym c.which.ensures ∙ c.in-Ok-First.is ∙ ap Ok c.in-Ok-First.field-0-is in
    record { listed = first_due _ _ _ _ _ _ e _ _ c.trench_of.ensures c.trench_of-in-Ok-First.ensures l; within = (l.within, l.front) }

pub returns-in-Ok-Second : goal.returns-in-Ok-Second
returns-in-Ok-Second c =
    let l = c.list_chosen-in-Ok-Second.ensures in
    let e = sym c.which.ensures ∙ c.in-Ok-Second.is ∙ ap Ok c.in-Ok-Second.field-0-is in
    record { listed = second_due _ _ _ _ _ _ e _ _ c.trench_of-in-Ok-Second.ensures c.trench_of-in-Ok-Second-2.ensures l; within = (l.within, l.front) }

pub returns-in-Err : goal.returns-in-Err
returns-in-Err c =
    let l = c.list_refusal.ensures in
    let e = sym c.which.ensures ∙ c.in-Err.is in
    record { listed = refusal_due _ _ _ _ _ _ _ e l; within = (l.within, l.front) }
