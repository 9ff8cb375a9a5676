-- Each return is a case of the definition.
use mathlib.Core.Path.{sym, ◌∙◌}
use Rattle.std.proofs.lemmas.Result.{err_from_is_err_and}
use Rattle.planner.specs.Held.{runs_in}
use Rattle.choice.proofs.Cases.{first_refused, second_refused, first_chosen, second_chosen}
use Rattle.choice.proofs.choose_known.Goals as goal

pub returns-in_err-trench : goal.returns-in_err-trench
returns-in_err-trench c =
    let k = c.args.known.now in
    let p = err_from_is_err_and c.from_residual.result c.from_residual.ensures.1 in
    rw (p.1, p.2)
    (first_refused k.job.number (runs_in k.job) c.args.first.now c.args.second.now _ (sym c.judge.ensures ∙ c.in_err-trench.was))

pub returns-in_err-other : goal.returns-in_err-other
returns-in_err-other c =
    let k = c.args.known.now in
    let p = err_from_is_err_and c.from_residual-in_err-other.result c.from_residual-in_err-other.ensures.1 in
    rw (p.1, p.2)
    (second_refused k.job.number (runs_in k.job) c.args.first.now c.args.second.now _ (sym c.judge.ensures ∙ c.in_ok-trench.was) _
    (sym c.judge-2.ensures ∙ c.in_err-other.was))

pub returns-then-trench-other : goal.returns-then-trench-other
returns-then-trench-other c =
    let k = c.args.known.now in
    first_chosen k.job.number (runs_in k.job) c.args.first.now c.args.second.now _ (sym c.judge.ensures ∙ c.in_ok-trench.was) _
    (sym c.judge-2.ensures ∙ c.in_ok-other.was) c.if-trench-other.true

pub returns-else-trench-other : goal.returns-else-trench-other
returns-else-trench-other c =
    let k = c.args.known.now in
    second_chosen k.job.number (runs_in k.job) c.args.first.now c.args.second.now _ (sym c.judge.ensures ∙ c.in_ok-trench.was) _
    (sym c.judge-2.ensures ∙ c.in_ok-other.was) c.if-trench-other.false
