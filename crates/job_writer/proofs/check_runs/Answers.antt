use mathlib.Core.Path.{sym, ap, ◌∙◌}
use Prim.Native.Nat.{◌-◌, ◌+◌}
use Rattle.std.proofs.lemmas.Result.{err_from_is_err_and}
use Rattle.job_writer.specs.Listed.{first_of, runs_answer}
use Rattle.job_writer.proofs.Runs.{answers_next, answers_end}
use Rattle.job_writer.proofs.check_runs.Goals as goal

pub returns-in_err-check_run : goal.returns-in_err-check_run
returns-in_err-check_run c =
    let i = c.loop-i.i in
    let a = c.args in
    let p = err_from_is_err_and c.from_residual.result c.from_residual.ensures.1 in
    rw (p.1, p.2)
    (sym (c.loop-i.invariant ∙ answers_next a.runs.now a.count i c.loop-i-test.true
    ∙ ap (λ b. first_of b (runs_answer a.runs.now (a.count - (i + 1)) (i + 1))) (sym c.check_run.ensures ∙ c.in_err-check_run.was)))

pub loop-i-preserved : goal.loop-i-preserved
loop-i-preserved c =
    let i = c.loop-i.i in
    let a = c.args in
    c.loop-i.invariant ∙ answers_next a.runs.now a.count i c.loop-i-test.true
    ∙ ap (λ b. first_of b (runs_answer a.runs.now (a.count - (i + 1)) (i + 1))) (sym c.check_run.ensures ∙ c.in_ok-check_run.was)

pub returns : goal.returns
returns c = sym (c.loop-i.invariant ∙ answers_end _ _ _ c.loop-i-test.false)
