use Prim.Native.Nat.{◌+◌}
use mathlib.Core.Path.{refl, sym, ap, ◌∙◌}
use Rattle.std.specs.Prelude.{Ok}
use Rattle.std.proofs.lemmas.Result.{err_from_is_err_and}
use Rattle.job.proofs.Progress.{first_refused, so_far_none, so_far_room, so_far_more, so_far_end, so_far_refused}
use Rattle.job.proofs.read_into.Goals as goal

pub returns-in_err-job : goal.returns-in_err-job
returns-in_err-job c =
    let p = err_from_is_err_and c.from_residual.result c.from_residual.ensures.1 in
    rw (p.1, p.2) (first_refused _ _ c.args.job.now c.requires (sym c.head_number.ensures ∙ c.in_err-job.was))

pub loop-run-init : goal.loop-run-init
loop-run-init c = (refl, so_far_none _ _ c.args.job.now c.requires (sym c.head_number.ensures ∙ c.in_ok-job.was))

pub returns-in_err-run : goal.returns-in_err-run
returns-in_err-run c =
    let p = err_from_is_err_and c.from_residual-in_err-run.result c.from_residual-in_err-run.ensures.1 in
    let (n, h) = c.loop-run.invariant in
    rw (p.1, p.2) (so_far_refused _ _ _ _ h _ (rw n at (sym c.step_at.ensures ∙ c.in_err-run.was)))

pub add-requires : goal.add-requires
add-requires c =
    let (n, h) = c.loop-run.invariant in
    (n, rw n (so_far_room _ _ _ _ h _ (rw n at (sym c.step_at.ensures ∙ c.in_ok-run.was ∙ ap Ok c.in-Some.is))))

pub loop-run-preserved : goal.loop-run-preserved
loop-run-preserved c =
    let (n, h) = c.loop-run.invariant in
    rw c.add.ensures (ap (λ k. k + 1) n, so_far_more _ _ _ _ h _ (rw n at (sym c.step_at.ensures ∙ c.in_ok-run.was ∙ ap Ok c.in-Some.is)))

pub returns : goal.returns
returns c =
    let (n, h) = c.loop-run.invariant in
    so_far_end _ _ _ _ h (rw n at (sym c.step_at.ensures ∙ c.in_ok-run.was ∙ ap Ok c.in_default.is))
