-- `trench::trench_job` meets its contract: what the writer says, as a number.
use mathlib.Core.Path.{ap, ◌∙◌}
use native.Mathlib.Omega.{arith}
use Rattle.job_writer.proofs.Books.{written_most}
use Rattle.trench.proofs.Codes.{short_said}
use Rattle.trench.proofs.trench_job.Goals as goal

pub answer_code-requires : goal.answer_code-requires
answer_code-requires c =
    short_said c.write.result (λ n e. omega (arith, written_most c.args.number c.args.runs.now c.args.out.now n (ap (λ k. k.says) c.write.ensures ∙ e)))
