-- `job_writer::write` meets its contract, by what the check answers.
use mathlib.Core.Path.{sym, ap, ◌∙◌}
use Rattle.std.specs.Prelude.{Ok}
use Rattle.std.proofs.lemmas.Result.{err_from_is_err_and}
use Rattle.job_writer.specs.Call.{book_of, call_by, call_of}
use Rattle.job_writer.proofs.write.Goals as goal

pub returns-in_err-check : goal.returns-in_err-check
unfolding call_of
returns-in_err-check c =
    let a = c.args in
    let p = err_from_is_err_and c.from_residual.result c.from_residual.ensures.1 in
    rw (p.1, p.2) (ap (λ b. call_by b (book_of a.number a.runs.now) a.out.now) (sym c.check.ensures ∙ c.in_err-check.was))

pub returns : goal.returns
unfolding call_of
returns c =
    let w = c.write_book in
    let a = c.args in
    ap (λ b. call_by b (book_of a.number a.runs.now) a.out.now) (sym c.check.ensures ∙ c.in_ok-check.was)
    ∙ (λ i. record { says = Ok (sym w.ensures.size i); out = sym w.ensures.bytes i })
