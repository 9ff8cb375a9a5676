-- `trench::trench_job_place` meets its contract: the place of the check's answer is that of the call.
use mathlib.Core.Path.{sym, ap, ◌∙◌}
use lib.ListN.{length}
use Rattle.job.specs.Reading.{answer_place}
use Rattle.job_writer.specs.Listed.{list_answer}
use Rattle.job_writer.specs.Call.{book_of, call_of}
use Rattle.trench.proofs.Codes.{place_by}
use Rattle.trench.proofs.trench_job_place.Goals as goal

pub returns : goal.returns
unfolding call_of
returns c =
    let a = c.args in
    c.place_of.ensures ∙ ap answer_place c.check.ensures
    ∙ sym (place_by (list_answer a.runs.now (length a.out.now)) (book_of a.number a.runs.now) a.out.now)
