-- `job_writer::run_of` meets its contract: each coordinate is in its range.
use borrow.Author.Rules.{rules}
use mathlib.Core.Path.{ap, ◌∙◌}
use Rattle.job_writer.specs.Listed.{in_range}
use Rattle.job_writer.proofs.Signed.{word_back}
use Rattle.job_writer.proofs.Runs.{coordinates_true}
use Rattle.job_writer.proofs.run_of.Goals as goal

pub biased_of-requires-4 : goal.biased_of-requires-4
biased_of-requires-4 c =
    ap in_range (word_back c.args.run.y2 (search rules)) ∙ (coordinates_true c.args.run c.requires).y2_in
