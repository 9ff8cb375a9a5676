-- `job_writer::coordinates_in` meets its contract.
use borrow.Author.Rules.{rules}
use mathlib.Core.Path.{refl, ap, ◌∙◌}
use Rattle.job_writer.specs.Listed.{in_range}
use Rattle.job_writer.proofs.Signed.{word_back}
use Rattle.job_writer.proofs.coordinates_in.Goals as goal

pub returns : goal.returns
returns c =
    let r = c.args.run in
    let x1 = c.in_range.ensures ∙ ap in_range (word_back r.x1 (search rules)) in
    let y1 = c.in_range-2.ensures ∙ ap in_range (word_back r.y1 (search rules)) in
    let x2 = c.in_range-3.ensures ∙ ap in_range (word_back r.x2 (search rules)) in
    let y2 = c.in_range-4.ensures ∙ ap in_range (word_back r.y2 (search rules)) in
    rw (x1, y1, x2, y2) refl
