-- The place is the reader's: 1, 2 and 11 have the place 0, as a plan has.
use mathlib.Core.Path.{sym, ap, ◌∙◌}
use Rattle.job.specs.Parse.{parse}
use Rattle.job.specs.Reading.{answer_place}
use Rattle.planner.proofs.Verdicts.{answer_placed, verdict_place}
use Rattle.planner.proofs.place_for_map.Goals as goal

pub returns : goal.returns
returns c = λ work out. c.place_of.ensures ∙ ap answer_place c.read_into.ensures.answer ∙ answer_placed (parse c.args.job.now) ∙ sym (verdict_place _ work out)
