-- `trench::trench_read_place` meets its contract: the place of the reading's refusal.
use mathlib.Core.Path.{◌∙◌}
use Rattle.trench.proofs.Codes.{placed_read}
use Rattle.trench.proofs.trench_read_place.Goals as goal

pub returns : goal.returns
returns c = c.place_of.ensures ∙ placed_read _ c.args.book.now c.read.result c.map.result c.read.ensures c.map.ensures.cases
