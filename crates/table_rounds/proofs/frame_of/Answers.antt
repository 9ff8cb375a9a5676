-- `table_rounds::frame_of` meets its contract: the lines are short, and each axis has 1 to 64.
use Rattle.table_rounds.proofs.Short.{fits}
use Rattle.table_rounds.proofs.frame_of.Goals as goal

pub returns : goal.returns
returns c = fits _ c.lines_at.ensures.1 c.lines_at-2.ensures.1 c.count_at.ensures c.count_at-2.ensures
