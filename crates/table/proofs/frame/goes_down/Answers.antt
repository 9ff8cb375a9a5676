-- The four tests are those of the definition.
use Rattle.table.specs.Frame.{goes_down}
use Rattle.table.proofs.frame.goes_down.Goals as goal

pub returns : goal.returns
unfolding goes_down
returns c =
    rw (c.goes_ahead-4.ensures, c.goes_ahead-3.ensures, c.goes_ahead-2.ensures, c.goes_ahead.ensures)
