-- `book::figures_of` meets its contract: the head of the reading, where there is one.
use mathlib.Core.Path.{sym, ap}
use Rattle.book.specs.Reading.{figures_of}
use Rattle.book.proofs.Accepted.{reading_accepted, reading_refused}
use Rattle.book.proofs.figures_of.Goals as goal

pub returns-in_default : goal.returns-in_default
returns-in_default c = sym (ap figures_of (reading_refused _ _ c.in_default.ensures))

pub returns : goal.returns
returns c = let (es, e, l) = reading_accepted _ _ c.in-Ok.ensures in sym (ap figures_of e)
