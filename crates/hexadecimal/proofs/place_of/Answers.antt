-- `hexadecimal::place_of` meets its contract: the byte is found, another is passed, or the text ends.
use Rattle.hexadecimal.proofs.Lines.{sought_found, sought_end, sought_next}
use Rattle.hexadecimal.proofs.place_of.Goals as goal

pub returns-then-text-i : goal.returns-then-text-i
returns-then-text-i c = sought_found _ _ _ _ c.loop-i.invariant c.loop-i-test.true c.if-text-i.true

pub loop-i-preserved : goal.loop-i-preserved
loop-i-preserved c = sought_next _ _ _ _ c.loop-i.invariant c.loop-i-test.true c.if-text-i.false

pub returns : goal.returns
returns c = sought_end _ _ _ _ c.loop-i.invariant c.loop-i-test.false
