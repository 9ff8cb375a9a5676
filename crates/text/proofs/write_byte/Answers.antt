-- `text::write_byte` meets its contract: there is no room, or the byte stands at the front.
use native.Mathlib.Omega.{arith}
use Rattle.text.proofs.Listed.{listed_full, listed_byte}
use Rattle.text.proofs.write_byte.Goals as goal

pub returns-then-text-eq0 : goal.returns-then-text-eq0
returns-then-text-eq0 c = listed_full _ _ c.if-text-eq0.true

pub returns : goal.returns
returns c = listed_byte _ _ (omega arith)
