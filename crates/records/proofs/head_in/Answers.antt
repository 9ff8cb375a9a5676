-- `records::head_in` meets its contract: each field is what its reader ensures.
use borrow.Author.Tests.{lt-ltb, le-ltb}
use Rattle.records.proofs.head_in.Goals as goal

pub returns-then-body-lt18 : goal.returns-then-body-lt18
returns-then-body-lt18 c = simp (lt-ltb _ _ c.if-body-lt18.true)

pub returns : goal.returns
returns c = simp (le-ltb _ _ c.if-body-lt18.false) cc
