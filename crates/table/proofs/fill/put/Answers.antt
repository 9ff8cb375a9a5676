-- The stores are those of the definition.
use Rattle.table.specs.Rule.{four}
use borrow.Author.Rules.{rules}
use Rattle.table.proofs.fill.put.Goals as goal

pub returns : goal.returns
unfolding four
returns c = search rules
