-- By the test of the definition; a member of a set is below 256.
use Rattle.table.specs.Walk.{share_no}
use Rattle.table.proofs.Walking.{lowest_byte}
use borrow.Author.Rules.{rules}
use Rattle.table.proofs.trace.share_no.Goals as goal

pub returns-then-e-cross : goal.returns-then-e-cross
unfolding share_no
returns-then-e-cross c = rw c.if-e-cross.true

pub returns : goal.returns
unfolding share_no
returns c =
    rw c.if-e-cross.false (lowest_byte c.args.t.edge.own c.lowest.result (search rules) c.lowest.ensures)
