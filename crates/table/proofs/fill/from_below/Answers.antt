-- The words where the edge begins are those of the position one row below.
use mathlib.Core.Path.{sym}
use Rattle.table.proofs.Rule.{enter_none}
use Rattle.table.proofs.fill.from_below.Goals as goal

pub returns-then-b-eq0 : goal.returns-then-b-eq0
returns-then-b-eq0 c =
    let a = c.args in
    sym (enter_none a.b _ _ _ a.row a.below a.col a.cross c.if-b-eq0.true)
