-- The words where the edge begins are those of the cell that is handed on.
use mathlib.Core.Path.{sym}
use Rattle.table.proofs.Rule.{enter_none}
use Rattle.table.proofs.fill.from_left.Goals as goal

pub returns-then-a-eq0 : goal.returns-then-a-eq0
returns-then-a-eq0 c =
    let a = c.args in
    sym (enter_none a.a _ _ _ a.col a.left a.row a.cross c.if-a-eq0.true)
