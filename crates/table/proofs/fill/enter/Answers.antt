-- There is no edge into the first line; else the rule is applied to the edges that end where it begins.
use mathlib.Core.Path.{sym, ◌∙◌}
use Rattle.table.proofs.Rule.{enter_none, enter_some}
use Rattle.table.proofs.fill.enter.Goals as goal

pub returns-then-s-eq0 : goal.returns-then-s-eq0
returns-then-s-eq0 c =
    let a = c.args in
    sym (enter_none a.s a.x a.y a.start a.along a.before a.across a.cross c.if-s-eq0.true)

pub returns : goal.returns
returns c =
    let a = c.args in
    c.rule.ensures
    ∙ rw (c.edge_by-a.ensures, c.edge_by-c.ensures)
    (sym (enter_some a.s a.x a.y a.start a.along a.before a.across a.cross c.if-s-eq0.false))
