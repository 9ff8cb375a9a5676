-- The edges along and across are those into the position, in the order that the direction says.
use mathlib.Core.Path.{sym, ◌∙◌}
use Rattle.table.proofs.Walking.{arrive_up, arrive_right}
use Rattle.table.proofs.trace.arrive.Goals as goal

pub returns-then-t : goal.returns-then-t
returns-then-t c =
    let a = c.args in
    c.edge_before.ensures
    ∙ rw (c.edge_by-v.ensures, c.pair_at-2.ensures, c.edge_by-h.ensures, c.pair_at.ensures)
    (sym (arrive_up a.work.now a.p a.col a.row a.t a.cross c.if-t.true))

pub returns : goal.returns
returns c =
    let a = c.args in
    c.edge_before-2.ensures
    ∙ rw (c.edge_by-v.ensures, c.pair_at-2.ensures, c.edge_by-h.ensures, c.pair_at.ensures)
    (sym (arrive_right a.work.now a.p a.col a.row a.t a.cross c.if-t.false))
