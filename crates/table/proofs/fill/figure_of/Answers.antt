-- The last position is that of the last vertex.
use Rattle.table.proofs.Filling.{figure_is}
use native.Mathlib.Omega.{arith}
use Rattle.table.proofs.fill.figure_of.Goals as goal

pub returns : goal.returns
returns c =
    let g = c.args.g.now in
    let e = figure_is g.w g.h c.args.work.now c.max-n.result c.requires.0 c.requires.1 (rw (c.max-n.ensures, c.start_at.ensures.0, c.max.ensures)) in
    omega (arith, c.saturating_sub.ensures)
