-- `table_rounds::lines_at` meets its contract: each round puts one short line more.
use Rattle.std.proofs.Common.{◌≤◌, ◌∙◌, arith}
use lib.ListN.{length-set}
use Rattle.table.specs.Frame.{no_line}
use Rattle.table.proofs.Lines.{set_next}
use Rattle.table_rounds.proofs.lines_at.Goals as goal

pub loop-i-preserved : goal.loop-i-preserved
loop-i-preserved c =
    let l = c.loop-i in
    (length-set l.lines l.i _ ∙ l.invariant.0, set_next no_line l.lines l.i _ (omega (arith, l.invariant.0)) (λ j x. x.len ≤ 2000000) l.invariant.1 c.line_at.ensures)
