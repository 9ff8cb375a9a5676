-- Before each round, the first i lines are short.
use Rattle.std.proofs.Common.{◌≡◌, length}
use Rattle.table.specs.Frame.{line_in}
use Rattle.table_rounds.proofs.Short.{Short}
use Rattle.table_rounds.proofs.lines_at.Given as goal

abbrev pub invariant-loop-i : goal.invariant-loop-i
invariant-loop-i l = (length l.lines ≡ 64) × Short (line_in l.lines) l.i
