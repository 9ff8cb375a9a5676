-- `measure::row_trench` meets its contract. The loop's invariant: the sum is the length of the marked edges that start at the vertices passed.
use mathlib.Core.Path.{◌≡◌}
use Rattle.measure.specs.Measured.{row_trench}
use Rattle.measure.proofs.row_trench.Given as goal

abbrev pub invariant-loop-i : goal.invariant-loop-i
invariant-loop-i l = l.sum ≡ row_trench l.right l.up l.widths l.height l.row l.i
