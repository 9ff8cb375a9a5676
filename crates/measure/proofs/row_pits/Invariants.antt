-- `measure::row_pits` meets its contract. The loop's invariant: n is the number of pits at the vertices passed.
use mathlib.Core.Path.{◌≡◌}
use Rattle.measure.specs.Measured.{row_pits}
use Rattle.measure.proofs.row_pits.Given as goal

abbrev pub invariant-loop-i : goal.invariant-loop-i
invariant-loop-i l = l.n ≡ row_pits l.corners l.right l.up l.row l.i
