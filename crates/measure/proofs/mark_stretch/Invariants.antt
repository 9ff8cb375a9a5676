-- `measure::mark_stretch` meets its contract. The loop's invariant: the places before k are marked.
use Prim.Native.Nat.{◌≤◌, max}
use Rattle.measure.specs.Marks.{direction_of, Stretched}
use Rattle.measure.proofs.mark_stretch.Given as goal

abbrev pub invariant-loop-k : goal.invariant-loop-k
invariant-loop-k l = (l.k ≤ max l.low l.high) × Stretched (direction_of l.upright) l.line l.low l.k l.initial.marks l.marks
