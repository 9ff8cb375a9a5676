-- Before each turn the lines from lo up to i have the bit, and the others are as they were.
use Prim.Native.Nat.{◌+◌, ◌-◌, ◌≤◌}
use Rattle.table.proofs.Boxes.{Spread}
use Rattle.table.proofs.side.spread.Given as goal

abbrev pub invariant-loop-i : goal.invariant-loop-i
invariant-loop-i l = (l.lo ≤ l.i) × (l.i ≤ l.hi + 1) × Spread l.bit l.lo l.initial.t l.t l.i

abbrev pub decreases-loop-i : goal.decreases-loop-i
decreases-loop-i l = l.hi + 1 - l.i
