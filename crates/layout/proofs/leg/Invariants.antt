-- Before each turn the first i steps of the leg are written.
use Prim.Native.Nat.{◌+◌}
use lib.ListN.{take}
use Rattle.layout.specs.Way.{leg_of}
use Rattle.layout.specs.Laid.{Longer}
use Rattle.layout.proofs.leg.Given as goal

abbrev pub invariant-loop-i : goal.invariant-loop-i
invariant-loop-i l = Longer l.initial.to l.at l.i (take l.i (leg_of l.across l.up)) l.to (l.at + l.i)
