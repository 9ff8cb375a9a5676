-- Before each turn the last i steps are written, the last one first.
use mathlib.Core.List.{map, reverse}
use Prim.Native.Nat.{◌+◌, ◌-◌}
use lib.ListN.{length, drop}
use Rattle.route.specs.Route.{dir_of}
use Rattle.layout.specs.Laid.{Longer}
use Rattle.layout.proofs.back.Given as goal

abbrev pub invariant-loop-i : goal.invariant-loop-i
invariant-loop-i l = Longer l.initial.to l.at l.i (reverse (map dir_of (drop (length l.part - l.i) l.part))) l.to (l.at + l.i)
