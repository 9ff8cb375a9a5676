-- `book::scan::run_from` meets its contract: each corner that is taken is one more; the measure is the number of bytes that are left.
use Prim.Native.Nat.{◌-◌, ◌≤◌}
use lib.ListN.{length}
use Rattle.book.specs.Shape.{Passes}
use Rattle.book.proofs.scan.run_from.Given as goal

abbrev pub invariant-loop-c : goal.invariant-loop-c
invariant-loop-c l = (l.to ≤ length l.book) × Passes l.book l.at l.initial.walk l.to l.walk

abbrev pub decreases-loop-c : goal.decreases-loop-c
decreases-loop-c l = length l.book - l.to
