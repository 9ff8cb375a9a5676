-- `book::read` meets its contract. The invariant puts the places so far in front of what the rest of the book gives (`SoFar`); the measure is the number of
-- bytes that are left. Behind the end the answer is that of the counts.
use Prim.Native.Nat.{◌-◌}
use lib.ListN.{length}
use Rattle.book.proofs.Progress.{SoFar}
use Rattle.book.proofs.read.Given as goal

abbrev pub invariant-loop-run : goal.invariant-loop-run
invariant-loop-run l = SoFar l.book l.places l.at l.walk

abbrev pub decreases-loop-run : goal.decreases-loop-run
decreases-loop-run l = length l.book - l.at
