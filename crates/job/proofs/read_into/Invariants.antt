-- `job::read_into` meets its contract. The invariant equates the runs so far and the rest of the reading with the whole answer (`SoFar`), beside the
-- number of the runs so far.
-- Assumes nothing.
use mathlib.Core.Path.{◌≡◌}
use Prim.Native.Nat.{◌-◌}
use Rattle.job.proofs.Progress.{SoFar}
use Rattle.job.proofs.read_into.Given as goal

abbrev pub invariant-loop-run : goal.invariant-loop-run
invariant-loop-run l = (l.n ≡ l.job.count) × SoFar l.bytes l.job l.at l.last

abbrev pub decreases-loop-run : goal.decreases-loop-run
decreases-loop-run l = 33 - l.n
