-- The invariant: the set has the runs below i that meet one run at most.
use mathlib.Core.Path.{◌≡◌}
use Rattle.groups.specs.Near.{is_lone}
use Rattle.intersection.specs.Sets.{pack}
use Rattle.intersection.specs.Centres.{joined_in}
use Rattle.intersection.proofs.finder.lone_runs.Given as goal

abbrev pub invariant-loop-i : goal.invariant-loop-i
invariant-loop-i l = l.found ≡ pack (is_lone (joined_in l.neighbours) 32) l.i
