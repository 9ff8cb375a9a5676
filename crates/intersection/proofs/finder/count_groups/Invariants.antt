-- The invariant: the runs below i that are their own centres are counted.
use mathlib.Core.Path.{◌≡◌}
use Prim.Native.Nat.{◌≤◌}
use lib.ListN.{length, get_or}
use Rattle.groups.specs.Groups.{heads}
use Rattle.intersection.proofs.finder.count_groups.Given as goal

abbrev pub invariant-loop-i : goal.invariant-loop-i
invariant-loop-i l = (l.groups ≡ length (heads (λ k. get_or l.centres k 0) l.i)) × (l.groups ≤ l.i)
