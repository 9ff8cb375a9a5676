-- The invariant: every run passed is local.
use mathlib.Core.Path.{◌≡◌}
use mathlib.Core.Bool.{true}
use Rattle.network.specs.Lists.{every}
use Rattle.network.specs.Graph.{below}
use Rattle.groups.specs.Near.{is_local}
use Rattle.intersection.specs.Centres.{joined_in}
use Rattle.intersection.proofs.finder.are_local.Given as goal

abbrev pub invariant-loop-i : goal.invariant-loop-i
invariant-loop-i l = every (is_local (joined_in l.neighbours) 32) (below l.i) ≡ true
