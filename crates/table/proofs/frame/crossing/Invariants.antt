-- Before each turn the set is that of the runs below k.
use mathlib.Core.Path.{◌≡◌}
use Rattle.intersection.specs.Sets.{pack}
use Rattle.table.specs.Frame.{crosses}
use Rattle.table.proofs.frame.crossing.Given as goal

abbrev pub invariant-loop-k : goal.invariant-loop-k
invariant-loop-k l = l.s ≡ pack (crosses l.x.first l.x.second l.y.first l.y.second l.centre) l.k
