-- The invariant: the lines are the distinct values of the runs passed.
use mathlib.Core.Path.{◌≡◌}
use Rattle.network.specs.Distinct.{distinct}
use Rattle.grid.specs.Lines.{values, axis_of}
use Rattle.grid.proofs.Axis.of.Given as goal

abbrev pub invariant-loop-i : goal.invariant-loop-i
invariant-loop-i l = l.axis ≡ axis_of (distinct (values l.spans.first l.spans.second l.i))
