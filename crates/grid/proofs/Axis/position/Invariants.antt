-- The invariant: k is the number of lines below v among those passed.
use mathlib.Core.Path.{◌≡◌}
use Rattle.grid.specs.Lines.{index_of}
use Rattle.grid.proofs.Axis.position.Given as goal

abbrev pub invariant-loop-line : goal.invariant-loop-line
invariant-loop-line l = l.k ≡ index_of l.line-items l.line-index l.v
