-- The invariant: the numbers of lines below v and below w among those passed.
use mathlib.Core.Path.{◌≡◌}
use Rattle.grid.specs.Lines.{index_of}
use Rattle.grid.proofs.Axis.positions.Given as goal

abbrev pub invariant-loop-line : goal.invariant-loop-line
invariant-loop-line l = (l.first ≡ index_of l.line-items l.line-index l.v) × (l.second ≡ index_of l.line-items l.line-index l.w)
