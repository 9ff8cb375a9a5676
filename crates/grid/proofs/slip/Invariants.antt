-- The invariant: v and the lines passed stand one place further, and the last of them is held.
use Rattle.grid.proofs.Shifting.{Slipped}
use Rattle.grid.proofs.slip.Given as goal

abbrev pub invariant-loop-line : goal.invariant-loop-line
invariant-loop-line l = Slipped l.initial.lines l.v l.lines l.held l.line-index
