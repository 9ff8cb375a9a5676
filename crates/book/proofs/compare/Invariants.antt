-- `book::compare` meets its contract. The invariant: the counts from route i on decide what all counts decide.
use Rattle.book.proofs.Counts.{WholeBook, Comparing}
use Rattle.book.proofs.compare.Given as goal

abbrev pub invariant-loop-i : goal.invariant-loop-i
invariant-loop-i l = (w : WholeBook l.book l.head l.n l.total l.places) → Comparing w l.i
