-- Before each round, the byte does not stand before i.
use Rattle.hexadecimal.proofs.Lines.{Sought}
use Rattle.hexadecimal.proofs.place_of.Given as goal

abbrev pub invariant-loop-i : goal.invariant-loop-i
invariant-loop-i l = Sought l.c l.text l.fn.from l.i
