-- Before each round, the first k bytes stand at the front.
use Rattle.hexadecimal.proofs.Digits.{Stored}
use Rattle.hexadecimal.proofs.unhex.Given as goal

abbrev pub invariant-loop-k : goal.invariant-loop-k
invariant-loop-k l = Stored l.digits l.fn.out l.out l.n l.k
