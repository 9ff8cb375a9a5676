-- `hexadecimal::unhex` meets its contract: each round stores one byte more, and at the end all that are due are stored.
use Rattle.std.proofs.Common.{arith}
use Rattle.hexadecimal.proofs.Digits.{stored_next, stored_all}
use Rattle.hexadecimal.proofs.unhex.Goals as goal

pub loop-k-preserved : goal.loop-k-preserved
loop-k-preserved c = stored_next _ _ _ _ _ c.loop-k.invariant _ c.loop-k-test.true c.pair.ensures

pub returns : goal.returns
returns c = stored_all _ _ _ _ _ c.loop-k.invariant _ (omega (arith, c.loop-k.auto.k-end, c.loop-k-test.false)) (omega arith)
