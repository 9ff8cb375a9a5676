-- The sum stays below the modulus.
use Rattle.std.proofs.Common.{◌<◌}
use Rattle.plan_vectors.proofs.digest.Given as goal

abbrev pub invariant-loop-b : goal.invariant-loop-b
invariant-loop-b l = l.sum < 4294967291
