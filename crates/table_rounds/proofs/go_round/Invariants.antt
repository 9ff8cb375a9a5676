-- Before each round, the words are as many as at first, and the sum is below 65,536.
use Rattle.std.proofs.Common.{◌≡◌, ◌<◌, length}
use Rattle.table_rounds.proofs.go_round.Given as goal

abbrev pub invariant-loop : goal.invariant-loop
invariant-loop l = (l.sum < 65536) × (length l.work ≡ length l.fn.work) × (length l.trace.steps ≡ 128) × (length l.trace.shares ≡ 128)
