-- `console::read_full` meets its contract: each round puts one read behind those before.
use Rattle.std.proofs.Common.{rules}
use Rattle.console.proofs.Reading.{read_more}
use Rattle.console.proofs.read_full.Goals as goal

pub loop-done-preserved : goal.loop-done-preserved
loop-done-preserved g c =
    (search rules, read_more _ _ _ _ _ _ _ _ c.loop-done.invariant.0 c.in_ok-n.ensures.bound.0 c.loop-done.invariant.1 c.in_ok-n.ensures.bytes.0)
