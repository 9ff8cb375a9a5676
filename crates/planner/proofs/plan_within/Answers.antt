-- The function's own bytes are enough.
use Rattle.planner.proofs.Stages.{ample_scratch}
use Rattle.planner.proofs.plan_within.Goals as goal

pub plan_routes-requires : goal.plan_routes-requires
plan_routes-requires g c = let p = c.requires in (p.0, record { words = p.1.words; bytes = p.1.bytes }, ample_scratch _ _ p.2)
