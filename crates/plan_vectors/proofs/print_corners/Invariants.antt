-- The walker stays on the route.
use Rattle.std.proofs.Common.{◌-◌}
use Rattle.route.specs.Route.{route_by}
use Rattle.route.proofs.Walk.{On}
use Rattle.plan_vectors.proofs.print_corners.Given as goal

abbrev pub invariant-loop-w : goal.invariant-loop-w
invariant-loop-w l = On (route_by l.steps l.track) l.w

abbrev pub decreases-loop-w : goal.decreases-loop-w
decreases-loop-w l = l.track.count - l.w.at
