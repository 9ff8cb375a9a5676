-- `plan::write_corners` meets its contract. The loop's invariant is `Writing`: the records of the corners ahead, behind those written, complete all.
use Prim.Native.Nat.{◌-◌}
use Rattle.route.specs.Route.{route_by}
use Rattle.plan.proofs.Corners.{Writing}
use Rattle.plan.proofs.write_corners.Given as goal

abbrev pub invariant-loop-w : goal.invariant-loop-w
invariant-loop-w l = Writing l.columns l.rows (route_by l.steps l.track) l.initial.out l.out l.w l.at

abbrev pub decreases-loop-w : goal.decreases-loop-w
decreases-loop-w l = l.track.count - l.w.at
