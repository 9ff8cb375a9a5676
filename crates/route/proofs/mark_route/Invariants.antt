-- `route::mark_route` meets its contract. The loop's invariant: marking the vertices ahead completes marking what the route touches, and the corners
-- counted and those ahead are all, and the last once more.
use mathlib.Core.Path.{◌≡◌}
use Prim.Native.Nat.{suc, ◌+◌, ◌-◌, ◌/◌, ◌≤◌}
use lib.ListN.{length}
use Rattle.network.specs.Lists.{any}
use Rattle.route.specs.Route.{route_by, corners_of}
use Rattle.route.specs.Marked.{touched}
use Rattle.route.proofs.Walk.{On, visits, left}
use Rattle.route.proofs.Touched.{touches}
use Rattle.route.proofs.Marks.{Rest}
use Rattle.route.proofs.mark_route.Given as goal

abbrev pub invariant-loop-w : goal.invariant-loop-w
invariant-loop-w l =
    let r = route_by l.steps l.track in
    On r l.w
    × (l.pits ≤ l.w.at)
    × (length l.marks ≡ length l.initial.marks)
    × (l.corners + length (left r l.w) ≡ suc (length (corners_of r)))
    × Rest l.width (length l.initial.marks / l.width) (touched (corners_of r)) l.initial.marks l.marks (λ d p. any (touches d p) (visits r l.w)) l.pits

abbrev pub decreases-loop-w : goal.decreases-loop-w
decreases-loop-w l = l.track.count - l.w.at
