-- `route::mark_routes` meets its contract. The loop's invariant: what the first k routes touch is marked, the pits that came are counted, and the
-- corners of each route.
use mathlib.Core.Path.{◌≡◌}
use mathlib.Core.List.{map}
use Prim.Native.Nat.{◌*◌, ◌/◌, ◌≤◌}
use lib.ListN.{length, take}
use Rattle.route.specs.Route.{corners_of, corner_count}
use Rattle.route.specs.Stored.{tracks_in, routes_in}
use Rattle.route.specs.Marked.{Counted}
use Rattle.route.proofs.Marks.{some_touched}
use Rattle.route.proofs.mark_routes.Given as goal

abbrev pub invariant-loop-k : goal.invariant-loop-k
invariant-loop-k l =
    let routesTo = routes_in l.routes.steps.now l.routes.stride (tracks_in l.routes) in
    (length l.marks ≡ length l.initial.marks)
    × (length l.corners ≡ 32)
    × (l.pits ≤ 127 * l.k)
    × (take l.k l.corners ≡ map corner_count (routesTo l.k))
    × Counted l.width (length l.initial.marks / l.width) l.initial.marks l.marks (some_touched (map corners_of (routesTo l.k))) l.pits
