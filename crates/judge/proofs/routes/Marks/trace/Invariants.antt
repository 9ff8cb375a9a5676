-- `judge::routes::Marks::trace` meets its contract. The loop's invariant: v is the vertex of corner k - 1, the first k corners are vertices, and the route up to there is marked.
use mathlib.Core.Path.{◌≡◌}
use mathlib.Core.Bool.{true}
use Prim.Native.Nat.{◌-◌, ◌<◌}
use lib.ListN.{get_or, take}
use Rattle.network.specs.Lists.{every}
use Rattle.network.specs.Grid.{Grid}
use Rattle.network.specs.Route.{Route}
use Rattle.network.specs.Graph.{origin}
use Rattle.measure.specs.Marks.{point_of}
use Rattle.judge.specs.Judged.{is_vertex}
use Rattle.judge.specs.Steps.{Shown, Sized, RouteMarked}
use Rattle.judge.proofs.routes.Marks.trace.Given as goal

abbrev pub invariant-loop-k : goal.invariant-loop-k
invariant-loop-k l =
    Sized l.self
    × ((g : Grid) (points : Route) → Shown g points l.route.book.now l.route.at l.route.count l.columns l.rows → point_of g l.initial.v ≡ get_or points 0 origin
    → (l.v.column < l.columns.count)
    × (l.v.row < l.rows.count)
    × (point_of g l.v ≡ get_or points (l.k - 1) origin)
    × (every (is_vertex g) (take l.k points) ≡ true)
    × RouteMarked g (take l.k points) l.fn.self l.self)
