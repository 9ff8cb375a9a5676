-- `judge::routes::Corners::length` meets its contract. The loop's invariant: the length of the pieces between the first k corners, which is at most 4,000,000 dm a piece.
use mathlib.Core.Path.{◌≡◌}
use Prim.Native.Nat.{◌*◌, ◌-◌, ◌≤◌}
use lib.ListN.{length, take}
use Rattle.network.specs.Lists.{sum as total}
use Rattle.network.specs.Plane.{distance}
use Rattle.network.specs.Route.{Route, pieces}
use Rattle.judge.specs.Steps.{Drawn}
use Rattle.judge.proofs.routes.Corners.length.Given as goal

abbrev pub invariant-loop-k : goal.invariant-loop-k
invariant-loop-k l =
    (l.sum ≤ (l.k - 1) * 4000000)
    × ((route : Route) → Drawn l.self.book.now l.self.at route → l.self.count ≡ length route → l.sum ≡ total distance (pieces (take l.k route)))
