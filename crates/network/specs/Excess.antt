-- What routes save against digging for each run alone: each edge counts once for each route on it, but the first.
use Rattle.std.specs.Prelude.{List, ◌&&◌, cond, ℕ, pred, ◌*◌}
use Rattle.network.specs.Lists.{sum, count}
use Rattle.network.specs.Grid.{Grid, len, edges}
use Rattle.network.specs.Route.{Route, on}

unfoldable pub excess : Grid → List Route → ℕ
excess g routes = sum (λ e. len e * pred (count (on e) routes)) (edges g)

-- the length that two routes share
unfoldable pub shared : Grid → Route → Route → ℕ
shared g p q = sum (λ e. cond (on e p && on e q) (len e) 0) (edges g)
