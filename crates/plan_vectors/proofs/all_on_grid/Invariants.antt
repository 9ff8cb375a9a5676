-- Before each round, the first k routes are on the grid.
use Rattle.network.specs.Lists.{All}
use Rattle.route.specs.Route.{OnGrid, numbered}
use Rattle.route.specs.Stored.{tracks_in, routes_in}
use Rattle.plan_vectors.proofs.all_on_grid.Given as goal

abbrev pub invariant-loop-k : goal.invariant-loop-k
invariant-loop-k l = All (OnGrid numbered) (routes_in l.routes.steps.now l.routes.stride (tracks_in l.routes) l.k)
