-- `plan_vectors::print_routes` is safe: each route is on the grid.
use Rattle.std.proofs.Common.{◌<◌, arith}
use Rattle.route.specs.Route.{OnGrid, numbered}
use Rattle.route.proofs.Stored.{routes_each}
use Rattle.plan_vectors.proofs.print_routes.Goals as goal

pub print_corners-requires : goal.print_corners-requires
print_corners-requires c =
    let n = c.args.routes.now.count in
    let h : c.loop-k.k < n = omega arith in
    rw (c.steps_of.ensures, c.track.ensures) (routes_each _ _ _ (OnGrid numbered) n c.loop-k.k c.requires.on_grid h)
