-- `plan_vectors::all_on_grid` meets its contract: each round finds one route more on the grid.
use Rattle.route.specs.Stored.{routes_in}
use Rattle.plan_vectors.proofs.Counts.{routes_more}
use Rattle.plan_vectors.proofs.all_on_grid.Goals as goal

pub loop-k-init : goal.loop-k-init
unfolding routes_in
loop-k-init c = tt

pub loop-k-preserved : goal.loop-k-preserved
loop-k-preserved c =
    let e = c.on_grid.ensures c.if-not-on_grid.false in
    routes_more _ _ _ c.loop-k.k c.loop-k.invariant (rw (c.steps_of.ensures, c.track.ensures) at e)
