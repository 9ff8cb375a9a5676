-- Before each round, the steps along the row among those passed are counted.
use Rattle.std.proofs.Common.{◌≡◌, ◌≤◌, take}
use Rattle.network.specs.Steps.{hor, steps}
use Rattle.route.specs.Route.{route_by, steps_of}
use Rattle.plan_vectors.proofs.on_grid.Given as goal

abbrev pub invariant-loop-step : goal.invariant-loop-step
invariant-loop-step l = (l.across ≤ l.step-index) × (l.across ≡ steps hor (take l.step-index (steps_of (route_by l.steps l.track))))
