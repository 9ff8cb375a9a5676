-- `plan_vectors::on_grid` meets its contract: each round counts one step more, and the counts say that the route stays on the grid.
use Rattle.std.proofs.Common.{◌≡◌, ◌≤◌, ◌<◌, length, arith, refl, sym, ◌∙◌}
use lib.Seq.{get_or-take, length-take-le}
use Rattle.network.specs.Steps.{steps}
use Rattle.network.proofs.Tests.{and_split}
use Rattle.route.specs.Route.{route_by}
use Rattle.plan_vectors.proofs.Counts.{across_more, across_same, on_grid}
use Rattle.plan_vectors.proofs.on_grid.Goals as goal
use Rattle.plan_vectors.proofs.on_grid.Goals.{then-step-eq0, else-step-eq0}

pub loop-step-init : goal.loop-step-init
unfolding steps
loop-step-init c = (omega arith, refl)

pub loop-step-preserved : goal.loop-step-preserved
loop-step-preserved c =
    let r = route_by c.args.steps.now c.args.track in
    let i = c.loop-step.step-index in
    let held : r.count ≤ length r.steps = omega arith in
    let n = length-take-le r.count r.steps held in
    let h : i < r.count = omega arith in
    let e = get_or-take r.count r.steps i 0 h in
    elim c.if-step-eq0.branch [
      | then-step-eq0 w ↦ (omega arith, omega (arith, across_more r held i h (sym e ∙ w.if-step-eq0.true)))
      | else-step-eq0 w ↦ (omega arith, omega (arith, across_same r held i h (λ z. w.if-step-eq0.false (e ∙ z))))
    ]

pub returns : goal.returns
returns c t =
    let r = route_by c.args.steps.now c.args.track in
    let held : r.count ≤ length r.steps = omega arith in
    let m = length-take-le r.count r.steps held in
    let n : c.loop-step.step-index ≡ r.count = omega arith in
    let b = and_split c.fits.result c.fits-2.result t in
    on_grid r held c.loop-step.across (rw n at c.loop-step.invariant.1) (c.fits.ensures b.0) (c.fits-2.ensures b.1)
