use mathlib.Core.Path.{◌≡◌}
use Prim.Native.Nat.{ℕ, ◌+◌, ◌^◌, ◌≤◌, ◌<◌}
use native.Mathlib.Omega.{arith}
use lib.ListN.{length}
use Rattle.route.specs.declared.Routes.{Routes}
use Rattle.route.specs.Route.{Route, OnGrid, numbered, corner_count}
use Rattle.route.specs.Stored.{tracks_in, route_of, routes_of}
use Rattle.route.proofs.Stored.{routes_length, routes_at, routes_each, routes_from, counts_at}
use Rattle.route.proofs.Corners.{corners_few}
use Rattle.plan.proofs.Runs.{running_all, run_fits, running_next, running_end}
use Rattle.plan.proofs.write_runs.Goals as goal

-- a route's corners are few
few : (k : ℕ) (r : Route) → OnGrid numbered r → k ≡ corner_count r → k ≤ 127
few k r on counted = omega (arith, counted, corners_few r on)

-- a sum of two numbers that are few
fits_sum : (a k : ℕ) → a ≤ 4064 → k ≤ 127 → a + k < 2 ^ 64
fits_sum a k h l = omega arith

-- as many routes as are counted
count_of : (r : Routes) → length (routes_of r) ≡ r.count
count_of r = routes_length r.steps.now r.stride (tracks_in r) r.count

pub loop-k-init : goal.loop-k-init
loop-k-init c =
    let a = c.args in
    running_all _ _ _ _ _ (routes_of a.routes.now) a.out.now (omega (arith, c.requires.0.few, count_of a.routes.now)) c.requires.0.on_grid c.requires.2

pub write_run-at-requires : goal.write_run-at-requires
write_run-at-requires c =
    let l = c.loop-k in
    let a = c.args in
    let r = a.routes.now in
    let h = c.loop-k-test.true in
    let counted = counts_at _ _ _ a.figures.now.corners.now r.count l.k c.requires.1 h in
    let n = count_of r in (
      omega (arith, c.requires.0.few),
      routes_from _ _ _ r.count l.k c.requires.0 h,
      routes_each _ _ _ (OnGrid numbered) r.count l.k c.requires.0.on_grid h,
      counted,
      run_fits _ _ _ _ _ _ _ _ _ _ _ l.invariant (omega arith) (route_of r 0) _ (routes_at _ _ _ r.count l.k _ h) _ counted,
    )

pub overflow_add-all : goal.overflow_add-all
overflow_add-all c =
    let l = c.loop-k in
    let r = c.args.routes.now in
    let h = c.loop-k-test.true in
    let f : l.all ≤ 4064 = omega (arith, l.invariant.total, l.invariant.few) in
    let on = routes_each _ _ _ (OnGrid numbered) r.count l.k c.requires.0.on_grid h in
    record { fits = fits_sum _ _ f (few _ _ on (counts_at _ _ _ c.args.figures.now.corners.now r.count l.k c.requires.1 h)) }

pub loop-k-preserved : goal.loop-k-preserved
loop-k-preserved c =
    let w = c.write_run-at in
    let l = c.loop-k in
    let a = c.args in
    let r = a.routes.now in
    let h = c.loop-k-test.true in
    let n = count_of r in
    running_next _ _ _ _ _ _ _ _ _ _ _ l.invariant (omega arith) (route_of r 0) _ (routes_at _ _ _ r.count l.k _ h) w.new.out w.result _ w.ensures.0
    (counts_at _ _ _ a.figures.now.corners.now r.count l.k c.requires.1 h)

pub returns : goal.returns
returns c =
    let n = count_of c.args.routes.now in
    running_end _ _ _ _ _ _ _ _ _ _ _ c.loop-k.invariant (omega arith)
