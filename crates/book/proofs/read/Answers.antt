use mathlib.Core.Path.{sym, ap}
use native.Mathlib.Omega.{arith}
use Rattle.std.proofs.lemmas.Result.{err_from_is_err_and}
use Rattle.plan.specs.Records.{route_size}
use Rattle.book.specs.declared.Walk.{Walk}
use Rattle.book.proofs.Counts.{shape_refused}
use Rattle.book.proofs.Progress.{first_refused, else_head, so_far_none, took_route, so_far_route, route_less, near_fits, so_far_end, passes_on, run_so_far, run_route, run_end, break_refused}
use Rattle.book.proofs.read.Goals as goal

pub returns-in_default : goal.returns-in_default
returns-in_default c =
    let g = c.first_record in
    shape_refused _ _ (first_refused _ g.result (sym g.ensures) (else_head g.result c.in_default.not-Head))

pub loop-run-init : goal.loop-run-init
loop-run-init c = rw c.start-walk.ensures (so_far_none _ _ (sym c.in-Head.ensures))

pub returns-in_err-run : goal.returns-in_err-run
returns-in_err-run c =
    let p = err_from_is_err_and c.from_residual.result c.from_residual.ensures.1 in
    rw (p.1, p.2) (shape_refused _ _ (break_refused _ _ _ _ c.loop-run.invariant _ _ (sym c.in-Head.ensures) c.in_err-run.ensures))

pub overflow_cast-places : goal.overflow_cast-places
overflow_cast-places c =
    let f = run_so_far _ _ _ _ c.loop-run.invariant _ c.in_ok-run.ensures in
    record { fits = near_fits _ _ _ _ f }

pub offset_bounds-places-n : goal.offset_bounds-places-n
offset_bounds-places-n c =
    let f = run_so_far _ _ _ _ c.loop-run.invariant _ c.in_ok-run.ensures in
    record { fits = omega (arith, f.few) }

pub bounds-places-n : goal.bounds-places-n
bounds-places-n c =
    let f = run_so_far _ _ _ _ c.loop-run.invariant _ c.in_ok-run.ensures in
    omega (arith, f.few)

pub compare-requires : goal.compare-requires
compare-requires c =
    let f = run_so_far _ _ _ _ c.loop-run.invariant _ c.in_ok-run.ensures in
    so_far_end _ _ _ _ f _ _ (sym c.in-Head.ensures) (run_end _ _ _ _ c.loop-run.invariant _ c.in_ok-run.ensures _ c.in-Some.is)

pub begin-walk-requires : goal.begin-walk-requires
begin-walk-requires c =
    let f = run_so_far _ _ _ _ c.loop-run.invariant _ c.in_ok-run.ensures in
    let (q, e) = run_route _ _ _ _ c.loop-run.invariant _ c.in_ok-run.ensures c.in_default-end.is in
    (took_route _ _ _ _ f q e).room

pub overflow_add-at : goal.overflow_add-at
overflow_add-at c =
    let f = run_so_far _ _ _ _ c.loop-run.invariant _ c.in_ok-run.ensures in
    record { fits = omega (arith, near_fits _ _ _ _ f, c.route_size.ensures.2) }

pub loop-run-smaller : goal.loop-run-smaller
loop-run-smaller c =
    let r = c.in_ok-run.ensures in
    let f = run_so_far _ _ _ _ c.loop-run.invariant _ r in
    let (q, e) = run_route _ _ _ _ c.loop-run.invariant _ r c.in_default-end.is in
    omega (arith, route_less _ _ _ _ f q e, c.route_size.ensures.0, ap (λ (w : Walk). route_size w.grouped) c.begin-walk.ensures, passes_on _ _ _ _ _ r.passes)

pub loop-run-preserved : goal.loop-run-preserved
loop-run-preserved c =
    let r = c.in_ok-run.ensures in
    let f = run_so_far _ _ _ _ c.loop-run.invariant _ r in
    let (q, e) = run_route _ _ _ _ c.loop-run.invariant _ r c.in_default-end.is in
    rw (c.route_size.ensures.0, c.begin-walk.ensures) (so_far_route _ _ _ _ f q e)
