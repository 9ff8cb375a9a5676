use mathlib.Core.Path.{◌≡◌, refl, ◌∙◌}
use mathlib.Core.List.{map}
use Prim.Native.Nat.{◌/◌}
use native.Mathlib.Nat.{div-mul-le_self}
use native.Mathlib.Numerals.{add-one}
use native.Mathlib.Omega.{arith}
use lib.ListN.{length, length-set}
use lib.Seq.{take-suc-set}
use Rattle.route.specs.Route.{OnGrid, numbered, indexed, corners_of, corner_count}
use Rattle.route.specs.Stored.{tracks_in, routes_in, routes_of}
use Rattle.route.proofs.Stored.{route_in, routes_each, routes_from, routes_more}
use Rattle.route.proofs.Corners.{routes_vertices}
use Rattle.route.proofs.Marks.{counted_none, counted_more, counted_all}
use Rattle.route.proofs.mark_routes.Goals as goal

pub loop-k-init : goal.loop-k-init
unfolding routes_in
loop-k-init c =
    (omega arith, c.requires.3, omega arith, refl, counted_none _ _ _)

pub steps_of-requires : goal.steps_of-requires
steps_of-requires c =
    routes_from _ _ _ c.args.routes.now.count c.loop-k.k c.requires.0 c.loop-k-test.true

pub mark_route-seen-requires : goal.mark_route-seen-requires
mark_route-seen-requires c =
    let l = c.loop-k in
    let n = c.args.routes.now.count in
    let h = c.loop-k-test.true in
    rw (c.steps_of.ensures, c.track.ensures, l.invariant.0)
    (routes_each _ _ _ (OnGrid numbered) n l.k c.requires.0.on_grid h, routes_each _ _ _ (OnGrid (indexed _ _)) n l.k c.requires.1 h)

pub loop-k-preserved : goal.loop-k-preserved
loop-k-preserved c =
    let m = c.mark_route-seen in
    let l = c.loop-k in
    let r = c.args.routes.now in
    let e = rw (c.steps_of.ensures, c.track.ensures, l.invariant.0) at m.ensures in (
      omega arith,
      simp length-set (omega arith),
      omega arith,
      rw (routes_more _ _ _ corner_count l.k, add-one l.k) (take-suc-set l.corners l.k m.result.corners (omega arith) ∙ rw (l.invariant.3, e.2)),
      rw (routes_more _ _ _ corners_of l.k)
          (counted_more _ _ (map corners_of (routes_in r.steps.now r.stride (tracks_in r) l.k)) (corners_of (route_in r.steps.now r.stride (tracks_in r) l.k))
          _ _ _ _ _ l.invariant.4 e.0),
    )

pub returns : goal.returns
returns c =
    let l = c.loop-k in
    let a = c.args in
    let rs = routes_of a.routes.now in
    let height = length a.marks.now / a.width in
    let e : l.k ≡ a.routes.now.count = omega arith in (
      counted_all a.width height a.marks.now c.requires.2 (div-mul-le_self _ _) l.marks (map corners_of rs) l.pits
          (routes_vertices a.width height rs c.requires.0.on_grid c.requires.1) (rw e at l.invariant.4),
      omega arith,
      l.invariant.1,
      rw e at l.invariant.3,
    )
