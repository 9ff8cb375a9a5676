-- `plan::write_run` meets its contract: the corners stand behind the route record.
use mathlib.Core.Path.{◌≡◌, sym, ◌∙◌}
use mathlib.Core.Bool.{true}
use mathlib.Core.List.{map, flat_map}
use native.Mathlib.Omega.{arith}
use lib.ListN.{length, get_or, length-map}
use Rattle.route.specs.Route.{corners_of, placed}
use Rattle.route.specs.Stored.{route_of}
use Rattle.route.proofs.Corners.{corners_few}
use Rattle.plan.specs.Records.{route_record, corner_record}
use Rattle.fields.proofs.Over.{wrote_next}
use Rattle.plan.proofs.write_run.Goals as goal

pub overflow_cast-corners : goal.overflow_cast-corners
overflow_cast-corners c = omega (arith, corners_few _ c.requires.2)

pub write_corners-requires : goal.write_corners-requires
write_corners-requires c = rw (c.steps_of.ensures, c.track.ensures) (c.requires.2, omega (arith, c.write_route-at.ensures.size))

pub returns : goal.returns
returns c =
    let k = c.write_corners in
    let h = c.write_route-at in
    let a = c.args in
    let f = a.figures.now in
    let r = route_of a.routes.now a.k in
    let l = map (placed a.columns.now a.rows.now) (corners_of r) in
    let e : get_or f.corners.now a.k 0 ≡ length l = c.requires.3 ∙ sym (length-map (corners_of r) (placed a.columns.now a.rows.now)) in
    let w = rw e at h.ensures in
    let p = rw (c.steps_of.ensures, c.track.ensures) at k.ensures in (
      wrote_next (route_record true (get_or f.numbers.now a.k 0) (get_or f.meets.now a.k 0) (length l) (get_or f.centres.now a.k 0)) (flat_map corner_record l)
          a.out.now h.new.out k.new.out h.result k.result w.size w.bytes p.0,
      omega (arith, p.1, h.ensures.size),
    )
