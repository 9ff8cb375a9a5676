use mathlib.Core.Path.{◌≡◌, sym, ap, ◌∙◌}
use Prim.Native.Nat.{◌<◌}
use native.Mathlib.Numerals.{add-one}
use native.Mathlib.Omega.{arith}
use Rattle.network.specs.Hanan.{hanan}
use Rattle.network.proofs.Meeting.{meets_self}
use Rattle.grid.specs.Runs.{runs_held}
use Rattle.intersection.specs.Centres.{meets_in, neighbour_sets}
use Rattle.intersection.proofs.Meetings.{told_meets}
use Rattle.intersection.proofs.find_neighbours.Goals as goal

pub loop-i-preserved : goal.loop-i-preserved
loop-i-preserved c =
    let l = c.loop-i in
    let x = c.args.x.now in
    let y = c.args.y.now in
    let n = c.args.n in
    let runs = runs_held x.first y.first x.second y.second n in
    let e : l.i < n = omega arith in
    c.compare_all.ensures (meets_in runs)
    (λ j h. told_meets x y n c.requires.0 _ _ c.box_sides.ensures c.box_sides-2.ensures l.i j e h)
    (meets_self (hanan runs) runs l.i) l.invariant
    ∙ ap (neighbour_sets (meets_in runs)) (sym (add-one l.i))

pub returns : goal.returns
returns c =
    let l = c.loop-i in
    let x = c.args.x.now in
    let y = c.args.y.now in
    let n = c.args.n in
    let e : l.i ≡ n = omega arith in
    (l.invariant ∙ ap (neighbour_sets (meets_in (runs_held x.first y.first x.second y.second n))) e, c.box_sides.ensures, c.box_sides-2.ensures)
