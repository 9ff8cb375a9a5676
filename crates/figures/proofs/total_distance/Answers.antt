use mathlib.Core.Path.{◌≡◌, sym, ap, ◌∙◌}
use Prim.Native.Nat.{ℕ}
use native.Mathlib.Omega.{arith}
use Rattle.network.specs.Lists.{sum}
use Rattle.network.specs.Plane.{distance}
use Rattle.grid.specs.Runs.{runs_held}
use Rattle.figures.proofs.Distances.{distances_none, distances_more}
use Rattle.figures.proofs.total_distance.Goals as goal

pub loop-i-init : goal.loop-i-init
loop-i-init c = (sym (distances_none _ _ _ _), omega arith)

pub distance_of-total-requires : goal.distance_of-total-requires
distance_of-total-requires c =
    let r = c.requires in
    let i = c.loop-i.i in
    (r.x1_in i (omega arith), r.y1_in i (omega arith), r.x2_in i (omega arith), r.y2_in i (omega arith))

pub loop-i-preserved : goal.loop-i-preserved
loop-i-preserved c =
    let x = c.args.x.now in
    let y = c.args.y.now in
    omega (arith, distances_more x.first y.first x.second y.second c.loop-i.i)

pub returns : goal.returns
returns c =
    let x = c.args.x.now in
    let y = c.args.y.now in
    let l = c.loop-i in
    let e : l.i ≡ c.args.n = omega arith in
    (l.invariant.0 ∙ ap (λ (k : ℕ). sum distance (runs_held x.first y.first x.second y.second k)) e, omega arith)
