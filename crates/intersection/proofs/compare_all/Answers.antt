use mathlib.Core.Path.{◌≡◌, sym, ap, ◌∙◌}
use Prim.Native.Nat.{◌<◌}
use native.Mathlib.Numerals.{add-one}
use native.Mathlib.Omega.{arith}
use Rattle.intersection.specs.Centres.{neighbour_sets}
use Rattle.intersection.specs.Steps.{part_sets}
use Rattle.intersection.proofs.Meetings.{part_start, part_end}
use Rattle.intersection.proofs.compare_all.Goals as goal

pub loop-j-init : goal.loop-j-init
loop-j-init c = λ joined told held. held ∙ part_start joined _ c.requires

pub loop-j-preserved : goal.loop-j-preserved
loop-j-preserved c =
    let l = c.loop-j in
    let e : l.j < c.args.i = omega arith in
    λ joined told held. c.compare.ensures joined (told l.j e) (l.invariant joined told held) ∙ ap (part_sets joined c.args.i) (sym (add-one l.j))

pub returns : goal.returns
returns c joined told none held =
    let l = c.loop-j in
    let e : l.j ≡ c.args.i = omega arith in
    l.invariant joined told held ∙ ap (part_sets joined c.args.i) e ∙ part_end joined c.args.i c.requires none ∙ ap (neighbour_sets joined) (add-one c.args.i)
