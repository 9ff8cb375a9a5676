use mathlib.Core.Path.{◌≡◌, ap, ◌∙◌}
use native.Mathlib.Omega.{arith}
use lib.Dec.{eqb}
use lib.ListN.{length, get_or}
use Rattle.grid.proofs.Places.{byte_is, byte_le}
use Rattle.groups.specs.Groups.{heads}
use Rattle.groups.proofs.Parts.{heads_none, heads_more}
use Rattle.intersection.proofs.finder.count_groups.Goals as goal

pub loop-i-init : goal.loop-i-init
loop-i-init c = (heads_none _, omega arith)

pub loop-i-preserved : goal.loop-i-preserved
loop-i-preserved c =
    let l = c.loop-i in
    (heads_more (λ k. get_or c.args.centres.now k 0) l.i l.groups _ l.invariant.0 (c.from-groups.ensures ∙ byte_is _), omega (arith, c.from-groups.ensures, byte_le (eqb (get_or c.args.centres.now l.i 0) l.i)))

pub returns : goal.returns
returns c =
    let l = c.loop-i in
    let e : l.i ≡ c.args.n = omega arith in
    (l.invariant.0 ∙ ap (λ n. length (heads (λ k. get_or c.args.centres.now k 0) n)) e, omega arith)
