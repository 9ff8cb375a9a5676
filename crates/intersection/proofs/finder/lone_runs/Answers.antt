use mathlib.Core.Path.{◌≡◌, sym, ap, ◌∙◌}
use Prim.Native.Nat.{◌+◌}
use native.Mathlib.Numerals.{add-one}
use native.Mathlib.Omega.{arith}
use borrow.Author.Tests.{lt-ltb, le-ltb}
use Rattle.network.specs.Graph.{below, degree}
use Rattle.groups.specs.Near.{is_lone}
use Rattle.intersection.specs.Sets.{pack}
use Rattle.intersection.specs.Centres.{joined_in}
use Rattle.intersection.proofs.Digits.{pack_none}
use Rattle.intersection.proofs.Members.{pack_add, pack_skip}
use Rattle.intersection.proofs.finder.lone_runs.Goals as goal
use Rattle.intersection.proofs.finder.lone_runs.Goals.{then-meets_of-lt2, else-meets_of-lt2}

pub loop-i-init : goal.loop-i-init
loop-i-init c = sym (pack_none _)

pub loop-i-preserved : goal.loop-i-preserved
unfolding is_lone
loop-i-preserved c =
    let joined = joined_in c.args.neighbours.now in
    let f = is_lone joined 32 in
    let l = c.loop-i in
    let met = degree joined (below 32) l.i in
    elim c.if-meets_of-lt2.branch as (λ _. c.if-meets_of-lt2.found ≡ pack f (l.i + 1)) [
      | then-meets_of-lt2 w ↦ w.found-is ∙ pack_add f l.i l.found w.add-found.result (omega arith) w.add-found.type_inv (lt-ltb met 2 (omega (arith, c.meets_of.ensures.0, w.if-meets_of-lt2.true))) l.invariant w.add-found.ensures ∙ ap (pack f) (sym (add-one l.i))
      | else-meets_of-lt2 w ↦ w.found-is ∙ l.invariant ∙ sym (pack_skip f l.i (le-ltb met 2 (omega (arith, c.meets_of.ensures.0, w.if-meets_of-lt2.false)))) ∙ ap (pack f) (sym (add-one l.i))
    ]

pub returns : goal.returns
returns c =
    let l = c.loop-i in
    let e : l.i ≡ c.args.n = omega arith in
    l.invariant ∙ ap (pack (is_lone (joined_in c.args.neighbours.now) 32)) e
