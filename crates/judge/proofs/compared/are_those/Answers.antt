use mathlib.Core.Path.{◌≡◌, refl, sym, ap, ◌∙◌, subst}
use mathlib.Core.Bool.{true, ◌&&◌, and-false}
use native.Mathlib.Omega.{arith}
use borrow.Author.Tests.{eq-eqb, ne_eqb}
use lib.Dec.{eqb}
use lib.ListN.{get_or}
use Rattle.network.specs.Lists.{every}
use Rattle.network.specs.Graph.{below}
use Rattle.intersection.proofs.Finding.{every_on, every_off}
use Rattle.network.proofs.Tests.{and_join}
use Rattle.judge.specs.Judged.{entry_at}
use Rattle.judge.proofs.Agreeing.{meets_says, centre_room, centre_says}
use Rattle.judge.proofs.compared.are_those.Goals as goal
use Rattle.judge.proofs.compared.are_those.Goals.{then-le16-known-via-then-le16-known, then-le16-known-via-else-le16-known+then-le16-known-2}

pub loop-i-init : goal.loop-i-init
loop-i-init c = λ es R. refl

pub le16-requires : goal.le16-requires
le16-requires c =
    let (es, R) = c.requires.3 in
    omega (arith, centre_room c.args.book.now c.args.reading.now es R c.args.known.now.job.count c.requires.1 _ c.loop-i-test.true c.requires.2, c.wide-at.ensures.0)

pub le16-requires-else-le16-known : goal.le16-requires-else-le16-known
le16-requires-else-le16-known c =
    let (es, R) = c.requires.3 in
    omega (arith, centre_room c.args.book.now c.args.reading.now es R c.args.known.now.job.count c.requires.1 _ c.loop-i-test.true c.requires.2, c.wide-at.ensures.0)

pub returns-then-le16-known : goal.returns-then-le16-known
returns-then-le16-known c = λ es R.
    let a = c.args in
    let i = c.loop-i.i in
    let l = c.loop-i-test.true in
    let at = c.wide-at.ensures.0 in
    every_off (λ k. eqb (entry_at es k).meets (get_or a.known.now.meets k 0) && eqb (entry_at es k).centre (get_or a.known.now.centres k 0)) _ _ l
    (elim c.then-le16-known.branch [
      | then-le16-known-via-then-le16-known w ↦
          let m = meets_says a.book.now a.reading.now es R a.known.now.job.count c.requires.1 _ l _ _ at c.le16.ensures in
          ap (λ b. b && eqb (entry_at es i).centre (get_or a.known.now.centres i 0)) (ne_eqb _ _ (λ q. w.if-le16-known.true (m ∙ q)))
      | then-le16-known-via-else-le16-known+then-le16-known-2 w ↦
          let z = centre_says a.book.now a.reading.now es R a.known.now.job.count c.requires.1 _ l c.requires.2 _ _ at w.le16-else-le16-known.ensures in
          ap (λ b. eqb (entry_at es i).meets (get_or a.known.now.meets i 0) && b) (ne_eqb _ _ (λ q. w.if-le16-known-2.true (z ∙ q))) ∙ and-false _
    ])

pub loop-i-preserved : goal.loop-i-preserved
loop-i-preserved c =
    let a = c.args in
    let l = c.loop-i-test.true in
    let at = c.wide-at.ensures.0 in
    λ es R.
    let m = meets_says a.book.now a.reading.now es R a.known.now.job.count c.requires.1 _ l _ _ at c.le16.ensures in
    let z = centre_says a.book.now a.reading.now es R a.known.now.job.count c.requires.1 _ l c.requires.2 _ _ at c.le16-else-le16-known.ensures in
    every_on (λ k. eqb (entry_at es k).meets (get_or a.known.now.meets k 0) && eqb (entry_at es k).centre (get_or a.known.now.centres k 0)) _
    (and_join _ _ (eq-eqb _ _ (sym m ∙ c.if-le16-known.false)) (eq-eqb _ _ (sym z ∙ c.if-le16-known-2.false))) (c.loop-i.invariant es R)

pub returns : goal.returns
returns c =
    let a = c.args in
    λ es R.
    let all = c.loop-i.invariant es R in
    let i : c.loop-i.i ≡ c.args.known.now.job.count = omega arith in
    sym (subst (λ n. every (λ k. eqb (entry_at es k).meets (get_or a.known.now.meets k 0) && eqb (entry_at es k).centre (get_or a.known.now.centres k 0)) (below n) ≡ true) i all)
