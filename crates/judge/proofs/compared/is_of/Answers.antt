use mathlib.Core.Path.{◌≡◌, refl, sym, ap, ◌∙◌, subst}
use mathlib.Core.Bool.{true, ◌&&◌}
use native.Mathlib.Omega.{arith}
use borrow.Author.Tests.{eq-eqb, ne_eqb}
use lib.Dec.{eqb}
use lib.ListN.{get_or}
use Rattle.network.specs.Lists.{every}
use Rattle.network.specs.Graph.{below}
use Rattle.intersection.proofs.Finding.{every_on, every_off}
use Rattle.judge.specs.Judged.{entry_at}
use Rattle.judge.proofs.Agreeing.{second_off, third_off, all_three, of_arrays, number_room, number_says}
use Rattle.judge.proofs.compared.is_of.Goals as goal
use Rattle.judge.proofs.compared.is_of.Goals.{then-reading-job-via-then-reading-job, then-reading-job-via-else-reading-job+then-wide-job}

pub returns-then-reading-job : goal.returns-then-reading-job
returns-then-reading-job c = λ es R.
    let a = c.args in
    let n = a.job.now in
    elim c.then-reading-job.branch [
      | then-reading-job-via-then-reading-job w ↦
          ap (λ b. b && (eqb a.reading.now.head.runs n.count && every (λ k. eqb (entry_at es k).number (get_or n.numbers k 0)) (below n.count))) (sym (ne_eqb _ _ w.if-reading-job.true))
          ∙ sym (of_arrays n c.requires.0 a.reading.now.head es)
      | then-reading-job-via-else-reading-job+then-wide-job w ↦
          second_off (eqb a.reading.now.head.job n.number) _ _ (sym (ne_eqb _ _ (λ z. w.if-wide-job.true (w.wide.ensures.0 ∙ z))))
          ∙ sym (of_arrays n c.requires.0 a.reading.now.head es)
    ]

pub loop-i-init : goal.loop-i-init
loop-i-init c = λ es R. refl

pub le16-requires : goal.le16-requires
le16-requires c =
    let f : c.args.reading.now.head.runs ≡ c.args.job.now.count = sym c.wide.ensures.0 ∙ c.if-wide-job.false in
    omega (
      arith,
      number_room c.args.book.now c.args.reading.now c.requires.1.0 c.requires.1.1 c.args.job.now.count f _ c.loop-i-test.true,
      c.wide-at.ensures.0,
    )

pub returns-then-le16-job : goal.returns-then-le16-job
returns-then-le16-job c =
    let a = c.args in
    let f : c.args.reading.now.head.runs ≡ c.args.job.now.count = sym c.wide.ensures.0 ∙ c.if-wide-job.false in
    let l = c.loop-i-test.true in
    λ es R.
    let r = number_says a.book.now a.reading.now es R a.job.now.count f _ l _ _ c.wide-at.ensures.0 c.le16.ensures in
    third_off (eqb a.reading.now.head.job a.job.now.number) (eqb a.reading.now.head.runs a.job.now.count) _
    (every_off (λ k. eqb (entry_at es k).number (get_or a.job.now.numbers k 0)) _ _ l (ne_eqb _ _ (λ z. c.if-le16-job.true (r ∙ z))))
    ∙ sym (of_arrays a.job.now c.requires.0 a.reading.now.head es)

pub loop-i-preserved : goal.loop-i-preserved
loop-i-preserved c =
    let f : c.args.reading.now.head.runs ≡ c.args.job.now.count = sym c.wide.ensures.0 ∙ c.if-wide-job.false in
    let a = c.args in
    let l = c.loop-i-test.true in
    λ es R.
    let r = number_says a.book.now a.reading.now es R a.job.now.count f _ l _ _ c.wide-at.ensures.0 c.le16.ensures in
    every_on (λ k. eqb (entry_at es k).number (get_or a.job.now.numbers k 0)) _ (eq-eqb _ _ (sym r ∙ c.if-le16-job.false)) (c.loop-i.invariant es R)

pub returns : goal.returns
returns c =
    let a = c.args in
    let f : c.args.reading.now.head.runs ≡ c.args.job.now.count = sym c.wide.ensures.0 ∙ c.if-wide-job.false in
    λ es R.
    let all = c.loop-i.invariant es R in
    let e : c.loop-i.i ≡ c.args.job.now.count = omega arith in
    all_three (eqb a.reading.now.head.job a.job.now.number) (eqb a.reading.now.head.runs a.job.now.count) _ (eq-eqb _ _ c.if-reading-job.false) (eq-eqb _ _ f)
    (subst (λ n. every (λ k. eqb (entry_at es k).number (get_or a.job.now.numbers k 0)) (below n) ≡ true) e all)
    ∙ sym (of_arrays a.job.now c.requires.0 a.reading.now.head es)
