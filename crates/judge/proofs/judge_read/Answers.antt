-- Each return is a case of the judgement.
use mathlib.Core.Path.{sym, ◌∙◌}
use Rattle.planner.specs.Held.{runs_in}
use Rattle.planner.proofs.Held.{length_held}
use Rattle.judge.proofs.TrueIff.{of_true}
use Rattle.judge.proofs.Judging.{of_another, not-true as untrue, passes_both}
use Rattle.judge.proofs.judge_read.Goals as goal

pub returns-then-not-is_of : goal.returns-then-not-is_of
returns-then-not-is_of c =
    let a = c.args in
    λ es R. of_another a.known.now.job.number (runs_in a.known.now.job) a.place a.reading.now.head es (sym (c.if-not-is_of.true) ∙ c.is_of.ensures es R)

pub is_true-requires : goal.is_true-requires
is_true-requires c =
    let a = c.args in
    let (es, R) = c.requires.1 in
    let o = of_true a.known.now.job.number (runs_in a.known.now.job) a.reading.now.head es (sym (c.is_of.ensures es R) ∙ c.if-not-is_of.false) in
    (c.requires.0, (es, R), o.runs_are ∙ length_held a.known.now.job)

pub returns-then-not-is_true : goal.returns-then-not-is_true
returns-then-not-is_true c =
    let a = c.args in
    λ es R.
    untrue a.known.now.job.number (runs_in a.known.now.job) a.place a.reading.now.head es (sym (c.if-not-is_of.false) ∙ c.is_of.ensures es R)
    (sym (c.if-not-is_true.true) ∙ c.is_true.ensures es R)

pub returns : goal.returns
returns c =
    let a = c.args in
    λ es R.
    passes_both a.known.now.job.number (runs_in a.known.now.job) a.place a.reading.now.head es (sym (c.if-not-is_of.false) ∙ c.is_of.ensures es R)
    (sym (c.if-not-is_true.false) ∙ c.is_true.ensures es R)
