-- Each return is a test that fails, and the last decides where the others hold.
use mathlib.Core.Path.{sym, ◌∙◌}
use Rattle.planner.proofs.Held.{held_few}
use Rattle.judge.proofs.Judging.{older_fails, figures_fail, groups_fail, measured_decides}
use Rattle.judge.proofs.is_true.Goals as goal

pub returns-then-not-reading : goal.returns-then-not-reading
returns-then-not-reading c = λ es R. older_fails c.args.known.now c.requires.0 c.args.reading.now.head es c.if-not-reading.true

pub are_those-requires : goal.are_those-requires
are_those-requires c = (held_few c.args.known.now.job c.requires.0.held, c.requires.2, c.if-not-reading.false, c.requires.1)

pub returns-then-not-are_those : goal.returns-then-not-are_those
returns-then-not-are_those c =
    λ es R. figures_fail c.args.known.now c.requires.0 c.args.reading.now.head es (sym (c.if-not-are_those.true) ∙ c.are_those.ensures es R)

pub returns-then-wide-known : goal.returns-then-wide-known
returns-then-wide-known c =
    λ es R. groups_fail c.args.known.now c.requires.0 c.args.reading.now.head es (λ z. c.if-wide-known.true (c.wide.ensures.0 ∙ z))

pub are_measured-requires : goal.are_measured-requires
are_measured-requires c = (c.requires.0, c.requires.2, c.if-not-reading.false, c.requires.1)

pub returns : goal.returns
returns c =
    λ es R.
    c.are_measured.ensures es R
    ∙ measured_decides c.args.known.now c.requires.0 c.args.reading.now.head es c.if-not-reading.false
    (sym (c.if-not-are_those.false) ∙ c.are_those.ensures es R) (sym c.wide.ensures.0 ∙ c.if-wide-known.false)
