-- `book::steps::corner_step` meets its contract: the tests on the way to each return.
use mathlib.Core.Path.{sym, ◌∙◌}
use Rattle.book.specs.Parse.{corner_step}
use Rattle.book.proofs.steps.corner_step.Goals as goal

pub returns-then-w : goal.returns-then-w
unfolding corner_step
returns-then-w c = simp c.if-w.true

pub returns-then-not-in_range : goal.returns-then-not-in_range
unfolding corner_step
returns-then-not-in_range c = simp (c.if-w.false, sym c.in_range.ensures ∙ c.if-not-in_range.true)

pub returns-then-no_turn : goal.returns-then-no_turn
unfolding corner_step
returns-then-no_turn c =
    simp
    (c.if-w.false, sym c.in_range.ensures ∙ c.if-not-in_range.false, sym c.no_turn.ensures ∙ c.if-no_turn.true)

pub returns : goal.returns
unfolding corner_step
returns c =
    simp
    (c.if-w.false, sym c.in_range.ensures ∙ c.if-not-in_range.false, sym c.no_turn.ensures ∙ c.if-no_turn.false)
