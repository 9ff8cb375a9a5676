-- By the same cases as the definition.
use mathlib.Core.Path.{sym, ◌∙◌}
use Rattle.table.specs.Walk.{before_of}
use Rattle.table.proofs.trace.edge_before.Goals as goal

pub returns-then-begins : goal.returns-then-begins
unfolding before_of
returns-then-begins c =
    rw (c.if-t.true, sym c.begins.ensures ∙ c.if-begins.true, ← c.unless_own-j.ensures.0, ← c.unless_own-i.ensures.0) c.choose.ensures

pub returns-then-t : goal.returns-then-t
unfolding before_of
returns-then-t c = rw (c.if-t.true, sym c.begins.ensures ∙ c.if-begins.false)

pub returns : goal.returns
unfolding before_of
returns c = rw c.if-t.false c.choose-2.ensures
