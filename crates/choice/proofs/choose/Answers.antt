-- By the case of the choice the book is one of the two as lent, or the first one cut to no byte.
use mathlib.Core.Path.{refl, sym, ap, ◌∙◌}
use Rattle.std.specs.Prelude.{Ok}
use Rattle.choice.specs.Choice.{Handed}
use Rattle.choice.proofs.choose.Goals as goal

pub returns-in-Ok-First : goal.returns-in-Ok-First
unfolding Handed
returns-in-Ok-First c = rw (sym c.which.ensures ∙ c.in-Ok-First.is ∙ ap Ok c.in-Ok-First.field-0-is) refl

pub returns-in-Ok-Second : goal.returns-in-Ok-Second
unfolding Handed
returns-in-Ok-Second c = rw (sym c.which.ensures ∙ c.in-Ok-Second.is ∙ ap Ok c.in-Ok-Second.field-0-is) refl

pub returns-in-Err : goal.returns-in-Err
unfolding Handed
returns-in-Err c = rw (sym c.which.ensures ∙ c.in-Err.is) (refl, refl)
