-- The two pairs are what `from_left` and `from_below` answer, and `put` stores them.
use mathlib.Core.Path.{◌∙◌}
use Rattle.table.proofs.Filling.{enter_left}
use Rattle.table.proofs.fill.vertex.Goals as goal

pub returns : goal.returns
returns c =
    let a = c.args in (
      c.put.ensures,
      c.from_left-x.ensures ∙ enter_left a.work.now a.a a.p a.last a.col a.left a.row a.cross c.requires.2,
      c.from_below-y.ensures,
    )
