-- Both comparisons of words, put together.
use mathlib.Core.Path.{ap₂, ◌∙◌}
use mathlib.Core.Bool.{◌||◌}
use Rattle.intersection.proofs.Finding.{local_is}
use Rattle.intersection.proofs.finder.is_local.Goals as goal

pub returns : goal.returns
returns c =
    let a = c.args in
    let p = c.requires in
    ap₂ ◌||◌ c.member.ensures c.subset.ensures ∙ local_is a.neighbours.now a.n a.i a.lone p.1 p.2 p.3
