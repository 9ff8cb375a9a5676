-- The numbers of the lines are those of the definition.
use mathlib.Core.Path.{◌∙◌}
use Prim.Native.Nat.{◌+◌}
use Rattle.layout.specs.Points.{goes_back}
use Rattle.layout.specs.Way.{way_of}
use Rattle.layout.proofs.way_of.Goals as goal

pub returns : goal.returns
unfolding goes_back
returns c =
    let s = c.args in
    c.way_by.ensures ∙ λ i. way_of (c.number-p.ensures.0 i) (c.number-q.ensures.0 i) (c.number.ensures.0 i + s.passed) s.n
