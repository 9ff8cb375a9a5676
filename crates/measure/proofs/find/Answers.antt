-- `measure::find` meets its contract: a line at v would stand where as many lines as are below v stand before it.
use native.Mathlib.Omega.{arith}
use Rattle.measure.specs.Marks.{found, nowhere}
use Rattle.measure.proofs.Finding.{not_found}
use Rattle.measure.proofs.find.Goals as goal
use Rattle.measure.proofs.find.Goals.{else-k-axis-via-then-k-axis+else-axis-k, else-k-axis-via-else-k-axis}

pub returns-then-axis-k : goal.returns-then-axis-k
returns-then-axis-k c = found _ c.if-k-axis.true c.if-axis-k.true

pub returns-else-k-axis : goal.returns-else-k-axis
returns-else-k-axis c =
    let p = c.position-k in
    elim c.else-k-axis.branch [
      | else-k-axis-via-then-k-axis+else-axis-k w ↦ nowhere (λ rise. not_found _ _ _ rise p.result p.ensures.0 (λ k e. w.if-axis-k.false e))
      | else-k-axis-via-else-k-axis w ↦ nowhere (λ rise. not_found _ _ _ rise p.result p.ensures.0 (λ k. absurd (omega arith)))
    ]
