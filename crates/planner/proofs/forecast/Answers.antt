-- What the reading accepts is counted.
use mathlib.Core.Path.{sym, ap, ◌∙◌}
use Rattle.std.specs.Prelude.{Ok}
use Rattle.planner.specs.Verdict.{foretold_by}
use Rattle.planner.proofs.Held.{into_held, held_few}
use Rattle.planner.proofs.forecast.Goals as goal

pub needs_of-requires : goal.needs_of-requires
needs_of-requires c = held_few _ (into_held _ _ _ (λ i. (c.type_inv.job i).fits) c.read_into.ensures c.in_ok-read_into.was).0

pub returns : goal.returns
returns c =
    let (h, e) = into_held _ _ _ (λ i. (c.type_inv.job i).fits) c.read_into.ensures c.in_ok-read_into.was in
    ap Ok c.needs_of.ensures ∙ ap foretold_by (sym e)
