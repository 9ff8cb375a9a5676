-- The invariant: the numbers that were compared agree, whatever the book was read as.
use mathlib.Core.Path.{◌≡◌}
use mathlib.Core.Bool.{true}
use mathlib.Core.List.{List}
use lib.Dec.{eqb}
use lib.ListN.{get_or}
use Rattle.network.specs.Lists.{every}
use Rattle.network.specs.Graph.{below}
use Rattle.plan.specs.Plan.{Entry}
use Rattle.judge.specs.Judged.{entry_at}
use Rattle.judge.specs.Steps.{ReadAs}
use Rattle.judge.proofs.compared.is_of.Given as goal

abbrev pub invariant-loop-i : goal.invariant-loop-i
invariant-loop-i l =
    (es : List Entry) → ReadAs l.book l.reading es → every (λ k. eqb (entry_at es k).number (get_or l.job.numbers k 0)) (below l.i) ≡ true
