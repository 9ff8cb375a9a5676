-- What a forecast tells fits the code's word.
use mathlib.Core.Path.{sym, ◌∙◌}
use native.Mathlib.Omega.{arith}
use Rattle.planner.proofs.Room.{needs_most}
use Rattle.trench.proofs.Codes.{short_mapped}
use Rattle.trench.proofs.trench_words.Goals as goal

pub answer_code-requires : goal.answer_code-requires
answer_code-requires c =
    short_mapped c.forecast.result c.map.result c.map.ensures.cases
    (λ needs n e q. omega (arith, q, needs_most c.args.job.now needs (λ i. (c.type_inv.job i).fits) (sym c.forecast.ensures ∙ e)))
