-- `trench::trench_read` meets its contract: the head of an accepted book says its number of routes.
use mathlib.Core.Path.{sym, ◌∙◌}
use native.Mathlib.Omega.{arith}
use mir.Syntax.{w32}
use mir.ValLaws.{to_z-of_z}
use Rattle.book.specs.Parse.{parse_plan}
use Rattle.book.proofs.Accepted.{accepted_routes, reading_accepted}
use Rattle.trench.proofs.Codes.{short_mapped, said_read}
use Rattle.trench.proofs.trench_read.Goals as goal

pub answer_code-requires : goal.answer_code-requires
answer_code-requires c =
    short_mapped c.read.result c.map.result c.map.ensures.cases
    (λ reading n e q.
    let (es, p, placed) = reading_accepted (parse_plan c.args.book.now) reading (sym e ∙ c.read.ensures) in
    omega (arith, q, accepted_routes c.args.book.now reading.head es p))

pub returns : goal.returns
returns c =
    to_z-of_z w32 c.answer_code.result (record { sfits = c.answer_code.type_inv }) ∙ c.answer_code.ensures
    ∙ said_read c.args.book.now c.read.result c.map.result c.read.ensures c.map.ensures.cases (λ reading n q. omega (arith, q))
