-- `records::centre_in` meets its contract: the field of the newer kind, or 0.
use mathlib.Core.Path.{sym, ap, ◌∙◌}
use mathlib.Core.Bool.{cond}
use native.Mathlib.Omega.{arith}
use Rattle.job.specs.Fields.{word2}
use Rattle.records.proofs.centre_in.Goals as goal

pub le16-requires : goal.le16-requires
le16-requires c = omega (arith, c.requires c.if-grouped.true)

pub returns-then-grouped : goal.returns-then-grouped
returns-then-grouped c = c.le16.ensures ∙ sym (ap (λ b. cond b (word2 c.args.body.now 6) 0) c.if-grouped.true)

pub returns : goal.returns
returns c = sym (ap (λ b. cond b (word2 c.args.body.now 6) 0) c.if-grouped.false)
