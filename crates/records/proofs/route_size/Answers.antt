-- `records::route_size` meets its contract: by the case of `route_size`.
use mathlib.Core.Path.{sym, ap}
use native.Mathlib.Omega.{arith}
use Rattle.plan.specs.Records.{route_size}
use Rattle.records.proofs.route_size.Goals as goal

pub returns-then-grouped : goal.returns-then-grouped
unfolding route_size
returns-then-grouped c = (sym (ap route_size c.if-grouped.true), omega arith, omega arith)

pub returns : goal.returns
unfolding route_size
returns c = (sym (ap route_size c.if-grouped.false), omega arith, omega arith)
