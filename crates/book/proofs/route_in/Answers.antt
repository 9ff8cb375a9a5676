-- `book::route_in` meets its contract: by the places, and by the record that stands there.
use mathlib.Core.Path.{sym, ap, ◌∙◌}
use Prim.Native.Nat.{ℕ, ◌+◌}
use native.Mathlib.Omega.{arith}
use lib.ListN.{drop, get_or-eq_default}
use Rattle.records.specs.Records.{record_of}
use Rattle.book.specs.Reading.{as_route}
use Rattle.book.proofs.ByPlaces.{else_route, no_route, some_route, past_route}
use Rattle.book.proofs.route_in.Goals as goal

pub returns-in_err-at : goal.returns-in_err-at
returns-in_err-at c =
    let a = c.args in
    c.from_residual.ensures ∙ past_route a.book.now a.places.now a.i c.in_err-at.ensures.lookup.3

pub returns-in_err-next : goal.returns-in_err-next
returns-in_err-next c =
    let a = c.args in
    let behind = get_or-eq_default a.places.now 0 {n = a.i + 1} c.in_err-next.ensures.lookup.3 in
    c.from_residual-in_err-next.ensures ∙ no_route a.book.now a.places.now a.i (omega (arith, behind))

pub returns-then-at-next : goal.returns-then-at-next
returns-then-at-next c =
    let a = c.args in
    no_route a.book.now a.places.now a.i (omega (arith, c.if-at-next.true, c.in_ok-at.ensures.lookup.3.1 0, c.in_ok-next.ensures.lookup.3.1 0))

pub returns-in_default : goal.returns-in_default
returns-in_default c =
    let a = c.args in
    let g = c.record_at in
    let at = c.in_ok-at.ensures.lookup.3.1 0 in
    else_route g.result c.in_default.not-Route ∙ ap as_route (g.ensures ∙ ap (λ (k : ℕ). record_of (drop k a.book.now)) (c.wide.ensures.0 ∙ at))
    ∙ some_route a.book.now a.places.now a.i (omega (arith, c.if-at-next.false, at, c.in_ok-next.ensures.lookup.3.1 0))

pub returns : goal.returns
returns c =
    let a = c.args in
    let at = c.in_ok-at.ensures.lookup.3.1 0 in
    ap as_route (sym c.in-Route.is ∙ c.record_at.ensures ∙ ap (λ (k : ℕ). record_of (drop k a.book.now)) (c.wide.ensures.0 ∙ at))
    ∙ some_route a.book.now a.places.now a.i (omega (arith, c.if-at-next.false, at, c.in_ok-next.ensures.lookup.3.1 0))
