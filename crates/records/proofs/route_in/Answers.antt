-- `records::route_in` meets its contract: each field is what its reader ensures.
use native.Mathlib.Omega.{arith}
use Rattle.records.proofs.Sets.{route_short, route_whole, route_room}
use Rattle.records.proofs.route_in.Goals as goal

pub returns-then-body-grouped : goal.returns-then-body-grouped
returns-then-body-grouped c = let a = c.args in route_short a.grouped a.body.now c.if-body-grouped.true

pub le16-requires : goal.le16-requires
le16-requires c = let a = c.args in omega (arith, (route_room a.grouped a.body.now c.if-body-grouped.false).0)

pub le16-requires-2 : goal.le16-requires-2
le16-requires-2 c = let a = c.args in omega (arith, (route_room a.grouped a.body.now c.if-body-grouped.false).0)

pub le16-requires-3 : goal.le16-requires-3
le16-requires-3 c = let a = c.args in omega (arith, (route_room a.grouped a.body.now c.if-body-grouped.false).0)

pub centre_in-requires : goal.centre_in-requires
centre_in-requires c = let a = c.args in (route_room a.grouped a.body.now c.if-body-grouped.false).1

pub returns : goal.returns
returns c =
    let a = c.args in
    route_whole a.grouped a.body.now _ _ _ _ c.if-body-grouped.false c.le16.ensures c.le16-2.ensures c.le16-3.ensures c.centre_in.ensures
