-- `records::decode` meets its contract: the tests on the way to each return say which case of `decoded` holds.
use mathlib.Core.Path.{◌≡◌, ap, ◌∙◌}
use borrow.Author.Tests.{eq-eqb, ne_eqb, lt-ltb, le-ltb}
use Rattle.records.specs.declared.Record.TheVariants as rec
use Rattle.records.proofs.Sets.{others, corner, corner_kind, head_kind, route_kind, other_kind}
use Rattle.records.proofs.decode.Goals as goal

pub returns-then-body-lt8 : goal.returns-then-body-lt8
returns-then-body-lt8 c =
    let b = c.args.body.now in
    let p : rec.Other ≡ corner b = simp (lt-ltb _ _ c.if-body-lt8.true) in
    p ∙ corner_kind _ b c.if-kind-eq67.true

pub returns-then-kind-eq67 : goal.returns-then-kind-eq67
returns-then-kind-eq67 c =
    let b = c.args.body.now in
    let p : rec.Corner c.le32.result c.le32-then-kind-eq67.result ≡ corner b = simp (le-ltb _ _ c.if-body-lt8.false) cc in
    p ∙ corner_kind _ b c.if-kind-eq67.true

pub returns-then-kind : goal.returns-then-kind
returns-then-kind c = c.head_in.ensures ∙ head_kind _ _ c.if-kind.true

pub returns-then-kind-2 : goal.returns-then-kind-2
returns-then-kind-2 c = c.route_in.ensures ∙ route_kind _ _ c.if-kind.false c.if-kind-2.true

pub returns-then-body-lt2 : goal.returns-then-body-lt2
returns-then-body-lt2 c =
    let a = c.args in
    let p : rec.Other ≡ others a.kind a.body.now = simp (ne_eqb _ _ c.if-kind-eq67.false, eq-eqb _ _ c.if-kind-eq90.true, lt-ltb _ _ c.if-body-lt2.true) in
    p ∙ other_kind a.kind a.body.now c.if-kind.false c.if-kind-2.false

pub returns-then-kind-eq90 : goal.returns-then-kind-eq90
returns-then-kind-eq90 c =
    let a = c.args in
    let p : rec.End c.le16.result ≡ others a.kind a.body.now = simp (ne_eqb _ _ c.if-kind-eq67.false, eq-eqb _ _ c.if-kind-eq90.true, le-ltb _ _ c.if-body-lt2.false) (ap rec.End c.le16.ensures) in
    p ∙ other_kind a.kind a.body.now c.if-kind.false c.if-kind-2.false

pub returns : goal.returns
returns c =
    let a = c.args in
    let p : rec.Other ≡ others a.kind a.body.now = simp (ne_eqb _ _ c.if-kind-eq67.false, ne_eqb _ _ c.if-kind-eq90.false) in
    p ∙ other_kind a.kind a.body.now c.if-kind.false c.if-kind-2.false
