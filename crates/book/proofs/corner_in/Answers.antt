-- `book::corner_in` meets its contract: by the places, and by the record that stands there.
use mathlib.Core.Bool.{Bool}
use mathlib.Core.List.{List}
use mathlib.Core.Path.{◌≡◌, sym, ap, ap₂, ◌∙◌}
use Prim.Native.Nat.{ℕ, ◌+◌, ◌*◌}
use native.Mathlib.Omega.{arith}
use lib.ListN.{get_or, drop, get_or-eq_default}
use mir.Syntax.{w32}
use mir.ValLaws.{to_z-of_z}
use Rattle.std.specs.Prelude.{Some}
use Rattle.plan.specs.Records.{route_size}
use Rattle.records.specs.Records.{record_of}
use Rattle.book.specs.Parse.{is_grouped}
use Rattle.book.specs.Reading.{as_spot, corner_place}
use Rattle.book.proofs.ByPlaces.{else_corner, far_corner, no_corner, some_corner, past_corner}
use Rattle.book.proofs.corner_in.Goals as goal

-- the place that is looked at
corner_there : (book places : List ℕ) (i j at size : ℕ) (grouped : Bool) → at ≡ get_or places i 0 → size ≡ route_size grouped → grouped ≡ is_grouped book
    → at + size + 9 * j ≡ corner_place (is_grouped book) (get_or places i 0) j
corner_there book places i j at size grouped a s g = ap₂ (λ (k n : ℕ). k + n + 9 * j) a (s ∙ ap route_size g)

pub returns-in_err-start : goal.returns-in_err-start
returns-in_err-start c =
    let a = c.args in
    c.from_residual.ensures ∙ past_corner a.book.now a.places.now a.i a.j c.in_err-start.ensures.lookup.3

pub returns-in_err-next : goal.returns-in_err-next
returns-in_err-next c =
    let a = c.args in
    let behind = get_or-eq_default a.places.now 0 {n = a.i + 1} c.in_err-next.ensures.lookup.3 in
    c.from_residual-in_err-next.ensures ∙ no_corner a.book.now a.places.now a.i a.j (omega (arith, behind))

pub returns-then-j-ge127 : goal.returns-then-j-ge127
returns-then-j-ge127 c =
    let a = c.args in
    far_corner a.book.now a.places.now a.i a.j c.if-j-ge127.true

pub returns-then-at-wide : goal.returns-then-at-wide
returns-then-at-wide c =
    let a = c.args in
    let e : c.eq.result ≡ is_grouped a.book.now = grind arith in
    let t = corner_there a.book.now a.places.now a.i a.j _ _ _ (c.wide.ensures.0 ∙ c.in_ok-start.ensures.lookup.3.1 0) c.route_size-size.ensures.0 e in
    no_corner a.book.now a.places.now a.i a.j (omega (arith, c.if-at-wide.true, c.wide-2.ensures.0, c.in_ok-next.ensures.lookup.3.1 0, t))

pub returns-in_default : goal.returns-in_default
returns-in_default c =
    let a = c.args in
    let g = c.record_at in
    let e : c.eq.result ≡ is_grouped a.book.now = grind arith in
    let t = corner_there a.book.now a.places.now a.i a.j _ _ _ (c.wide.ensures.0 ∙ c.in_ok-start.ensures.lookup.3.1 0) c.route_size-size.ensures.0 e in
    else_corner g.result c.in_default.not-Corner ∙ ap as_spot (g.ensures ∙ ap (λ (k : ℕ). record_of (drop k a.book.now)) t)
    ∙ some_corner a.book.now a.places.now a.i a.j c.if-j-ge127.false
    (omega (arith, c.if-at-wide.false, c.wide-2.ensures.0, c.in_ok-next.ensures.lookup.3.1 0, t))

pub returns : goal.returns
returns c =
    let a = c.args in
    let g = c.record_at in
    let e : c.eq.result ≡ is_grouped a.book.now = grind arith in
    let t = corner_there a.book.now a.places.now a.i a.j _ _ _ (c.wide.ensures.0 ∙ c.in_ok-start.ensures.lookup.3.1 0) c.route_size-size.ensures.0 e in
    (λ i. Some (record {
      x = (to_z-of_z w32 c.signed_of.result (record { sfits = c.signed_of.type_inv }) ∙ c.signed_of.ensures) i;
      y = (to_z-of_z w32 c.signed_of-2.result (record { sfits = c.signed_of-2.type_inv }) ∙ c.signed_of-2.ensures) i;
    }))
    ∙ ap as_spot (sym c.in-Corner.is ∙ g.ensures ∙ ap (λ (k : ℕ). record_of (drop k a.book.now)) t)
    ∙ some_corner a.book.now a.places.now a.i a.j c.if-j-ge127.false
    (omega (arith, c.if-at-wide.false, c.wide-2.ensures.0, c.in_ok-next.ensures.lookup.3.1 0, t))
