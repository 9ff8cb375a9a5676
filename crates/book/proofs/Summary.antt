-- What the loop of `read` has to know of the rest of a book: the places of the routes and of the end, and the end's total.
use mathlib.Core.Path.{◌≡◌, refl, sym, ap, ◌∙◌}
use mathlib.Core.Bool.{Bool}
use mathlib.Core.List.{List, [], ◌∷◌, ◌++◌, append_assoc}
use Prim.Native.Nat.{ℕ, suc, pred, ◌+◌, ◌-◌, ◌*◌, ◌<◌}
use native.Mathlib.Nat.{add-zero}
use native.Mathlib.Omega.{arith}
use lib.ListN.{length, set, replicate, length-append, length-map}
use lib.Seq.{set_at, append_snoc}
use Rattle.refusal.specs.declared.Refusal.{Refusal}
use Rattle.plan.specs.declared.Head.{Head}
use Rattle.plan.specs.Records.{route_size}
use Rattle.plan.specs.Plan.{Entry}
use Rattle.records.specs.declared.Record.TheVariants as rec
use Rattle.book.specs.declared.Corner.{Corner}
use Rattle.book.specs.declared.Route.{Route}
use Rattle.book.specs.Parse.{Rest, rest, stopped, with_corner, with_route, entries_of, behind}
use Rattle.book.specs.Reading.{places, padded}
use Rattle.book.specs.Shape.{Shape, whole, broken, shape_by}

-- ---- the places that are still to come

pub data Summary : Type 0 where
  found : List ℕ → ℕ → Summary
  halted : Refusal → Summary

abbrev pub summary : (grouped : Bool) (at : ℕ) → Rest → Summary
summary g at (rest cs ts total) = found (places g (at + 9 * length cs) (entries_of ts)) total
summary g at (stopped x) = halted x

-- places before those
abbrev pub after : List ℕ → Summary → Summary
after l (found k total) = found (l ++ k) total
after l (halted x) = halted x

pub after_none : (k : Summary) → after [] k ≡ k
after_none (found k total) = refl
after_none (halted x) = refl

pub after_more : (l : List ℕ) (at : ℕ) (k : Summary) → after l (after (at ∷ []) k) ≡ after (l ++ (at ∷ [])) k
after_more l at (found k total) = ap (λ m. found m total) (sym (append_assoc l (at ∷ []) k))
after_more l at (halted x) = refl

-- a route, a corner and the end
module _ (g : Bool) (at : ℕ) where
  pub route_summary : (r : Route) (k : Rest)
      → summary g at (with_route r k) ≡ after (at ∷ []) (summary g (at + route_size g) k)
  route_summary r (rest cs ts total) =
      ap (λ (m : ℕ). found (m ∷ places g (m + route_size g + 9 * length cs) (entries_of ts)) total) (add-zero at)
  route_summary r (stopped x) = refl

  pub corner_summary : (c : Corner) (k : Rest) → summary g at (with_corner c k) ≡ summary g (at + 9) k
  corner_summary c (rest cs ts total) =
      let e : at + 9 * suc (length cs) ≡ at + 9 + 9 * length cs = omega arith in
      ap (λ (m : ℕ). found (places g m (entries_of ts)) total) e
  corner_summary c (stopped x) = refl

  pub end_summary : (total : ℕ) → summary g at (rest [] [] total) ≡ found (at ∷ []) total
  end_summary total = ap (λ (m : ℕ). found (m ∷ []) total) (add-zero at)

-- ---- the shape, from the places

abbrev pub shaped : Head → Summary → Shape
shaped h (found l total) = whole h (pred (length l)) total (padded l)
shaped h (halted x) = broken x

-- there is one place more than routes
pub length_places : (g : Bool) (at : ℕ) (es : List Entry) → length (places g at es) ≡ suc (length es)
length_places g at [] = refl
length_places g at (e ∷ es) = ap suc (length_places g (behind g at e) es)

pub shape_shaped : (h : Head) (k : Rest) → shaped h (summary h.grouped 19 k) ≡ shape_by (rec.Head h) k
unfolding shape_by
shape_shaped h (rest cs ts total) =
    ap (λ (n : ℕ). whole h (pred n) total (padded (places h.grouped (19 + 9 * length cs) (entries_of ts))))
    (length_places h.grouped (19 + 9 * length cs) (entries_of ts) ∙ ap suc (length-map ts (λ t. t.entry)))
shape_shaped h (stopped x) = refl

-- one place more is a store behind the others
pub padded_more : (l : List ℕ) (n at : ℕ) → length l ≡ n → n < 33 → set (padded l) n at ≡ padded (l ++ (at ∷ []))
padded_more l n at e h =
    let one : 33 - length l ≡ suc (33 - suc n) = omega arith in
    let two : 33 - suc n ≡ 33 - length (l ++ (at ∷ [])) = rw length-append (omega arith) in
    ap (λ (m : ℕ). set (l ++ replicate m 0) n at) one ∙ set_at l 0 (replicate (33 - suc n) 0) at n e ∙ sym (append_snoc l at (replicate (33 - suc n) 0))
    ∙ ap (λ (m : ℕ). (l ++ (at ∷ [])) ++ replicate m 0) two
