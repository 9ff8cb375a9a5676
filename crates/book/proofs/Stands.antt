-- Where route i of a whole book stands, and what is behind it, by the array of places.
use mathlib.Core.Path.{◌≡◌, refl, sym, ap, ◌∙◌}
use mathlib.Core.Bool.{Bool}
use mathlib.Core.List.{List, [], ◌∷◌}
use Prim.Native.Nat.{ℕ, zero, suc, ◌+◌, ◌-◌, ◌≤◌, ◌<◌}
use native.Mathlib.Numerals.{add-one}
use native.Mathlib.Omega.{arith}
use lib.ListN.{length, get_or, drop, replicate, length-map, get_or-append}
use Rattle.plan.specs.Plan.{Entry}
use Rattle.book.specs.declared.Walk.{Walk}
use Rattle.book.specs.Parse.{start, begun, Told, entries_of, behind}
use Rattle.book.specs.Reading.{places, padded}
use Rattle.book.proofs.Places.{RouteAt, RoutesAt, after_corners, after_grouped}
use Rattle.book.proofs.Summary.{length_places}

pub first_place : (g : Bool) (at : ℕ) (es : List Entry) → get_or (places g at es) 0 0 ≡ at
first_place g at [] = refl
first_place g at (e ∷ es) = refl

-- an entry of the array is a place
pub padded_place : (g : Bool) (held : List ℕ) (es : List Entry) → held ≡ padded (places g 19 es) → (i : ℕ) → i ≤ length es
    → get_or held i 0 ≡ get_or (places g 19 es) i 0
padded_place g held es e i l =
    ap (λ (m : List ℕ). get_or m i 0) e
    ∙ get_or-append (places g 19 es) (replicate (33 - length (places g 19 es)) 0) 0 i (omega (arith, length_places g 19 es))

module _ (s : List ℕ) where
  -- route i is t; it stands at a, and what is behind it at e
  pub record Stands (g : Bool) (ts : List Told) (i a e : ℕ) : Type 0 where
    pub route : Told
    pub walk : Walk
    pub at : RouteAt s g a walk route
    pub end : e ≡ behind g a route.entry
    pub here : drop i ts ≡ route ∷ drop (suc i) ts

  stands : (at : ℕ) (w : Walk) (ts : List Told) (i : ℕ) → RoutesAt s at w ts → i < length ts
      → Stands w.grouped ts i (get_or (places w.grouped at (entries_of ts)) i 0) (get_or (places w.grouped at (entries_of ts)) (suc i) 0)
  unfolding RoutesAt
  stands at w [] i r h = absurd (omega arith)
  stands at w (t ∷ ts) zero r h =
      record { route = t; walk = w; at = r.0; end = first_place w.grouped (behind w.grouped at t.entry) (entries_of ts); here = refl }
  stands at w (t ∷ ts) (suc i) r h =
      let v = after_corners (begun w) t.entry.corners in
      let k = rw (after_grouped (begun w) t.entry.corners) at (stands (behind w.grouped at t.entry) v ts i r.1 (omega arith)) in
      record { route = k.route; walk = k.walk; at = k.at; end = k.end; here = k.here }

  -- by the array
  pub placed : (g : Bool) (held : List ℕ) (ts : List Told) (i : ℕ) → held ≡ padded (places g 19 (entries_of ts)) → RoutesAt s 19 (start g) ts → i < length ts
      → Stands g ts i (get_or held i 0) (get_or held (i + 1) 0)
  placed g held ts i l r h =
      let n = length-map ts (λ (t : Told). t.entry) in
      let k = stands 19 (start g) ts i r h in
      let a = padded_place g held (entries_of ts) l i (omega (arith, n)) in
      let b = padded_place g held (entries_of ts) l (i + 1) (omega (arith, n)) ∙ ap (λ (m : ℕ). get_or (places g 19 (entries_of ts)) m 0) (add-one i) in
      record {
        route = k.route;
        walk = k.walk;
        at = rw a k.at;
        end = b ∙ k.end ∙ ap (λ (m : ℕ). behind g m k.route.entry) (sym a);
        here = k.here;
      }
