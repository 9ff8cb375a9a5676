-- A leaf that falls in the view slopes opposite to the centre in the plane.
use mathlib.Core.Path.{◌≡◌, refl, subst}
use mathlib.Core.Logic.{◌⊎◌, inl, inr}
use mathlib.Core.Bool.{Bool, true, false, not, ◌&&◌}
use Prim.Native.Nat.{ℕ, ◌≤◌}
use native.Mathlib.Omega.{arith}
use lib.Dec.{ltb}
use borrow.Author.Tests.{ltb-true}
use Rattle.network.specs.Plane.{Run}
use Rattle.network.specs.Slopes.{Slope, regular, flipped, opposite}
use Rattle.network.specs.Steps.{Dir, hor, ver}
use Rattle.network.proofs.Tests.{and_split, or_split}
use Rattle.network.proofs.Slopes.{Sloped, right_up, left_down, right_down, left_up}
use Rattle.sharing.specs.Box.{Box, falls}
use Rattle.sharing.specs.View.{View, shown}
use Rattle.sharing.proofs.View.{Ordered, Seen, coordinate_order}

-- the slope of a run that goes right and up in a view, by the view's flips
abbrev slope_of : Bool → Bool → Slope
slope_of false false = regular
slope_of false true = flipped
slope_of true false = flipped
slope_of true true = regular

-- so it slopes as its coordinates are ordered
sloped : (f g : Bool) (r : Run) → Ordered f r.first.x r.second.x → Ordered g r.first.y r.second.y → Sloped (slope_of f g) r
sloped false false r a b = right_up a b
sloped false true r a b = right_down a b
sloped true false r a b = left_up a b
sloped true true r a b = left_down a b

-- the other way round along one direction is the opposite slope
turned : (f : Bool) (a b : ℕ) → Ordered f b a → Ordered (not f) a b
turned false a b h = h
turned true a b h = h

-- along either direction
opposite_of : (f g : Bool) → (slope_of f (not g) ≡ opposite (slope_of f g)) × (slope_of (not f) g ≡ opposite (slope_of f g))
opposite_of false false = (refl, refl)
opposite_of false true = (refl, refl)
opposite_of true false = (refl, refl)
opposite_of true true = (refl, refl)

module _ (v : View) where
  -- the slope of the centre
  pub slope : Slope
  slope = slope_of (v.flip hor) (v.flip ver)

  -- a run that goes right and up in the view has that slope, and one that falls the opposite slope
  pub rises_sloped : (b : Box) → Seen v b → ((d : Dir) → b.first d ≤ b.second d) → Sloped slope (shown v b)
  unfolding slope
  rises_sloped b f h =
      sloped (v.flip hor) (v.flip ver) (shown v b)
      (coordinate_order v hor (b.first hor) (b.second hor) (h hor) (f hor).1)
      (coordinate_order v ver (b.first ver) (b.second ver) (h ver) (f ver).1)

  -- one that falls has the opposite slope
  pub falls_sloped : (b : Box) → Seen v b → falls b ≡ true → Sloped (opposite slope) (shown v b)
  unfolding slope falls
  falls_sloped b f e =
      go (or_split (ltb (b.first hor) (b.second hor) && ltb (b.second ver) (b.first ver)) (ltb (b.second hor) (b.first hor) && ltb (b.first ver) (b.second ver)) e)
    where
      go : (ltb (b.first hor) (b.second hor) && ltb (b.second ver) (b.first ver) ≡ true) ⊎ (ltb (b.second hor) (b.first hor) && ltb (b.first ver) (b.second ver) ≡ true)
          → Sloped (opposite (slope_of (v.flip hor) (v.flip ver))) (shown v b)
      go (inl t) =
          let (p, q) = and_split (ltb (b.first hor) (b.second hor)) (ltb (b.second ver) (b.first ver)) t in
          let x = ltb-true (b.first hor) (b.second hor) p in
          let y = ltb-true (b.second ver) (b.first ver) q in
          subst (λ s. Sloped s (shown v b)) (opposite_of (v.flip hor) (v.flip ver)).0
          (sloped (v.flip hor) (not (v.flip ver)) (shown v b)
          (coordinate_order v hor (b.first hor) (b.second hor) (omega arith) (f hor).1)
          (turned (v.flip ver) _ _ (coordinate_order v ver (b.second ver) (b.first ver) (omega arith) (f ver).0)))
      go (inr t) =
          let (p, q) = and_split (ltb (b.second hor) (b.first hor)) (ltb (b.first ver) (b.second ver)) t in
          let x = ltb-true (b.second hor) (b.first hor) p in
          let y = ltb-true (b.first ver) (b.second ver) q in
          subst (λ s. Sloped s (shown v b)) (opposite_of (v.flip hor) (v.flip ver)).1
          (sloped (not (v.flip hor)) (v.flip ver) (shown v b)
          (turned (v.flip hor) _ _ (coordinate_order v hor (b.second hor) (b.first hor) (omega arith) (f hor).0))
          (coordinate_order v ver (b.first ver) (b.second ver) (omega arith) (f ver).1))
