-- Edges cut into unit steps: as many as the edge is long. And the gap between lines in which a unit step lies, with its place in it.
-- Numbers and lists only; Attained has the plane.
use mathlib.Core.Path.{◌≡◌}
use mathlib.Core.Logic.{◌⊎◌, inl, inr}
use mathlib.Core.List.{List, [], ◌∷◌}
use Prim.Native.Nat.{ℕ, zero, suc, ◌+◌, ◌-◌, ◌≤◌, ◌<◌, min, max}
use native.Mathlib.Omega.{arith}
use lib.ListN.{length, get_or}
use Rattle.network.specs.Lists.{each}
use Rattle.network.specs.Plane.{Point, Run, ◌to◌, gap}
use Rattle.network.specs.Grid.{Rising, Edge, across, upward, len}
use Rattle.network.specs.Route.{Listed}
use Rattle.network.specs.Entries.{length_table}
use Rattle.network.proofs.Tests.{Spans}
use Rattle.network.proofs.Numbers.{order, Between, rise, fall}
use Rattle.network.proofs.Rising.{rising_le, listed_max, listed_min}

-- ---- edges cut into unit steps

abbrev pub point : ℕ → ℕ → Point
point a b = record { x = a; y = b }

unfoldable pub units_of : Edge → List Run
units_of (across x x' y) = each (x' - x) (λ k. (point (x + k) y to point (suc (x + k)) y) ∷ [])
units_of (upward x y y') = each (y' - y) (λ k. (point x (y + k) to point x (suc (y + k))) ∷ [])

-- an edge is as long as its unit steps are many
pub length_units : (e : Edge) → length (units_of e) ≡ len e
unfolding units_of len
length_units (across x x' y) = length_table (λ k. point (x + k) y to point (suc (x + k)) y) (x' - x)
length_units (upward x y y') = length_table (λ k. point x (y + k) to point x (suc (y + k))) (y' - y)

-- a step from u to the number next to it, seen as one upwards
abbrev pub Upwards : (u v lo : ℕ) → Type 0
Upwards u v lo = ((u ≡ lo) × (v ≡ suc lo)) ⊎ ((u ≡ suc lo) × (v ≡ lo))

upwards : (u v : ℕ) → gap u v ≡ 1 → Upwards u v (min u v)
unfolding gap
upwards u v h = go (order u v)
  where
    go : (u ≤ v) ⊎ (v < u) → Upwards u v (min u v)
    go (inl k) = inl (omega arith)
    go (inr k) = inr (omega arith)

-- ---- the gap in which a step lies

module _ (l : List ℕ) (r : Rising l) where
  gap_of : (a b x : ℕ) → a < length l → b < length l → get_or l a 0 ≤ x → x < get_or l b 0
      → (i : ℕ) × (a ≤ i) × (suc i ≤ b) × (get_or l i 0 ≤ x) × (x < get_or l (suc i) 0)
  gap_of a zero x h k m o = absurd (omega (arith, rising_le l r 0 a (omega arith) h))
  gap_of a (suc b) x h k m o = go (order (get_or l b 0) x) (gap_of a b x h (omega arith) m)
    where
      go : (get_or l b 0 ≤ x) ⊎ (x < get_or l b 0) → (x < get_or l b 0 → (i : ℕ) × (a ≤ i) × (suc i ≤ b) × (get_or l i 0 ≤ x) × (x < get_or l (suc i) 0))
          → (i : ℕ) × (a ≤ i) × (suc i ≤ suc b) × (get_or l i 0 ≤ x) × (x < get_or l (suc i) 0)
      go (inl p) rest =
          let q : a ≤ b = behind (order a b) in
          (b, q, omega arith, p, o)
        where
          behind : (a ≤ b) ⊎ (b < a) → a ≤ b
          behind (inl e) = e
          behind (inr e) = absurd (omega (arith, rising_le l r (suc b) a e h))
      go (inr p) rest = let (i, c, d, e, f) = rest p in (i, c, omega arith, e, f)

  -- of a unit step on the way from one line to another, and which of the gap's unit steps it is
  pub step_gap : (a b u v : ℕ) → Listed l a → Listed l b → Between a u b → Between a v b → gap u v ≡ 1
      → (i : ℕ) × (suc i < length l) × Spans a b (get_or l i 0) (get_or l (suc i) 0) × ((k : ℕ) × (k < get_or l (suc i) 0 - get_or l i 0) × Upwards u v (get_or l i 0 + k))
  step_gap a b u v ha hb p q s =
      let (c, hc, ec) = listed_min l a b ha hb in
      let (d, hd, ed) = listed_max l a b ha hb in
      let up : Upwards u v (min u v) = upwards u v s in
      let t : (min a b ≤ min u v) × (min u v < max a b) = inner up (bounds p) (bounds q) in
      let (i, m, n, e, f) = gap_of c d (min u v) hc hd (omega arith) (omega arith) in (
        i,
        omega arith,
        record { low = omega (arith, rising_le l r c i m (omega arith)); high = omega (arith, rising_le l r (suc i) d n hd) },
        (min u v - get_or l i 0, omega arith, behind (get_or l i 0) (min u v) e up),
      )
    where
      behind : (a lo : ℕ) → a ≤ lo → Upwards u v lo → Upwards u v (a + (lo - a))
      behind a lo h (inl k) = inl (omega arith)
      behind a lo h (inr k) = inr (omega arith)

      bounds : {u : ℕ} → Between a u b → (min a b ≤ u) × (u ≤ max a b)
      bounds (rise h k) = omega arith
      bounds (fall h k) = omega arith

      inner : Upwards u v (min u v) → (min a b ≤ u) × (u ≤ max a b) → (min a b ≤ v) × (v ≤ max a b) → (min a b ≤ min u v) × (min u v < max a b)
      inner (inl k) h m = omega arith
      inner (inr k) h m = omega arith
