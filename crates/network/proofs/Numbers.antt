-- Numbers on a line: their order, what is between two of them, and how far apart they are.
use mathlib.Core.Path.{◌≡◌}
use mathlib.Core.Logic.{◌⊎◌, inl, inr}
use Prim.Native.Nat.{ℕ, ◌+◌, ◌≤◌, ◌<◌}
use native.Mathlib.Decide.{dec_le}
use native.Mathlib.Nat.{lt_of_not-le}
use native.Mathlib.Omega.{arith}
use Rattle.network.specs.Plane.{gap}

-- which of two numbers is the lower
pub order : (a b : ℕ) → (a ≤ b) ⊎ (b < a)
order a b = go (dec_le a b)
  where
    go : Dec (a ≤ b) → (a ≤ b) ⊎ (b < a)
    go (yes h) = inl h
    go (no h) = inr (lt_of_not-le h)

-- ---- between

-- b is on the way from a to c
pub data Between (a b c : ℕ) : Type 0 where
  rise : a ≤ b → b ≤ c → Between a b c
  fall : c ≤ b → b ≤ a → Between a b c

-- where the ends' order is known
pub between_up : {x v z : ℕ} → Between x v z → x ≤ z → (x ≤ v) × (v ≤ z)
between_up (rise a b) h = omega arith
between_up (fall a b) h = omega arith

-- and the other way round
pub between_down : {x v z : ℕ} → Between x v z → z ≤ x → (z ≤ v) × (v ≤ x)
between_down (rise a b) h = omega arith
between_down (fall a b) h = omega arith

-- each end is on the way
pub between_here : (a c : ℕ) → Between a a c
between_here a c = go (order a c)
  where
    go : (a ≤ c) ⊎ (c < a) → Between a a c
    go (inl h) = rise (omega arith) h
    go (inr h) = fall (omega arith) (omega arith)

-- the far end
pub between_there : {a b c : ℕ} → Between a b c → Between a c c
between_there (rise u v) = rise (omega arith) (omega arith)
between_there (fall u v) = fall (omega arith) (omega arith)

-- what is between two equal numbers is equal to them
pub between_same : {a b c : ℕ} → Between a b c → a ≡ c → b ≡ c
between_same (rise h k) e = omega arith
between_same (fall h k) e = omega arith

-- of the points p, q, r of a walk to z, q is on the way from p to r, and r on the way from p to z
pub between_first : {p q r z : ℕ} → Between p q z → Between q r z → Between p q r
between_first (rise a b) (rise c d) = rise a c
between_first (rise a b) (fall c d) = rise a (omega arith)
between_first (fall a b) (rise c d) = fall (omega arith) b
between_first (fall a b) (fall c d) = fall d b

-- r is between p and z
pub between_trans : {p q r z : ℕ} → Between p q z → Between q r z → Between p r z
between_trans (rise a b) (rise c d) = rise (omega arith) (omega arith)
between_trans (rise a b) (fall c d) = rise (omega arith) (omega arith)
between_trans (fall a b) (rise c d) = fall (omega arith) (omega arith)
between_trans (fall a b) (fall c d) = fall (omega arith) (omega arith)

-- ---- gaps

-- a gap as inequalities
record Gap (a b g : ℕ) : Type 0 where
  left : a ≤ b + g
  right : b ≤ a + g

-- each number is at most the other and the gap
gap_is : (a b : ℕ) → Gap a b (gap a b)
unfolding gap
gap_is a b = omega arith

-- the higher number is the lower one and the gap
pub gap_rise : (a b : ℕ) → a ≤ b → a + gap a b ≡ b
unfolding gap
gap_rise a b h = omega arith

-- the other way round
pub gap_fall : (a b : ℕ) → b ≤ a → b + gap a b ≡ a
unfolding gap
gap_fall a b h = omega arith

-- no gap, and the gap the other way round
pub gap_self : (a : ℕ) → gap a a ≡ 0
unfolding gap
gap_self a = omega arith

-- the gap the other way round
pub gap_turned : (a b : ℕ) → gap a b ≡ gap b a
unfolding gap
gap_turned a b = omega arith

-- the triangle inequality, which is an equation exactly if the middle number is on the way
pub gap_triangle : (a b c : ℕ) → gap a c ≤ gap a b + gap b c
gap_triangle a b c = go (order a c)
  where
    go : (a ≤ c) ⊎ (c < a) → gap a c ≤ gap a b + gap b c
    go (inl h) = omega (arith, gap_is a b, gap_is b c, gap_rise a c h)
    go (inr h) = omega (arith, gap_is a b, gap_is b c, gap_fall a c (omega arith))

-- where the way over b is no longer, b is between
pub gap_between : (a b c : ℕ) → gap a b + gap b c ≤ gap a c → Between a b c
gap_between a b c e = go (order a c)
  where
    go : (a ≤ c) ⊎ (c < a) → Between a b c
    go (inl h) = rise (omega (arith, gap_is a b, gap_is b c, gap_rise a c h)) (omega (arith, gap_is a b, gap_is b c, gap_rise a c h))
    go (inr h) =
        let k : c ≤ a = omega arith in
        fall (omega (arith, gap_is a b, gap_is b c, gap_fall a c k)) (omega (arith, gap_is a b, gap_is b c, gap_fall a c k))

-- and where b is between, it is as long
pub between_gap : {a b c : ℕ} → Between a b c → gap a b + gap b c ≡ gap a c
between_gap {a} {b} {c} (rise h k) = omega (arith, gap_rise a b h, gap_rise b c k, gap_rise a c (omega arith))
between_gap {a} {b} {c} (fall h k) = omega (arith, gap_fall a b k, gap_fall b c h, gap_fall a c (omega arith))
