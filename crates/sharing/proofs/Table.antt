-- The words of the table: what the sums, choices and maxima in its rules come to.
use mathlib.Core.Path.{◌≡◌, refl, sym, ap}
use mathlib.Core.Bool.{Bool, true, false, not}
use Prim.Native.Nat.{ℕ, zero, suc, ◌+◌, ◌≤◌, ◌<◌, max}
use native.Mathlib.Omega.{arith}
use lib.Dec.{eqb, leb}
use borrow.Author.Tests.{eqb-true, eqb-false, eq-eqb, ne_eqb, leb-true, leb-false}
use Rattle.network.specs.Steps.{Dir, hor, ver, other}
use Rattle.sharing.specs.Instance.{Instance, Owner, none, same, cross, owner}
use Rattle.sharing.specs.Table.{best, Table, at_start, all, zero_if, unless, only, arrival, from, plus, best_of}

-- ---- one word

-- a word or 0 is at most the word
zero_if_le : (b : Bool) (n : ℕ) → zero_if b n ≤ n
zero_if_le true n = omega arith
zero_if_le false n = omega arith

-- a word that does not count for k is at most the word
unless_le : (o : Owner) (k n : ℕ) → unless o k n ≤ n
unfolding unless
unless_le none k n = omega arith
unless_le (same j) k n = omega arith
unless_le (cross j) k n = zero_if_le (eqb j k) n

-- a word of an edge of k counts for every other leaf
pub unless_other : (o : Owner) (j k n : ℕ) → o ≡ cross k → ¬ (j ≡ k) → n ≤ unless o j n
unfolding unless
unless_other o j k n e h = rw (e, ne_eqb k j (λ q. h (sym q))) (omega arith)

-- where it counts, the owner is not k
pub unless_is : (o : Owner) (k x w : ℕ) → 0 < w → unless o k x ≡ w → (x ≡ w) × ¬ (o ≡ cross k)
unfolding unless
unless_is none k x w z h = (h, λ q. let y : ◌≡◌ {A = ℕ} 0 1 = cc in omega arith)
unless_is (same j) k x w z h = (h, λ q. let y : ◌≡◌ {A = ℕ} 0 1 = cc in omega arith)
unless_is (cross j) k x w z h = go (eqb j k) refl h
  where
    go : (b : Bool) → eqb j k ≡ b → zero_if b x ≡ w → (x ≡ w) × ¬ (cross j ≡ cross k)
    go true e h = absurd (omega arith)
    go false e h = (h, λ q. eqb-false j k e (cc))

-- a word that counts only for k, of an edge of k, and of any other
pub only_own : (o : Owner) (k n : ℕ) → o ≡ cross k → only o k n ≡ n
unfolding only
only_own o k n e = rw (e, eq-eqb k k refl)

-- where it is not 0 it is the word of an edge of k
pub only_is : (o : Owner) (k x : ℕ) → 0 < only o k x → (only o k x ≡ x) × (o ≡ cross k)
unfolding only
only_is none k x z = absurd (omega arith)
only_is (same j) k x z = absurd (omega arith)
only_is (cross j) k x z = go (eqb j k) refl z
  where
    go : (b : Bool) → eqb j k ≡ b → 0 < zero_if (not b) x → (zero_if (not b) x ≡ x) × (cross j ≡ cross k)
    go true e h = (refl, ap cross (eqb-true j k e))
    go false e h = absurd (omega arith)

-- a sum with a word that is not 0, and a sum that is not 0
pub plus_pos : (n l : ℕ) → 0 < n → plus n l ≡ n + l
plus_pos zero l h = omega arith
plus_pos (suc n) l h = refl

-- where the sum is not 0, neither is the word
pub plus_is : (x l : ℕ) → 0 < plus x l → (0 < x) × (plus x l ≡ x + l)
plus_is zero l z = absurd (omega arith)
plus_is (suc x) l z = (omega arith, refl)

-- where a walk comes to the edge's beginning, one comes to its end
pub best_of_pos : (o : Owner) (w r l : ℕ) → 0 < w → 0 < best_of o w r l
best_of_pos none w r l z = z
best_of_pos (same k) zero r l z = z
best_of_pos (same k) (suc w) r l z = omega arith
best_of_pos (cross k) w r l z = omega arith

-- the larger of two words
pub left_max : (x y w : ℕ) → w ≡ max x y → leb y x ≡ true → x ≡ w
left_max x y w e h = omega (arith, leb-true y x h)

-- the second, where it is the larger
pub right_max : (x y w : ℕ) → w ≡ max x y → leb y x ≡ false → y ≡ w
right_max x y w e h = omega (arith, leb-false y x h)

-- ---- the words at a vertex

-- the first point, read along the other direction
start_turn : (s t : ℕ) → at_start s t ≡ at_start t s
start_turn zero zero = refl
start_turn zero (suc t) = refl
start_turn (suc s) zero = refl
start_turn (suc s) (suc t) = refl

-- away from it the walk does not start
start_far : (s t n : ℕ) → s + t ≡ suc n → at_start s t ≡ 0
start_far zero zero n h = absurd (omega arith)
start_far zero (suc t) n h = refl
start_far (suc s) t n h = refl

module _ (I : Instance) (T : Table) where
  -- the same vertex, read along the other direction
  pub all_turn : (d : Dir) (s t : ℕ) → all T d s t ≡ all T (other d) t s
  unfolding all
  all_turn hor s t = omega (arith, start_turn s t)
  all_turn ver s t = omega (arith, start_turn s t)

  -- without the edges of k
  pub from_turn : (k : ℕ) (d : Dir) (s t : ℕ) → from I T k d s t ≡ from I T k (other d) t s
  unfolding from
  from_turn k hor s t = omega (arith, start_turn s t)
  from_turn k ver s t = omega (arith, start_turn s t)

  -- which words are the larger ones
  pub from_all : (k : ℕ) (d : Dir) (s t : ℕ) → from I T k d s t ≤ all T d s t
  unfolding all from
  from_all k d s t =
      omega (arith, unless_le (arrival I d s t) k (T d best s t), unless_le (arrival I (other d) t s) k (T (other d) best t s))

  -- no best word is larger than the best of both
  pub best_all : (d : Dir) (s t : ℕ) → T d best s t ≤ all T d s t
  unfolding all
  best_all d s t = omega arith

  -- and none without the edges of k
  pub best_from : (k : ℕ) (d : Dir) (s t : ℕ) → unless (owner I d s t) k (T d best (suc s) t) ≤ from I T k d (suc s) t
  unfolding from
  best_from k d s t = omega arith

  -- away from the first point a walk ends with an edge
  pub all_far : (d : Dir) (s t n : ℕ) → s + t ≡ suc n → all T d s t ≡ max (T d best s t) (T (other d) best t s)
  unfolding all
  all_far d s t n h = omega (arith, start_far s t n h)

  -- without the edges of k
  pub from_far : (k : ℕ) (d : Dir) (s t n : ℕ) → s + t ≡ suc n
      → from I T k d s t ≡ max (unless (arrival I d s t) k (T d best s t)) (unless (arrival I (other d) t s) k (T (other d) best t s))
  unfolding from
  from_far k d s t n h = omega (arith, start_far s t n h)
