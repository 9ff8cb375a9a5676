-- Rising lists: the order of the indexes is the order of the numbers.
use mathlib.Core.Path.{◌≡◌}
use mathlib.Core.Logic.{◌⊎◌, inl, inr}
use mathlib.Core.List.{List, [], ◌∷◌, Memᴰ as Member}
use Prim.Native.Nat.{ℕ, zero, suc, ◌≤◌, ◌<◌, min, max}
use native.Mathlib.Nat.{lt_of_not-le}
use native.Mathlib.Omega.{arith}
use lib.ListN.{length, get_or}
use Rattle.network.specs.Grid.{Rising}
use Rattle.network.specs.Route.{Listed}
use Rattle.network.specs.Distinct.{distinct}
use Rattle.network.specs.DistinctRises.{rising_none, insert_rises}
use Rattle.network.proofs.Lists.{member_index}
use Rattle.network.proofs.Numbers.{order}

module _ (l : List ℕ) (r : Rising l) where
  -- a higher index has a higher number
  pub rising_lt : (i j : ℕ) → i < j → j < length l → get_or l i 0 < get_or l j 0
  rising_lt i zero h k = omega arith
  rising_lt i (suc j) h k = go (order j i) (rising_lt i j)
    where
      go : (j ≤ i) ⊎ (i < j) → (i < j → j < length l → get_or l i 0 < get_or l j 0) → get_or l i 0 < get_or l (suc j) 0
      go (inl m) ih =
          let e : j ≡ i = omega arith in
          rw (← e) (r j k)
      go (inr m) ih = omega (arith, ih m (omega arith), r j k)

  -- or the same, where the indexes are
  pub rising_le : (i j : ℕ) → i ≤ j → j < length l → get_or l i 0 ≤ get_or l j 0
  rising_le i j h k = go (order j i)
    where
      go : (j ≤ i) ⊎ (i < j) → get_or l i 0 ≤ get_or l j 0
      go (inl m) =
          let e : j ≡ i = omega arith in
          rw e (omega arith)
      go (inr m) = omega (arith, rising_lt i j m k)

  -- and back
  pub index_le : (i j : ℕ) → i < length l → get_or l i 0 ≤ get_or l j 0 → i ≤ j
  index_le i j h k = go (order i j)
    where
      go : (i ≤ j) ⊎ (j < i) → i ≤ j
      go (inl m) = m
      go (inr m) = omega (arith, rising_lt j i m h)

  -- a number stands at one index
  pub one_index : (i j : ℕ) → i < length l → j < length l → get_or l i 0 ≡ get_or l j 0 → i ≡ j
  one_index i j h k e = omega (arith, index_le i j h (omega arith), index_le j i k (omega arith))

  -- no number of the list is strictly between two neighbours
  pub beside : (v : ℕ) → Listed l v → (i : ℕ) → suc i < length l → (v ≤ get_or l i 0) ⊎ (get_or l (suc i) 0 ≤ v)
  beside v (a, h, e) i k = go (order a i)
    where
      go : (a ≤ i) ⊎ (i < a) → (v ≤ get_or l i 0) ⊎ (get_or l (suc i) 0 ≤ v)
      go (inl m) = inl (omega (arith, rising_le a i m (omega arith)))
      go (inr m) = inr (omega (arith, rising_le (suc i) a m h))

  -- behind a number that is below another one there is a next number, at most the other
  pub next_line : (p q : ℕ) → Listed l p → Listed l q → p < q → (i : ℕ) × (suc i < length l) × (get_or l i 0 ≡ p) × (get_or l (suc i) 0 ≤ q)
  next_line p q (a, ha, ea) (b, hb, eb) h =
      let k : a < b = lt_of_not-le (λ m. absurd (omega (arith, rising_le b a m ha))) in
      (a, omega arith, ea, omega (arith, rising_le (suc a) b k hb))

-- the first number of a rising list is below the others
pub rising_head : (a : ℕ) (l : List ℕ) → Rising (a ∷ l) → (d : ℕ) → Member d l → a < d
rising_head a l r d m =
    let (i, h, e) = member_index 0 m in
    omega (arith, rising_lt (a ∷ l) r 0 (suc i) (omega arith) (omega arith))

-- and the others rise
pub rising_tail : (a : ℕ) (l : List ℕ) → Rising (a ∷ l) → Rising l
rising_tail a l r i h = r (suc i) (omega arith)

-- of two numbers of a list, the greater and the lesser are numbers of the list
pub listed_max : (l : List ℕ) (p q : ℕ) → Listed l p → Listed l q → Listed l (max p q)
listed_max l p q a b = go (order p q)
  where
    go : (p ≤ q) ⊎ (q < p) → Listed l (max p q)
    go (inl h) = let e : max p q ≡ q = omega arith in rw e b
    go (inr h) = let e : max p q ≡ p = omega arith in rw e a

-- the lesser of them
pub listed_min : (l : List ℕ) (p q : ℕ) → Listed l p → Listed l q → Listed l (min p q)
listed_min l p q a b = go (order p q)
  where
    go : (p ≤ q) ⊎ (q < p) → Listed l (min p q)
    go (inl h) = let e : min p q ≡ p = omega arith in rw e a
    go (inr h) = let e : min p q ≡ q = omega arith in rw e b

-- the distinct numbers of a list rise
pub distinct_rises : (l : List ℕ) → Rising (distinct l)
distinct_rises [] = rising_none
distinct_rises (v ∷ l) = insert_rises v (distinct l) (distinct_rises l)
