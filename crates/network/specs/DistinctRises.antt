-- Checked, nothing to believe: a rising list rises with one more number in it, so the distinct numbers of a list rise. A grid's lines have to, and the Hanan
-- grid is made with this law.
use Rattle.std.specs.Prelude.{◌≡◌, refl, List, [], ◌∷◌, Bool, true, false, ℕ, zero, suc, ◌<◌, ltb, length, get_or}
use Rattle.std.proofs.Common.{arith, ltb-true}
use Rattle.network.specs.Grid.{Rising}
use Rattle.network.specs.Distinct.{insert}

-- what a list starts with is above a number
abbrev Above : ℕ → List ℕ → Type 0
Above a l = 0 < length l → a < get_or l 0 0

-- a list rises with a number below all of it in front
rising_cons : (a : ℕ) (l : List ℕ) → Above a l → Rising l → Rising (a ∷ l)
rising_cons a l h r zero k = h (omega arith)
rising_cons a l h r (suc i) k = r i (omega arith)

-- what stands behind the first number of a rising list is above it, and rises
rising_tail : (a : ℕ) (l : List ℕ) → Rising (a ∷ l) → Above a l × Rising l
rising_tail a l r = (λ k. r 0 (omega arith), λ i k. r (suc i) (omega arith))

-- a number below a list stays below what is inserted above it
insert_above : (a v : ℕ) (l : List ℕ) → a < v → Above a l → Above a (insert v l)
unfolding insert
insert_above a v [] h k m = h
insert_above a v (b ∷ l) h k m = go (ltb v b) (ltb b v)
  where
    go : (s t : Bool) → a < get_or (elim s as (λ u. List ℕ) [ true ↦ v ∷ b ∷ l | false ↦ elim t as (λ u. List ℕ) [ true ↦ b ∷ insert v l | false ↦ b ∷ l ] ]) 0 0
    go true t = h
    go false true = k (omega arith)
    go false false = k (omega arith)

-- an empty list rises
pub rising_none : Rising []
rising_none i k = absurd (omega arith)

-- a rising list rises with one more number in it
pub insert_rises : (v : ℕ) (l : List ℕ) → Rising l → Rising (insert v l)
unfolding insert
insert_rises v [] r = rising_cons v [] (λ k. absurd (omega arith)) r
insert_rises v (a ∷ l) r = go (ltb v a) refl (ltb a v) refl (rising_tail a l r) (insert_rises v l)
  where
    go : (s : Bool) → ltb v a ≡ s → (t : Bool) → ltb a v ≡ t → Above a l × Rising l → (Rising l → Rising (insert v l))
        → Rising (elim s as (λ u. List ℕ) [ true ↦ v ∷ a ∷ l | false ↦ elim t as (λ u. List ℕ) [ true ↦ a ∷ insert v l | false ↦ a ∷ l ] ])
    go true e t d p n = rising_cons v (a ∷ l) (λ k. ltb-true v a e) r
    go false e true d p n = rising_cons a (insert v l) (insert_above a v l (ltb-true a v d) p.0) (n p.1)
    go false e false d p n = r
