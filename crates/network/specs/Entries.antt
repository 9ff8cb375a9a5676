-- Checked, nothing to believe: the list f 0, .., f (n - 1) has n entries, and f i at the index i. So the numbers below n rise, as a grid's lines
-- have to.
use Rattle.std.specs.Prelude.{◌≡◌, refl, ◌⊎◌, [], ◌∷◌, ◌++◌, ℕ, zero, suc, ◌<◌, length, get_or}
use Rattle.std.proofs.Common.{sym, ap, ◌∙◌, inl, inr, eq-or-lt_of_le, le_of_suc-le-suc, not-suc-le-zero, arith, length-append}
use Rattle.std.proofs.Math.ListN.{get_or-append}
use Rattle.std.proofs.lemmas.List.{get_or_at}
use Rattle.network.specs.Lists.{each}
use Rattle.network.specs.Grid.{Rising}
use Rattle.network.specs.Graph.{below}

module _ {A : Type 0} (f : ℕ → A) where
  -- there are n entries
  pub length_table : (n : ℕ) → length (each n (λ i. f i ∷ [])) ≡ n
  length_table zero = refl
  length_table (suc n) = length-append (each n (λ i. f i ∷ [])) (f n ∷ []) ∙ omega (arith, length_table n)

  -- entry i
  pub get_or_table : (n i : ℕ) (d : A) → i < n → get_or (each n (λ i. f i ∷ [])) i d ≡ f i
  get_or_table zero i d h = absurd (not-suc-le-zero h)
  get_or_table (suc n) i d h = go (λ k. get_or_table n i d k) (eq-or-lt_of_le (le_of_suc-le-suc h))
    where
      go : (i < n → get_or (each n (λ j. f j ∷ [])) i d ≡ f i) → (i ≡ n) ⊎ (i < n) → get_or (each n (λ j. f j ∷ []) ++ (f n ∷ [])) i d ≡ f i
      go ih (inl e) = get_or_at (each n (λ j. f j ∷ [])) (f n) [] d i (length_table n ∙ sym e) ∙ ap f (sym e)
      go ih (inr k) = get_or-append (each n (λ j. f j ∷ [])) (f n ∷ []) d i (omega (arith, length_table n)) ∙ ih k

-- the numbers below n are n
pub length_below : (n : ℕ) → length (below n) ≡ n
length_below n = length_table (λ i. i) n

-- each stands at its own index
pub below_at : (n i : ℕ) → i < n → get_or (below n) i 0 ≡ i
below_at n i h = get_or_table (λ i. i) n i 0 h

-- so they rise
pub below_rises : (n : ℕ) → Rising (below n)
below_rises n i h =
    let k : suc i < n = omega (arith, length_below n) in
    omega (arith, below_at n i (omega arith), below_at n (suc i) k)
