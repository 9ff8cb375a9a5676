-- Tests over lists and over the numbers below n: chosen elements, every element, the first that passes.
use mathlib.Core.Path.{◌≡◌, refl, sym, ap, ap₂, ◌∙◌}
use mathlib.Core.Bool.{Bool, true, false, not, ◌&&◌, ◌||◌, and_assoc, and-true}
use mathlib.Core.Logic.{◌⊎◌, inl, inr}
use mathlib.Core.List.Memᴰ.{head as here}
use mathlib.Core.List.Memᴰ.{tail as there}
use mathlib.Core.List.{List, [], ◌∷◌, ◌++◌, Memᴰ as Member}
use Prim.Native.Nat.{ℕ, zero, suc, ◌<◌}
use native.Mathlib.Nat.{eq-or-lt_of_le, le_of_suc-le-suc, not-suc-le-zero}
use native.Mathlib.Omega.{arith}
use Rattle.network.specs.Lists.{every, select}
use Rattle.network.specs.Graph.{below}
use Rattle.network.proofs.Lists.{kept, select_cons, select_append}
use Rattle.network.proofs.Leaves.{below_member}

-- ---- chosen elements

-- tests that are equal at every element choose the same
pub select_cong : {A : Type 0} (f g : A → Bool) (l : List A) → ((a : A) → Member a l → f a ≡ g a) → select f l ≡ select g l
select_cong f g [] h = refl
select_cong {A} f g (a ∷ l) h =
    select_cons f a l ∙ ap₂ (λ (b : Bool) (k : List A). kept b a k) (h a (here refl)) (select_cong f g l (λ b m. h b (there m))) ∙ sym (select_cons g a l)

-- where none passes none is chosen
pub select_none : {A : Type 0} (f : A → Bool) (l : List A) → ((a : A) → Member a l → f a ≡ false) → select f l ≡ []
select_none f [] h = refl
select_none {A} f (a ∷ l) h = select_cons f a l ∙ ap₂ (λ (b : Bool) (k : List A). kept b a k) (h a (here refl)) (select_none f l (λ b m. h b (there m)))

-- every chosen element passes
pub every_select : {A : Type 0} (f t : A → Bool) (l : List A) → every f (select t l) ≡ every (λ a. not (t a) || f a) l
every_select f t [] = refl
every_select {A} f t (a ∷ l) = ap (every f) (select_cons t a l) ∙ go (t a) (every_select f t l)
  where
    go : (b : Bool) → every f (select t l) ≡ every (λ c. not (t c) || f c) l → every f (kept b a (select t l)) ≡ (not b || f a) && every (λ c. not (t c) || f c) l
    go true e = ap (λ (r : Bool). f a && r) e
    go false e = e

-- ---- every element

-- every element of two lists
pub every_append : {A : Type 0} (f : A → Bool) (l k : List A) → every f (l ++ k) ≡ every f l && every f k
every_append f [] k = refl
every_append f (a ∷ l) k = ap (λ (r : Bool). f a && r) (every_append f l k) ∙ sym (and_assoc (f a) (every f l) (every f k))

-- tests that are equal at every element give equal answers
pub every_cong : {A : Type 0} (f g : A → Bool) (l : List A) → ((a : A) → Member a l → f a ≡ g a) → every f l ≡ every g l
every_cong f g [] h = refl
every_cong f g (a ∷ l) h = ap₂ ◌&&◌ (h a (here refl)) (every_cong f g l (λ b m. h b (there m)))

-- ---- the numbers below n

-- one number more
pub every_below : (f : ℕ → Bool) (n : ℕ) → every f (below (suc n)) ≡ every f (below n) && f n
every_below f n = every_append f (below n) (n ∷ []) ∙ ap (λ (r : Bool). every f (below n) && r) (and-true (f n))

-- and choose the same
pub select_same : (f g : ℕ → Bool) (n : ℕ) → ((j : ℕ) → j < n → f j ≡ g j) → select f (below n) ≡ select g (below n)
select_same f g n h = select_cong f g (below n) (λ j m. h j (below_member n j m))

-- the first that passes
pub select_first : (f : ℕ → Bool) (n m : ℕ) → m < n → f m ≡ true → ((j : ℕ) → j < m → f j ≡ false) → (rest : List ℕ) × (select f (below n) ≡ m ∷ rest)
select_first f zero m h t e = absurd (not-suc-le-zero h)
select_first f (suc n) m h t e = go (eq-or-lt_of_le (le_of_suc-le-suc h)) (λ k. select_first f n m k t e)
  where
    go : (m ≡ n) ⊎ (m < n) → (m < n → (rest : List ℕ) × (select f (below n) ≡ m ∷ rest)) → (rest : List ℕ) × (select f (below (suc n)) ≡ m ∷ rest)
    go (inl k) ih = (
      [],
      select_append f (below n) (n ∷ [])
          ∙ ap₂ ◌++◌ (select_none f (below n) (λ j l. e j (omega (arith, below_member n j l))))
          (select_cons f n [] ∙ ap (λ (b : Bool). kept b n []) (ap f (sym k) ∙ t) ∙ ap (λ (i : ℕ). i ∷ []) (sym k)),
    )
    go (inr k) ih =
        let (rest, p) = ih k in
        (rest ++ select f (n ∷ []), select_append f (below n) (n ∷ []) ∙ ap (λ (l : List ℕ). l ++ select f (n ∷ [])) p)
