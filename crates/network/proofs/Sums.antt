-- Sums over lists, and over the numbers below a bound.
use mathlib.Core.Path.{◌≡◌, refl, sym, ap, ap₂, ◌∙◌}
use mathlib.Core.Bool.{Bool, true, false, cond}
use mathlib.Core.List.Memᴰ.{head as here}
use mathlib.Core.List.Memᴰ.{tail as there}
use mathlib.Core.List.{List, [], ◌∷◌, ◌++◌, map, flat_map, Memᴰ as Member}
use Prim.Native.Nat.{ℕ, zero, suc, ◌+◌, ◌*◌, ◌≤◌, ◌<◌}
use native.Mathlib.Nat.{suc-mul, le_refl}
use native.Mathlib.Decide.{ℕ_discrete, dec_lt}
use native.Mathlib.Omega.{arith}
use lib.ListN.{length, get_or, length-append}
use Rattle.network.specs.Lists.{sum, count, select, each}
use Rattle.network.specs.Graph.{below}

-- ---- over the elements of a list

-- terms that are equal at every element have equal sums
pub sum_cong : {A : Type 0} (f g : A → ℕ) (l : List A) → ((a : A) → Member a l → f a ≡ g a) → sum f l ≡ sum g l
sum_cong f g [] h = refl
sum_cong f g (a ∷ l) h = ap₂ ◌+◌ (h a (here refl)) (sum_cong f g l (λ b m. h b (there m)))

-- terms that are no greater have no greater sum
pub sum_le : {A : Type 0} (f g : A → ℕ) (l : List A) → ((a : A) → Member a l → f a ≤ g a) → sum f l ≤ sum g l
sum_le f g [] h = omega arith
sum_le f g (a ∷ l) h = omega (arith, h a (here refl), sum_le f g l (λ b m. h b (there m)))

-- sums of sums
pub sum_add : {A : Type 0} (f g : A → ℕ) (l : List A) → sum (λ a. f a + g a) l ≡ sum f l + sum g l
sum_add f g [] = omega arith
sum_add f g (a ∷ l) = omega (arith, sum_add f g l)

-- a sum of nothing
pub sum_zero : {A : Type 0} (l : List A) → sum (λ a. 0) l ≡ 0
sum_zero [] = refl
sum_zero (a ∷ l) = omega (arith, sum_zero l)

-- a sum of sums, in the other order
pub sum_swap : {A B : Type 0} (f : A → B → ℕ) (l : List A) (k : List B) → sum (λ b. sum (λ a. f a b) l) k ≡ sum (λ a. sum (f a) k) l
sum_swap f [] k = sum_zero k
sum_swap f (a ∷ l) k = omega (arith, sum_add (f a) (λ b. sum (λ c. f c b) l) k, sum_swap f l k)

-- the sum over two lists, one after the other
pub sum_append : {A : Type 0} (f : A → ℕ) (l k : List A) → sum f (l ++ k) ≡ sum f l + sum f k
sum_append f [] k = omega arith
sum_append f (a ∷ l) k = omega (arith, sum_append f l k)

-- a condition on a sum is one on its terms
pub cond_sum : {A : Type 0} (b : Bool) (f : A → ℕ) (l : List A) → cond b (sum f l) 0 ≡ sum (λ a. cond b (f a) 0) l
cond_sum true f l = refl
cond_sum false f l = sym (sum_zero l)

-- a sum, so many times
pub sum_times : {A : Type 0} (n : ℕ) (f : A → ℕ) (l : List A) → n * sum f l ≡ sum (λ a. n * f a) l
sum_times n f [] = omega arith
sum_times n f (a ∷ l) = omega (arith, sum_times n f l)

-- terms that are no greater, and one that is less
pub sum_less : {A : Type 0} (f g : A → ℕ) {a : A} {l : List A} → ((b : A) → Member b l → f b ≤ g b) → Member a l → f a < g a → sum f l < sum g l
sum_less f g h (here {x} {xs} e) k = omega (arith, ap f e, ap g e, sum_le f g xs (λ b m. h b (there m)))
sum_less f g h (there {x} {xs} m) k = omega (arith, h x (here refl), sum_less f g (λ b o. h b (there o)) m k)

-- one term of a sum
pub sum_term : {A : Type 0} (f : A → ℕ) {a : A} {l : List A} → Member a l → f a ≤ sum f l
sum_term f (here e) = omega (arith, ap f e)
sum_term f (there m) = omega (arith, sum_term f m)

-- the sum over what is chosen
pub sum_select : {A : Type 0} (t : A → Bool) (f : A → ℕ) (l : List A) → sum f (select t l) ≡ sum (λ a. cond (t a) (f a) 0) l
sum_select t f [] = refl
sum_select {A} t f (a ∷ l) = go (t a) (sum_select t f l)
  where
    go : (b : Bool) → sum f (select t l) ≡ sum (λ a. cond (t a) (f a) 0) l
        → sum f (elim b as (λ u. List A) [ true ↦ a ∷ select t l | false ↦ select t l ]) ≡ cond b (f a) 0 + sum (λ a. cond (t a) (f a) 0) l
    go true h = omega arith
    go false h = omega arith

-- the sum over what a list is mapped to
pub sum_map : {A B : Type 0} (f : B → ℕ) (h : A → B) (l : List A) → sum f (map h l) ≡ sum (λ a. f (h a)) l
sum_map f h [] = refl
sum_map f h (a ∷ l) = ap (λ n. f (h a) + n) (sum_map f h l)

-- a sum of ones
pub sum_ones : {A : Type 0} (l : List A) → sum (λ a. 1) l ≡ length l
sum_ones [] = refl
sum_ones (a ∷ l) = omega (arith, sum_ones l)

-- so many are chosen as pass
pub length_select : {A : Type 0} (t : A → Bool) (l : List A) → length (select t l) ≡ count t l
length_select t l = sym (sum_ones (select t l)) ∙ sum_select t (λ a. 1) l

-- lists one after the other are as long as they are together
pub length_flat_map : {A B : Type 0} (f : A → List B) (l : List A) → length (flat_map f l) ≡ sum (λ a. length (f a)) l
unfolding flat_map
length_flat_map f [] = refl
length_flat_map f (a ∷ l) = omega (arith, length-append (f a) (flat_map f l), length_flat_map f l)

-- ---- over 0, 1, .., n - 1

-- f 0 + f 1 + .. + f (n - 1)
abbrev pub sum_to : ℕ → (ℕ → ℕ) → ℕ
sum_to zero f = 0
sum_to (suc n) f = sum_to n f + f n

-- the sum over the lists k 0, k 1, .., one after the other
pub sum_each : {A : Type 0} (f : A → ℕ) (n : ℕ) (k : ℕ → List A) → sum f (each n k) ≡ sum_to n (λ i. sum f (k i))
sum_each f zero k = refl
sum_each f (suc n) k = omega (arith, sum_append f (each n k) (k n), sum_each f n k)

-- terms that are equal have equal sums
pub sum_to_cong : (n : ℕ) (f g : ℕ → ℕ) → ((i : ℕ) → i < n → f i ≡ g i) → sum_to n f ≡ sum_to n g
sum_to_cong zero f g h = refl
sum_to_cong (suc n) f g h = omega (arith, sum_to_cong n f g (λ i l. h i (omega arith)), h n (omega arith))

-- terms that are 0 have the sum 0
pub sum_to_zero : (n : ℕ) (f : ℕ → ℕ) → ((i : ℕ) → i < n → f i ≡ 0) → sum_to n f ≡ 0
sum_to_zero zero f h = refl
sum_to_zero (suc n) f h = omega (arith, sum_to_zero n f (λ i l. h i (omega arith)), h n (omega arith))

-- terms of at most c have a sum of at most n times c
pub sum_to_most : (n c : ℕ) (f : ℕ → ℕ) → ((i : ℕ) → i < n → f i ≤ c) → sum_to n f ≤ n * c
sum_to_most zero c f h = omega arith
sum_to_most (suc n) c f h = rw (suc-mul n c) (omega (arith, sum_to_most n c f (λ i l. h i (omega arith)), h n (omega arith)))

-- where one term alone is greater, by k
pub sum_to_more : (n a k : ℕ) (f g : ℕ → ℕ) → a < n → ((i : ℕ) → i < n → (i ≡ a → ⊥) → f i ≡ g i) → f a ≡ g a + k → sum_to n f ≡ sum_to n g + k
sum_to_more zero a k f g l h e = absurd (omega arith)
sum_to_more (suc n) a k f g l h e = go (ℕ_discrete a n) (sum_to_more n a k f g)
  where
    go : Dec (a ≡ n) → (a < n → ((i : ℕ) → i < n → (i ≡ a → ⊥) → f i ≡ g i) → f a ≡ g a + k → sum_to n f ≡ sum_to n g + k)
        → sum_to n f + f n ≡ sum_to n g + g n + k
    go (yes d) rest = omega (arith, sum_to_cong n f g (λ i m. h i (omega arith) (omega arith)), ap f d, ap g d)
    go (no d) rest = omega (arith, rest (omega arith) (λ i m. h i (omega arith)) e, h n (omega arith) (omega arith))

-- where one term alone is not 0
pub sum_to_one : (n j : ℕ) (f : ℕ → ℕ) → j < n → ((i : ℕ) → i < n → (i ≡ j → ⊥) → f i ≡ 0) → sum_to n f ≡ f j
sum_to_one n j f l h = omega (arith, sum_to_more n j (f j) f (λ i. 0) l h (omega arith), sum_to_zero n (λ i. 0) (λ i m. refl))

-- larger terms, a larger sum
pub sum_to_le : (n : ℕ) (f g : ℕ → ℕ) → ((i : ℕ) → i < n → f i ≤ g i) → sum_to n f ≤ sum_to n g
sum_to_le zero f g h = omega arith
sum_to_le (suc n) f g h = omega (arith, sum_to_le n f g (λ i l. h i (omega arith)), h n (omega arith))

-- the sum of two
pub sum_to_add : (n : ℕ) (f g : ℕ → ℕ) → sum_to n (λ i. f i + g i) ≡ sum_to n f + sum_to n g
sum_to_add zero f g = refl
sum_to_add (suc n) f g = omega (arith, sum_to_add n f g)

-- two sums may be taken in either order, over numbers or over a list
pub sum_to_swap : (n m : ℕ) (f : ℕ → ℕ → ℕ) → sum_to n (λ i. sum_to m (λ j. f i j)) ≡ sum_to m (λ j. sum_to n (λ i. f i j))
sum_to_swap zero m f = sym (sum_to_zero m _ (λ j l. refl))
sum_to_swap (suc n) m f = omega (arith, sum_to_swap n m f, sum_to_add m (λ j. sum_to n (λ i. f i j)) (λ j. f n j))

pub sum_to_sum : {A : Type 0} (n : ℕ) (f : ℕ → A → ℕ) (l : List A) → sum_to n (λ i. sum (f i) l) ≡ sum (λ a. sum_to n (λ i. f i a)) l
sum_to_sum zero f l = sym (sum_zero l)
sum_to_sum (suc n) f l = omega (arith, sum_to_sum n f l, sum_add (λ a. sum_to n (λ i. f i a)) (f n) l)

-- the same over pairs of numbers
pub double_zero : (n m : ℕ) (f : ℕ → ℕ → ℕ) → ((i j : ℕ) → i < n → j < m → f i j ≡ 0) → sum_to n (λ i. sum_to m (f i)) ≡ 0
double_zero n m f h = sum_to_zero n _ (λ i l. sum_to_zero m _ (λ j k. h i j l k))

-- equal terms
pub double_cong : (n m : ℕ) (f g : ℕ → ℕ → ℕ) → ((i j : ℕ) → i < n → j < m → f i j ≡ g i j) → sum_to n (λ i. sum_to m (f i)) ≡ sum_to n (λ i. sum_to m (g i))
double_cong n m f g h = sum_to_cong n (λ i. sum_to m (f i)) (λ i. sum_to m (g i)) (λ i l. sum_to_cong m (f i) (g i) (λ j k. h i j l k))

-- only one pair has a greater term
pub double_more : (n m a b k : ℕ) (f g : ℕ → ℕ → ℕ) → a < n → b < m → ((i j : ℕ) → i < n → j < m → (i ≡ a → j ≡ b → ⊥) → f i j ≡ g i j)
    → f a b ≡ g a b + k → sum_to n (λ i. sum_to m (f i)) ≡ sum_to n (λ i. sum_to m (g i)) + k
double_more n m a b k f g p q h e =
    sum_to_more n a k (λ i. sum_to m (f i)) (λ i. sum_to m (g i)) p (λ i l d. sum_to_cong m (f i) (g i) (λ j o. h i j l o (λ u v. d u)))
    (sum_to_more m b k (f a) (g a) q (λ j o d. h a j p o (λ u v. d v)) e)

-- only one pair counts
pub double_one : (n m a b : ℕ) (f : ℕ → ℕ → ℕ) → a < n → b < m → ((i j : ℕ) → i < n → j < m → (i ≡ a → j ≡ b → ⊥) → f i j ≡ 0)
    → sum_to n (λ i. sum_to m (f i)) ≡ f a b
double_one n m a b f p q h =
    omega (arith, double_more n m a b (f a b) f (λ i j. 0) p q h (omega arith), double_zero n m (λ i j. 0) (λ i j l k. refl))

-- ---- over the numbers below n, and by the numbers of a list's elements

-- the sum over the numbers below n
pub sum_below : (f : ℕ → ℕ) (n : ℕ) → sum f (below n) ≡ sum_to n f
sum_below f n = sum_each f n (λ i. i ∷ []) ∙ sum_to_cong n _ _ (λ i h. omega arith)

-- where one of them alone has a term
pub sum_one : (f : ℕ → ℕ) (n j : ℕ) → j < n → ((i : ℕ) → i < n → (i ≡ j → ⊥) → f i ≡ 0) → sum f (below n) ≡ f j
sum_one f n j h z = sum_below f n ∙ sum_to_one n j f h z

-- where at most one term is not 0, and that one is at most x, so is the sum
pub one_term : (f : ℕ → ℕ) (x n : ℕ) → ((k : ℕ) → k < n → 0 < f k → f k ≤ x) → ((j k : ℕ) → j < n → k < n → 0 < f j → 0 < f k → j ≡ k) → sum_to n f ≤ x
one_term f x zero h u = omega arith
one_term f x (suc n) h u = go (dec_lt 0 (f n)) (one_term f x n (λ k l. h k (omega arith)) (λ j k l m. u j k (omega arith) (omega arith)))
  where
    none : (k : ℕ) → k < n → 0 < f n → Dec (0 < f k) → f k ≡ 0
    none k l p (yes q) = absurd (omega (arith, u k n (omega arith) (omega arith) q p))
    none k l p (no q) = omega arith

    go : Dec (0 < f n) → sum_to n f ≤ x → sum_to n f + f n ≤ x
    go (yes p) r = omega (arith, sum_to_zero n f (λ k l. none k l p (dec_lt 0 (f k))), h n (omega arith) p)
    go (no p) r = omega arith

-- each term is at most the sum
pub term_le : (f : ℕ → ℕ) (n k : ℕ) → k < n → f k ≤ sum_to n f
term_le f zero k h = absurd (omega arith)
term_le f (suc n) k h = go (dec_lt k n) (term_le f n k)
  where
    go : Dec (k < n) → (k < n → f k ≤ sum_to n f) → f k ≤ sum_to n f + f n
    go (yes l) r = omega (arith, r l)
    go (no l) r = let e : k ≡ n = omega arith in rw e (omega arith)

-- the sum over a list is the sum over the numbers of its elements
pub sum_at : {A : Type 0} (f : A → ℕ) (l : List A) (z : A) → sum f l ≡ sum_to (length l) (λ k. f (get_or l k z))
sum_at f [] z = refl
sum_at {A} f (a ∷ l) z = ap (λ n. f a + n) (sum_at f l z) ∙ sym (front (length l) (λ k. f (get_or (a ∷ l) k z)))
  where
    front : (n : ℕ) (g : ℕ → ℕ) → sum_to (suc n) g ≡ g 0 + sum_to n (λ k. g (suc k))
    front zero g = omega arith
    front (suc n) g = omega (arith, front n g)

-- ---- counting

-- one number more
pub count_below : (t : ℕ → Bool) (n : ℕ) → count t (below (suc n)) ≡ count t (below n) + cond (t n) 1 0
count_below t n = sum_append (λ i. cond (t i) 1 0) (below n) (n ∷ []) ∙ omega arith

-- no more than there are
pub count_le : (t : ℕ → Bool) (n : ℕ) → count t (below n) ≤ n
count_le t zero = le_refl 0
count_le t (suc n) = rw count_below (go (t n) (count_le t n))
  where
    go : (b : Bool) → count t (below n) ≤ n → count t (below n) + cond b 1 0 ≤ suc n
    go true h = omega arith
    go false h = omega arith
