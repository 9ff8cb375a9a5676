-- Tests over lists, by membership.
use mathlib.Core.Path.{◌≡◌, refl, sym, ap, ap₂, ◌∙◌, subst}
use mathlib.Core.Logic.{◌⊎◌, inl, inr, ⊎_elim}
use mathlib.Core.List.Memᴰ
use mathlib.Core.List.Memᴰ.{head as here}
use mathlib.Core.List.Memᴰ.{tail as there}
use mathlib.Core.List.{List, [], ◌∷◌, ◌++◌, map, map-append, flatten, flat_map, Memᴰ as Member}
use mathlib.Core.Bool.{Bool, true, false, ◌&&◌, ◌||◌, or_assoc, true≢false, false≢true}
use Prim.Native.Nat.{ℕ, zero, suc, ◌≤◌, ◌<◌}
use native.Mathlib.Nat.{eq-or-lt_of_le}
use native.Mathlib.Omega.{arith}
use lib.ListN.{length, get_or, replicate}
use Rattle.network.specs.Lists.{any, every, All, Paired, select, each}
use Rattle.network.proofs.Tests.{and_split, and_join, or_split, or_join, neither}

-- where some element passes a test there is one that does, and back
pub any_true : {A : Type 0} (t : A → Bool) (l : List A) → any t l ≡ true → (a : A) × Member a l × (t a ≡ true)
any_true t [] h = absurd (false≢true h)
any_true {A} t (a ∷ l) h = go (or_split (t a) (any t l) h) (any_true t l)
  where
    go : (t a ≡ true) ⊎ (any t l ≡ true) → (any t l ≡ true → (b : A) × Member b l × (t b ≡ true)) → (b : A) × Member b (a ∷ l) × (t b ≡ true)
    go (inl k) rest = (a, here refl, k)
    go (inr k) rest = let (b, m, e) = rest k in (b, there m, e)

-- and back
pub true_any : {A : Type 0} (t : A → Bool) {a : A} {l : List A} → Member a l → t a ≡ true → any t l ≡ true
true_any t (here {x} {xs} e) h = or_join (t x) (any t xs) (inl (ap t (sym e) ∙ h))
true_any t (there {x} {xs} m) h = or_join (t x) (any t xs) (inr (true_any t m h))

-- tests that are equal at every element give equal answers
pub any_cong : {A : Type 0} (s t : A → Bool) (l : List A) → ((a : A) → Member a l → s a ≡ t a) → any s l ≡ any t l
any_cong s t [] h = refl
any_cong s t (a ∷ l) h = ap₂ ◌||◌ (h a (here refl)) (any_cong s t l (λ b m. h b (there m)))

-- an element of the lists f 0, f 1, .., one after the other, is an element of one of them, and back
pub each_member : {A : Type 0} {a : A} (n : ℕ) (f : ℕ → List A) → Member a (each n f) → (i : ℕ) × (i < n) × Member a (f i)
each_member zero f m = absurd (Memᴰ.not-nil m)
each_member {A} {a} (suc n) f m = go (Memᴰ.append_cases (each n f) m) (each_member n f)
  where
    go : Member a (each n f) ⊎ Member a (f n) → (Member a (each n f) → (i : ℕ) × (i < n) × Member a (f i)) → (i : ℕ) × (i < suc n) × Member a (f i)
    go (inl k) rest = let (i, l, o) = rest k in (i, omega arith, o)
    go (inr k) rest = (n, omega arith, k)

-- and back
pub member_each : {A : Type 0} {a : A} (n : ℕ) (f : ℕ → List A) (i : ℕ) → i < n → Member a (f i) → Member a (each n f)
member_each zero f i h m = absurd (omega arith)
member_each {A} {a} (suc n) f i h m = go (eq-or-lt_of_le k) (member_each n f i)
  where
    k : i ≤ n
    k = omega arith

    go : (i ≡ n) ⊎ (i < n) → (i < n → Member a (f i) → Member a (each n f)) → Member a (each n f ++ f n)
    go (inl e) rest = Memᴰ.append_right (each n f) (subst (λ j. Member a (f j)) e m)
    go (inr l) rest = Memᴰ.append_left (f n) (rest l m)

-- where no element passes, each fails
pub any_false : {A : Type 0} (t : A → Bool) {a : A} {l : List A} → any t l ≡ false → Member a l → t a ≡ false
any_false t h (here {x} {xs} e) = ap t e ∙ (neither (t x) (any t xs) h).0
any_false t h (there {x} {xs} m) = any_false t (neither (t x) (any t xs) h).1 m

-- what holds of all elements holds of each
pub all_member : {A : Type 0} (P : A → Type 0) {a : A} {l : List A} → All P l → Member a l → P a
all_member P h (here e) = subst P (sym e) h.0
all_member P h (there m) = all_member P h.1 m

-- every element passes a test exactly if each does
pub every_true : {A : Type 0} (t : A → Bool) {a : A} {l : List A} → every t l ≡ true → Member a l → t a ≡ true
every_true t h (here {x} {xs} e) = ap t e ∙ (and_split (t x) (every t xs) h).0
every_true t h (there {x} {xs} m) = every_true t (and_split (t x) (every t xs) h).1 m

-- and back
pub true_every : {A : Type 0} (t : A → Bool) (l : List A) → ((a : A) → Member a l → t a ≡ true) → every t l ≡ true
true_every t [] h = refl
true_every t (a ∷ l) h = and_join (t a) (every t l) (h a (here refl)) (true_every t l (λ b m. h b (there m)))

-- where not every one passes, one fails
pub every_fails : {A : Type 0} (t : A → Bool) (l : List A) → every t l ≡ false → (a : A) × Member a l × (t a ≡ false)
every_fails t [] h = absurd (true≢false h)
every_fails {A} t (a ∷ l) h = go (t a) refl h (every_fails t l)
  where
    go : (b : Bool) → t a ≡ b → b && every t l ≡ false → (every t l ≡ false → (c : A) × Member c l × (t c ≡ false)) → (c : A) × Member c (a ∷ l) × (t c ≡ false)
    go true e k rest = let (c, m, f) = rest k in (c, there m, f)
    go false e k rest = (a, here refl, e)

-- an element is selected exactly if it is in the list and passes the test
pub selected_member : {A : Type 0} {a : A} (t : A → Bool) (l : List A) → Member a (select t l) → Member a l × (t a ≡ true)
selected_member t [] m = absurd (Memᴰ.not-nil m)
selected_member {A} {a} t (b ∷ l) m = go (t b) refl m (selected_member t l)
  where
    go : (s : Bool) → t b ≡ s → Member a (elim s as (λ u. List A) [ true ↦ b ∷ select t l | false ↦ select t l ])
        → (Member a (select t l) → Member a l × (t a ≡ true)) → Member a (b ∷ l) × (t a ≡ true)
    go true e k rest = ⊎_elim (λ d. (here d, ap t d ∙ e)) (λ o. (there (rest o).0, (rest o).1)) (Memᴰ.cases_cons k)
    go false e k rest = (there (rest k).0, (rest k).1)

-- and back
pub member_selected : {A : Type 0} {a : A} (t : A → Bool) (l : List A) → Member a l → t a ≡ true → Member a (select t l)
member_selected t [] m h = absurd (Memᴰ.not-nil m)
member_selected {A} {a} t (b ∷ l) m h = go (t b) refl (Memᴰ.cases_cons m) (λ o. member_selected t l o h)
  where
    go : (s : Bool) → t b ≡ s → (a ≡ b) ⊎ Member a l → (Member a l → Member a (select t l))
        → Member a (elim s as (λ u. List A) [ true ↦ b ∷ select t l | false ↦ select t l ])
    go true e (inl d) rest = here d
    go true e (inr o) rest = there (rest o)
    go false e (inl d) rest = absurd (true≢false (sym h ∙ ap t d ∙ e))
    go false e (inr o) rest = rest o

-- an element has an index, and back
pub member_index : {A : Type 0} {a : A} {l : List A} (d : A) → Member a l → (i : ℕ) × (i < length l) × (get_or l i d ≡ a)
member_index d (here e) = (0, omega arith, sym e)
member_index d (there m) = let (i, h, e) = member_index d m in (suc i, omega arith, e)

-- and back
pub index_member : {A : Type 0} (d : A) (l : List A) (i : ℕ) → i < length l → Member (get_or l i d) l
index_member d [] i h = absurd (omega arith)
index_member d (a ∷ l) zero h = here refl
index_member d (a ∷ l) (suc i) h = there (index_member d l i (omega arith))

-- a list that has one thing alone has it at each index
pub get_or_nothing : {A : Type 0} (d : A) (n j : ℕ) → get_or (replicate n d) j d ≡ d
get_or_nothing d zero j = refl
get_or_nothing d (suc n) zero = refl
get_or_nothing d (suc n) (suc j) = get_or_nothing d n j

-- ---- chosen elements

-- an element that is kept or left out
abbrev pub kept : {A : Type 0} → Bool → A → List A → List A
kept true a l = a ∷ l
kept false a l = l

-- one element more, which is kept or left out
pub select_cons : {A : Type 0} (t : A → Bool) (a : A) (l : List A) → select t (a ∷ l) ≡ kept (t a) a (select t l)
select_cons {A} t a l = go (t a)
  where
    go : (b : Bool) → elim b as (λ u. List A) [ true ↦ a ∷ select t l | false ↦ select t l ] ≡ kept b a (select t l)
    go true = refl
    go false = refl

-- a choice of two lists
pub select_append : {A : Type 0} (t : A → Bool) (l k : List A) → select t (l ++ k) ≡ select t l ++ select t k
select_append t [] k = refl
select_append {A} t (a ∷ l) k = select_cons t a (l ++ k) ∙ go (t a) (select_append t l k) ∙ sym (ap (λ (m : List A). m ++ select t k) (select_cons t a l))
  where
    go : (b : Bool) → select t (l ++ k) ≡ select t l ++ select t k → kept b a (select t (l ++ k)) ≡ kept b a (select t l) ++ select t k
    go true e = ap (λ (m : List A). a ∷ m) e
    go false e = e

-- ---- lists of lists

-- some element of two lists
pub any_append : {A : Type 0} (t : A → Bool) (l k : List A) → any t (l ++ k) ≡ any t l || any t k
any_append t [] k = refl
any_append t (a ∷ l) k = ap (λ b. t a || b) (any_append t l k) ∙ sym (or_assoc (t a) (any t l) (any t k))

-- some element of many
pub any_flat_map : {A B : Type 0} (t : B → Bool) (f : A → List B) (l : List A) → any t (flat_map f l) ≡ any (λ a. any t (f a)) l
unfolding flat_map
any_flat_map t f [] = refl
any_flat_map t f (a ∷ l) = any_append t (f a) (flat_map f l) ∙ ap (λ b. any t (f a) || b) (any_flat_map t f l)

-- of the lists of a list
pub any_flatten : {A : Type 0} (t : A → Bool) (l : List (List A)) → any t (flatten l) ≡ any (any t) l
unfolding flatten
any_flatten t [] = refl
any_flatten t (a ∷ l) = any_append t a (flatten l) ∙ ap (λ b. any t a || b) (any_flatten t l)

-- what holds of the elements of both
pub all_append : {A : Type 0} (P : A → Type 0) (l k : List A) → All P l → All P k → All P (l ++ k)
all_append P [] k a b = b
all_append P (x ∷ l) k a b = (a.0, all_append P l k a.1 b)

-- of all
pub all_flatten : {A : Type 0} (P : A → Type 0) (l : List (List A)) → All (All P) l → All P (flatten l)
unfolding flatten
all_flatten P [] a = tt
all_flatten P (k ∷ l) a = all_append P k (flatten l) a.0 (all_flatten P l a.1)

-- of all that is made of the elements of a list
pub all_flat_map : {A B : Type 0} (P : A → Type 0) (Q : B → Type 0) (f : A → List B) → ((a : A) → P a → All Q (f a)) → (l : List A) → All P l → All Q (flat_map f l)
unfolding flat_map
all_flat_map P Q f h [] a = tt
all_flat_map P Q f h (x ∷ l) a = all_append Q (f x) (flat_map f l) (h x a.0) (all_flat_map P Q f h l a.1)

-- joining mapped lists is mapping the joined list
pub flatten_map : {A B : Type 0} (f : A → B) (l : List (List A)) → flatten (map (map f) l) ≡ map f (flatten l)
unfolding flatten
flatten_map f [] = refl
flatten_map f (k ∷ l) = rw (map-append f k (flatten l), flatten_map f l)

-- and what is made of mapped elements is mapped, if that of each is
pub flat_map_map : {A B C D : Type 0} (P : A → Type 0) (f : A → B) (m : C → D) (s : A → List C) (t : B → List D)
    → ((a : A) → P a → t (f a) ≡ map m (s a)) → (l : List A) → All P l → flat_map t (map f l) ≡ map m (flat_map s l)
unfolding flat_map
flat_map_map P f m s t h [] a = refl
flat_map_map P f m s t h (x ∷ l) a = ap₂ ◌++◌ (h x a.0) (flat_map_map P f m s t h l a.1) ∙ sym (map-append m (s x) (flat_map s l))

-- ---- mapped lists

-- some element of a mapped list
pub any_map : {A B : Type 0} (t : B → Bool) (f : A → B) (l : List A) → any t (map f l) ≡ any (λ a. t (f a)) l
any_map t f [] = refl
any_map t f (a ∷ l) = ap (λ b. t (f a) || b) (any_map t f l)

-- what holds of all in turn holds of what they are mapped to
pub all_map : {A B : Type 0} (P : A → Type 0) (Q : B → Type 0) (f : A → B) → ((a : A) → P a → Q (f a)) → (l : List A) → All P l → All Q (map f l)
all_map P Q f h [] a = tt
all_map P Q f h (x ∷ l) a = (h x a.0, all_map P Q f h l a.1)

-- and what follows from it holds of themselves
pub all_imp : {A : Type 0} (P Q : A → Type 0) → ((a : A) → P a → Q a) → (l : List A) → All P l → All Q l
all_imp P Q h [] a = tt
all_imp P Q h (x ∷ l) a = (h x a.0, all_imp P Q h l a.1)

-- ---- two lists of one length

-- what holds of pairs in turn holds of them with the second mapped
pub paired_map : {A B C : Type 0} (P : A → B → Type 0) (Q : A → C → Type 0) (f : B → C) (l : List A) (k : List B)
    → ((a : A) (b : B) → Member a l → P a b → Q a (f b)) → Paired P l k → Paired Q l (map f k)
paired_map {A = A} {B = B} {C = C} P Q f [] (b ∷ k) h p = elim p [ ]
paired_map {A = A} {B = B} {C = C} P Q f (a ∷ l) [] h p = elim p [ ]
paired_map P Q f [] [] h p = tt
paired_map P Q f (a ∷ l) (b ∷ k) h p = (h a b (here refl) p.0, paired_map P Q f l k (λ c d m. h c d (there m)) p.1)

-- or of the second alone
pub paired_all : {A B : Type 0} (P : A → B → Type 0) (Q : B → Type 0) (l : List A) (k : List B) → ((a : A) (b : B) → P a b → Q b) → Paired P l k → All Q k
paired_all {A = A} {B = B} P Q [] (b ∷ k) h p = elim p [ ]
paired_all {A = A} {B = B} P Q (a ∷ l) [] h p = elim p [ ]
paired_all P Q [] [] h p = tt
paired_all P Q (a ∷ l) (b ∷ k) h p = (h a b p.0, paired_all P Q l k h p.1)
