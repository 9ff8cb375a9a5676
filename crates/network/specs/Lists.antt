-- Sums and tests over lists: what the definitions of the network are written with.
use Rattle.std.specs.Prelude.{List, [], ◌∷◌, ◌++◌, Bool, true, false, cond, ◌&&◌, ◌||◌, ℕ, zero, suc, ◌+◌}

-- the sum of f over the elements
abbrev pub sum : {A : Type 0} → (A → ℕ) → List A → ℕ
sum f [] = 0
sum f (a ∷ l) = f a + sum f l

-- some element passes the test
abbrev pub any : {A : Type 0} → (A → Bool) → List A → Bool
any t [] = false
any t (a ∷ l) = t a || any t l

-- every element passes the test
abbrev pub every : {A : Type 0} → (A → Bool) → List A → Bool
every t [] = true
every t (a ∷ l) = t a && every t l

-- how many elements pass the test
abbrev pub count : {A : Type 0} → (A → Bool) → List A → ℕ
count t l = sum (λ a. cond (t a) 1 0) l

-- the elements that pass the test, in their order
abbrev pub select : {A : Type 0} → (A → Bool) → List A → List A
select t [] = []
select t (a ∷ l) = elim (t a) [ true ↦ a ∷ select t l | false ↦ select t l ]

-- every element has the property
abbrev pub All : {A : Type 0} → (A → Type 0) → List A → Type 0
All P [] = Unit {0}
All P (a ∷ l) = P a × All P l

-- the lists have one length, and what stands at one place in both has the property
abbrev pub Paired : {A B : Type 0} → (A → B → Type 0) → List A → List B → Type 0
Paired P [] [] = Unit {0}
Paired P [] (b ∷ k) = ⊥
Paired P (a ∷ l) [] = ⊥
Paired P (a ∷ l) (b ∷ k) = P a b × Paired P l k

-- a list without repeats: an element is left out where the same comes again
unfoldable pub unique : {A : Type 0} → (A → A → Bool) → List A → List A
unique same [] = []
unique same (a ∷ l) = elim (any (same a) l) [ true ↦ unique same l | false ↦ a ∷ unique same l ]

-- the lists f 0, f 1, .., f (n - 1), one after the other
abbrev pub each : {A : Type 0} → ℕ → (ℕ → List A) → List A
each zero f = []
each (suc n) f = each n f ++ f n
