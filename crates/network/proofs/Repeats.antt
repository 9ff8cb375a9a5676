-- Lists without repeats: what is left of a list, and how many.
use mathlib.Core.Path.{◌≡◌, refl, sym, ap, ◌∙◌}
use mathlib.Core.Logic.{◌⊎◌, inl, inr}
use mathlib.Core.List.Memᴰ.{head as here}
use mathlib.Core.List.Memᴰ.{tail as there}
use mathlib.Core.List.{List, [], ◌∷◌, Memᴰ as Member}
use mathlib.Core.Bool.{Bool, true, false, cond, not, ◌||◌, true≢false}
use Prim.Native.Nat.{◌+◌, ◌≤◌, ◌<◌}
use native.Mathlib.Omega.{arith}
use lib.ListN.{length}
use Rattle.network.specs.Lists.{any, select, All, unique}
use Rattle.network.proofs.Tests.{or_split, or_join, is_false, same_test, cond_one}
use Rattle.network.proofs.Lists.{any_true, true_any, member_selected}
use Rattle.network.proofs.Sums.{sum_less, sum_ones, length_select}

-- fewer are left where those that pass a test are left out, and some do
fewer_left : {A : Type 0} (t : A → Bool) (l : List A) → any t l ≡ true → length (select (λ a. not (t a)) l) < length l
fewer_left t l h =
    let (a, m, e) = any_true t l h in
    let less : cond (not (t a)) 1 0 < 1 = rw e (omega arith) in
    omega (arith, length_select (λ b. not (t b)) l, sum_ones l, sum_less (λ b. cond (not (t b)) 1 0) (λ b. 1) {l = l} (λ b n. cond_one (not (t b))) m less)

module _ {A : Type 0} (same : A → A → Bool) where
  -- an element that comes again is left out, any other stays
  pub unique_one : (a : A) (l : List A) → length (unique same (a ∷ l)) ≡ cond (any (same a) l) 0 1 + length (unique same l)
  unfolding unique
  unique_one a l = go (any (same a) l)
    where
      go : (b : Bool) → length {A = A} (elim b as (λ u. List A) [ true ↦ unique same l | false ↦ a ∷ unique same l ]) ≡ cond b 0 1 + length (unique same l)
      go true = omega arith
      go false = omega arith

  -- what holds of all holds of those that are left
  pub unique_all : (P : A → Type 0) (l : List A) → All P l → All P (unique same l)
  unfolding unique
  unique_all P [] h = tt
  unique_all P (a ∷ l) h = go (any (same a) l) (unique_all P l h.1)
    where
      go : (b : Bool) → All P (unique same l) → All P (elim b as (λ u. List A) [ true ↦ unique same l | false ↦ a ∷ unique same l ])
      go true k = k
      go false k = (h.0, k)

  -- a test that does not tell the same apart passes for one of them exactly if it passes for one of all
  pub unique_any : (t : A → Bool) → ((a b : A) → same a b ≡ true → t a ≡ t b) → (l : List A) → any t (unique same l) ≡ any t l
  unfolding unique
  unique_any t alike [] = refl
  unique_any t alike (a ∷ l) = go (any (same a) l) refl (unique_any t alike l)
    where
      again : any (same a) l ≡ true → (t a ≡ true) ⊎ (any t l ≡ true) → any t l ≡ true
      again k (inl o) = let (b, m, i) = any_true (same a) l k in true_any t m (sym (alike a b i) ∙ o)
      again k (inr o) = o

      go : (b : Bool) → any (same a) l ≡ b → any t (unique same l) ≡ any t l
          → any t (elim b as (λ u. List A) [ true ↦ unique same l | false ↦ a ∷ unique same l ]) ≡ t a || any t l
      go true k e = e ∙ same_test (any t l) (t a || any t l) (λ o. or_join (t a) (any t l) (inr o)) (λ o. again k (or_split (t a) (any t l) o))
      go false k e = ap (λ b. t a || b) e

  -- They are no more than any others among which each of them has its like, if what is like one thing is alike. Take an element away, and all that is like it
  -- from the others: the rest, which are not like it, still find theirs.
  pub unique_most : ((a b c : A) → same a c ≡ true → same b c ≡ true → same a b ≡ true) → (l others : List A)
      → ((a : A) → Member a l → any (same a) others ≡ true) → length (unique same l) ≤ length others
  unfolding unique
  unique_most alike [] others h = omega arith
  unique_most alike (a ∷ l) others h = go (any (same a) l) refl (unique_most alike l)
    where
      rest : List A
      rest = select (λ c. not (same a c)) others

      keeps : any (same a) l ≡ false → (b : A) → Member b l → any (same b) rest ≡ true
      keeps e b m =
          let (c, o, k) = any_true (same b) others (h b (there m)) in
          let apart : same a c ≡ false = is_false (same a c) (λ i. true≢false (sym (true_any (same a) m (alike a b c i k)) ∙ e)) in
          true_any (same b) (member_selected (λ c. not (same a c)) others o (rw apart)) k

      go : (b : Bool) → any (same a) l ≡ b → ((k : List A) → ((b : A) → Member b l → any (same b) k ≡ true) → length (unique same l) ≤ length k)
          → length {A = A} (elim b as (λ u. List A) [ true ↦ unique same l | false ↦ a ∷ unique same l ]) ≤ length others
      go true e most = most others (λ b m. h b (there m))
      go false e most = omega (arith, most rest (keeps e), fewer_left (same a) others (h a (here refl)))
