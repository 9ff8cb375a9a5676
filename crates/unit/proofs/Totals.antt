-- Sums over the numbers below a bound: stretches of them, and the same pairs counted in two ways.
-- Nothing in this file knows of grids or paths.
use mathlib.Core.Path.{◌≡◌, refl, sym, ap, ◌∙◌}
use mathlib.Core.Logic.{◌⊎◌, inl, inr}
use mathlib.Core.List.{List, Memᴰ as Member}
use mathlib.Core.Bool.{Bool, true, false, cond}
use Prim.Native.Nat.{ℕ, zero, suc, ◌+◌, ◌*◌, ◌≤◌, ◌<◌}
use native.Mathlib.Nat.{add-zero, add-suc, zero-mul, suc-mul}
use native.Mathlib.Omega.{arith}
use borrow.Author.Tests.{eq-eqb, ne_eqb}
use lib.Dec.{eqb}
use Rattle.network.specs.Lists.{sum, count}
use Rattle.network.specs.Graph.{below}
use Rattle.network.proofs.Tests.{is_false, cond_one}
use Rattle.network.proofs.Numbers.{order}
use Rattle.network.proofs.Sums.{sum_le, sum_term, sum_to, sum_to_zero, sum_to_one, sum_to_le, sum_to_sum, sum_below, one_term}
use Rattle.network.proofs.Counting.{count_times}

-- ---- stretches of a sum

-- k terms from a on, none below c
pub sum_to_flat : (c a k : ℕ) (f : ℕ → ℕ) → ((x : ℕ) → a ≤ x → x < a + k → c ≤ f x) → sum_to a f + k * c ≤ sum_to (a + k) f
sum_to_flat c a zero f h = omega (arith, zero-mul c, ap (λ n. sum_to n f) (add-zero a))
sum_to_flat c a (suc k) f h =
    rw add-suc
    (omega (arith, suc-mul k c, sum_to_flat c a k f (λ x l m. h x l (omega arith)), h (a + k) (omega arith) (omega arith)))

-- from t 0 to t 1, from t 1 to t 2, ..: what is at most the sum over each stretch is together at most the sum over all
pub stretches : (t a f : ℕ → ℕ) (n : ℕ) → ((i : ℕ) → i < n → sum_to (t i) f + a i ≤ sum_to (t (suc i)) f) → sum_to n a ≤ sum_to (t n) f
stretches t a f zero h = omega arith
stretches t a f (suc n) h = omega (arith, stretches t a f n (λ i l. h i (omega arith)), h n (omega arith))

-- ---- sums of tests

-- the same number for each that passes
pub sum_to_times : (n c : ℕ) (p : ℕ → Bool) → sum_to n (λ j. cond (p j) c 0) ≡ c * sum_to n (λ j. cond (p j) 1 0)
sum_to_times n c p =
    sym (sum_below (λ j. cond (p j) c 0) n) ∙ count_times p c (below n) ∙ ap (λ k. c * k) (sum_below (λ j. cond (p j) 1 0) n)

-- none passes
pub none_passes : (n : ℕ) (t : ℕ → Bool) → ((i : ℕ) → t i ≡ true → ⊥) → sum_to n (λ i. cond (t i) 1 0) ≡ 0
none_passes n t h = sum_to_zero n _ (λ i l. ap {B = ℕ} (λ b. cond b 1 0) (is_false (t i) (h i)))

-- at most one does
pub one_passes : (n a : ℕ) (t : ℕ → Bool) → ((i : ℕ) → t i ≡ true → i ≡ a) → sum_to n (λ i. cond (t i) 1 0) ≤ 1
one_passes n a t h =
    one_term (λ i. cond (t i) 1 0) 1 n (λ k l p. cond_one (t k)) (λ j k l m p q. h j (passes (t j) p) ∙ sym (h k (passes (t k) q)))
  where
    passes : (b : Bool) → 0 < cond b 1 0 → b ≡ true
    passes true k = refl
    passes false k = absurd (omega arith)

-- Each number below k that passes the first test has an element that passes the second and leads to it: there are no more of those numbers than of
-- those elements. Count the pairs of an element that passes and the number to which it leads: each element is in at most one of them, and each number
-- that passes in at least one.
pub fewer : {A : Type 0} (k : ℕ) (l : List A) (line : A → ℕ) (p : ℕ → Bool) (q : A → Bool)
    → ((j : ℕ) → j < k → p j ≡ true → (a : A) × Member a l × (line a ≡ j) × (q a ≡ true)) → sum_to k (λ j. cond (p j) 1 0) ≤ count q l
fewer {A} k l line p q found =
    omega (
      arith,
      sum_to_le k (λ j. cond (p j) 1 0) (λ j. sum (pair j) l) (λ j h. some j h (p j) refl),
      sum_to_sum k pair l,
      sum_le (λ a. sum_to k (λ j. pair j a)) (λ a. cond (q a) 1 0) l (λ a m. single a (order k (line a))),
    )
  where
    pair : ℕ → A → ℕ
    pair j a = cond (eqb (line a) j) (cond (q a) 1 0) 0

    some : (j : ℕ) → j < k → (b : Bool) → p j ≡ b → cond b 1 0 ≤ sum (pair j) l
    some j h true e =
        let (a, m, t, d) = found j h e in
        let one : pair j a ≡ 1 = rw (eq-eqb (line a) j t, d) in
        omega (arith, sum_term (pair j) m)
    some j h false e = omega arith

    single : (a : A) → (k ≤ line a) ⊎ (line a < k) → sum_to k (λ j. pair j a) ≤ cond (q a) 1 0
    single a (inl h) = omega (arith, sum_to_zero k (λ j. pair j a) (λ j l. rw (ne_eqb (line a) j (λ e. omega arith))))
    single a (inr h) =
        let one : pair (line a) a ≡ cond (q a) 1 0 = rw (eq-eqb (line a) (line a) refl) in
        omega (arith, sum_to_one k (line a) (λ j. pair j a) h (λ j l n. rw (ne_eqb (line a) j (λ e. n (sym e)))))
