-- The numbers below n in parts: k is in the part of `rep k`, which stands for itself. A sum over all numbers is the sum over the parts.
-- And rising lists: what is chosen of one rises.
use mathlib.Core.Path.{◌≡◌, refl, sym, ap, ap₂, ◌∙◌}
use mathlib.Core.List.{List, [], ◌∷◌, Memᴰ as Member}
use mathlib.Core.Bool.{Bool, true, false, cond}
use Prim.Native.Nat.{ℕ, zero, suc, ◌+◌, ◌≤◌, ◌<◌}
use native.Mathlib.Nat.{add-zero}
use native.Mathlib.Numerals.{add-one}
use native.Mathlib.Omega.{arith}
use lib.Dec.{eqb}
use lib.ListN.{length, get_or}
use borrow.Author.Tests.{eqb-true, eq-eqb, ne_eqb}
use Rattle.network.specs.Lists.{sum, select}
use Rattle.network.specs.Grid.{Rising}
use Rattle.network.specs.Graph.{below}
use Rattle.network.specs.Entries.{below_rises}
use Rattle.network.proofs.Sums.{sum_cong, sum_swap, sum_append, sum_select, sum_ones, sum_one, cond_sum, length_select, count_le}
use Rattle.network.proofs.Lists.{selected_member, member_selected, index_member}
use Rattle.network.proofs.Rising.{rising_head, rising_tail}
use Rattle.network.proofs.Leaves.{below_member, member_below}
use Rattle.groups.specs.Groups.{heads}

-- ---- rising lists

-- a number below all of a rising list may stand before it
rising_cons : (a : ℕ) (l : List ℕ) → ((d : ℕ) → Member d l → a < d) → Rising l → Rising (a ∷ l)
rising_cons a l h r zero k = h (get_or l 0 0) (index_member 0 l 0 (omega arith))
rising_cons a l h r (suc i) k = r i (omega arith)

-- what a rising list keeps rises
pub select_rises : (t : ℕ → Bool) (l : List ℕ) → Rising l → Rising (select t l)
select_rises t [] r = r
select_rises t (a ∷ l) r = go (t a) (select_rises t l (rising_tail a l r))
  where
    go : (b : Bool) → Rising (select t l) → Rising (elim b as (λ u. List ℕ) [ true ↦ a ∷ select t l | false ↦ select t l ])
    go true s = rising_cons a (select t l) (λ d m. rising_head a l r d (selected_member t l m).0) s
    go false s = s

-- ---- parts

-- the numbers for which r stands
unfoldable pub part_of : (ℕ → ℕ) → ℕ → ℕ → List ℕ
part_of rep n r = select (λ k. eqb (rep k) r) (below n)

-- a number that stands for itself
pub head_of : (rep : ℕ → ℕ) (n r : ℕ) → Member r (heads rep n) → (r < n) × (rep r ≡ r)
unfolding heads
head_of rep n r m =
    let (k, t) = selected_member (λ i. eqb (rep i) i) (below n) m in
    (below_member n r k, eqb-true (rep r) r t)

-- r stands for what is in its part
pub part_of_lem : (rep : ℕ → ℕ) (n r k : ℕ) → Member k (part_of rep n r) → (k < n) × (rep k ≡ r)
unfolding part_of
part_of_lem rep n r k m =
    let (i, t) = selected_member (λ k. eqb (rep k) r) (below n) m in
    (below_member n k i, eqb-true (rep k) r t)

-- and what it stands for is in it
pub of_part : (rep : ℕ → ℕ) (n r k : ℕ) → k < n → rep k ≡ r → Member k (part_of rep n r)
unfolding part_of
of_part rep n r k h e = member_selected (λ k. eqb (rep k) r) (below n) (member_below n k h) (eq-eqb (rep k) r e)

-- a part rises
pub part_rises : (rep : ℕ → ℕ) (n r : ℕ) → Rising (part_of rep n r)
unfolding part_of
part_rises rep n r = select_rises (λ k. eqb (rep k) r) (below n) (below_rises n)

-- a sum over a part is one over all numbers, in which the others count 0
pub part_sum : (rep : ℕ → ℕ) (n r : ℕ) (f : ℕ → ℕ) → sum f (part_of rep n r) ≡ sum (λ k. cond (eqb (rep k) r) (f k) 0) (below n)
unfolding part_of
part_sum rep n r f = sum_select (λ k. eqb (rep k) r) f (below n)

-- one number more, as a loop meets it
pub heads_next : (rep : ℕ → ℕ) (n : ℕ) (f : ℕ → ℕ) → sum f (heads rep (suc n)) ≡ sum f (heads rep n) + cond (eqb (rep n) n) (f n) 0
unfolding heads
heads_next rep n f =
    sum_select (λ i. eqb (rep i) i) f (below (suc n)) ∙ sum_append (λ i. cond (eqb (rep i) i) (f i) 0) (below n) (n ∷ [])
    ∙ ap₂ ◌+◌ (sym (sum_select (λ i. eqb (rep i) i) f (below n))) (add-zero (cond (eqb (rep n) n) (f n) 0))

-- no more stand for themselves than there are
pub heads_most : (rep : ℕ → ℕ) (n : ℕ) → length (heads rep n) ≤ n
unfolding heads
heads_most rep n = omega (arith, length_select (λ i. eqb (rep i) i) (below n), count_le (λ i. eqb (rep i) i) n)

-- so many do, as a loop counts them
pub heads_none : (rep : ℕ → ℕ) → 0 ≡ length (heads rep 0)
unfolding heads
heads_none rep = refl

pub heads_more : (rep : ℕ → ℕ) (i a b : ℕ) → a ≡ length (heads rep i) → b ≡ cond (eqb (rep i) i) 1 0 → a + b ≡ length (heads rep (i + 1))
heads_more rep i a b e p =
    omega (arith, heads_next rep i (λ c. 1), sum_ones (heads rep (suc i)), sum_ones (heads rep i), ap (λ n. length (heads rep n)) (add-one i))

-- 0 is 0 on either side
pub cond_zero : (b : Bool) → cond {A = ℕ} b 0 0 ≡ 0
cond_zero true = refl
cond_zero false = refl

module _ (rep : ℕ → ℕ) (n : ℕ) (listed : (k : ℕ) → k < n → rep k < n) (own : (k : ℕ) → k < n → rep (rep k) ≡ rep k) where
  -- LAW: each number counts in one part
  pub sum_parts : (f : ℕ → ℕ → ℕ) → sum (λ r. sum (λ k. cond (eqb (rep k) r) (f r k) 0) (below n)) (heads rep n) ≡ sum (λ k. f (rep k) k) (below n)
  unfolding heads
  sum_parts f =
      sum_select (λ r. eqb (rep r) r) (λ r. sum (λ k. cond (eqb (rep k) r) (f r k) 0) (below n)) (below n)
      ∙ sum_cong _ _ (below n) (λ r m. cond_sum (eqb (rep r) r) (λ k. cond (eqb (rep k) r) (f r k) 0) (below n))
      ∙ sum_swap term (below n) (below n)
      ∙ sum_cong (λ k. sum (term k) (below n)) (λ k. f (rep k) k) (below n) (λ k m. one k (below_member n k m))
    where
      term : ℕ → ℕ → ℕ
      term k r = cond (eqb (rep r) r) (cond (eqb (rep k) r) (f r k) 0) 0

      one : (k : ℕ) → k < n → sum (term k) (below n) ≡ f (rep k) k
      one k h =
          sum_one (term k) n (rep k) (listed k h) (λ r l d. rw (ne_eqb (rep k) r (λ e. d (sym e))) (cond_zero (eqb (rep r) r)))
          ∙ rw (eq-eqb (rep (rep k)) (rep k) (own k h), eq-eqb (rep k) (rep k) refl)
