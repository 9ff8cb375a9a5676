-- What is measured, one place and one row more, and how much it is at most.
use mathlib.Core.Path.{◌≡◌, refl, sym, ap, ◌∙◌}
use mathlib.Core.Bool.{Bool, true, false, not, cond}
use mathlib.Core.List.{List}
use Prim.Native.Nat.{ℕ, suc, ◌+◌, ◌*◌, ◌≤◌}
use native.Mathlib.Numerals.{add-one}
use native.Mathlib.Omega.{arith}
use borrow.Author.Tests.{eq-eqb, ne_eqb}
use lib.ListN.{get_or}
use Rattle.network.specs.Lists.{sum}
use Rattle.network.specs.Graph.{below}
use Rattle.network.proofs.Sums.{sum_below, sum_to_most, count_le}
use Rattle.measure.specs.Marks.{is_marked}
use Rattle.measure.specs.Measured.{Short, row_trench, trench_in, pit_in, row_pits, pits_in}

-- one number more
sum_more : (f : ℕ → ℕ) (n : ℕ) → sum f (below (n + 1)) ≡ sum f (below n) + f n
sum_more f n = ap (λ m. sum f (below m)) (add-one n) ∙ sum_below f (suc n) ∙ ap (λ m. m + f n) (sym (sum_below f n))

-- so many terms of at most c
sum_most : (c : ℕ) (f : ℕ → ℕ) (n : ℕ) → ((i : ℕ) → f i ≤ c) → sum f (below n) ≤ n * c
sum_most c f n h = rw (sum_below f n) (sum_to_most n c f (λ i l. h i))

-- what counts
pub counts : (b : Bool) (n : ℕ) → b ≡ true → cond b n 0 ≡ n
counts b n e = ap (λ c. cond c n 0) e

-- and what does not
pub counts_not : (b : Bool) (n : ℕ) → b ≡ false → cond b n 0 ≡ 0
counts_not b n e = ap (λ c. cond c n 0) e

-- what may count is no more
pub counts_most : (b : Bool) (n : ℕ) → n ≤ 2000000 → cond b n 0 ≤ 2000000
counts_most true n h = h
counts_most false n h = omega arith

-- a mark counts
pub mark_counts : (ms : List ℕ) (m n : ℕ) → (get_or ms m 0 ≡ 0 → ⊥) → cond (is_marked ms m) n 0 ≡ n
unfolding is_marked
mark_counts ms m n h = counts (is_marked ms m) n (ap not (ne_eqb (get_or ms m 0) 0 h))

-- and no mark does not
pub mark_counts_not : (ms : List ℕ) (m n : ℕ) → get_or ms m 0 ≡ 0 → cond (is_marked ms m) n 0 ≡ 0
unfolding is_marked
mark_counts_not ms m n h = counts_not (is_marked ms m) n (ap not (eq-eqb (get_or ms m 0) 0 h))

-- ---- the length of the edges

module _ (right up widths : List ℕ) where
  -- of none
  pub row_trench_none : (height row : ℕ) → row_trench right up widths height row 0 ≡ 0
  unfolding row_trench
  row_trench_none height row = refl

  -- one vertex more
  pub row_trench_more : (height row i : ℕ)
      → row_trench right up widths height row (i + 1)
      ≡ row_trench right up widths height row i + (cond (is_marked right (row * 64 + i)) (get_or widths i 0) 0 + cond (is_marked up (row * 64 + i)) height 0)
  unfolding row_trench
  row_trench_more height row i =
      sum_more (λ i. cond (is_marked right (row * 64 + i)) (get_or widths i 0) 0 + cond (is_marked up (row * 64 + i)) height 0) i

  -- at most twice 2,000,000 a vertex
  pub row_trench_most : (height row n : ℕ) → Short widths → height ≤ 2000000 → row_trench right up widths height row n ≤ n * 4000000
  unfolding row_trench
  row_trench_most height row n s h =
      sum_most 4000000 (λ i. cond (is_marked right (row * 64 + i)) (get_or widths i 0) 0 + cond (is_marked up (row * 64 + i)) height 0) n
      (λ i. omega (arith, counts_most (is_marked right (row * 64 + i)) (get_or widths i 0) (s i), counts_most (is_marked up (row * 64 + i)) height h))

  -- in no row
  pub trench_none : (across : ℕ) (heights : List ℕ) → trench_in right up widths across heights 0 ≡ 0
  unfolding trench_in
  trench_none across heights = refl

  -- one row more
  pub trench_more : (across : ℕ) (heights : List ℕ) (j : ℕ)
      → trench_in right up widths across heights (j + 1) ≡ trench_in right up widths across heights j + row_trench right up widths (get_or heights j 0) j across
  unfolding trench_in
  trench_more across heights j = sum_more (λ j. row_trench right up widths (get_or heights j 0) j across) j

-- ---- pits

module _ (corners right up : List ℕ) where
  -- at no vertex
  pub row_pits_none : (row : ℕ) → row_pits corners right up row 0 ≡ 0
  unfolding row_pits
  row_pits_none row = refl

  -- one vertex more
  pub row_pits_more : (row i : ℕ) → row_pits corners right up row (i + 1) ≡ row_pits corners right up row i + cond (pit_in corners right up (row * 64 + i)) 1 0
  unfolding row_pits
  row_pits_more row i = sum_more (λ i. cond (pit_in corners right up (row * 64 + i)) 1 0) i

  -- no more than vertices
  pub row_pits_most : (row n : ℕ) → row_pits corners right up row n ≤ n
  unfolding row_pits
  row_pits_most row n = count_le (λ i. pit_in corners right up (row * 64 + i)) n

  -- in no row
  pub pits_none : (across : ℕ) → pits_in corners right up across 0 ≡ 0
  unfolding pits_in
  pits_none across = refl

  -- one row more
  pub pits_more : (across j : ℕ) → pits_in corners right up across (j + 1) ≡ pits_in corners right up across j + row_pits corners right up j across
  unfolding pits_in
  pits_more across j = sum_more (λ j. row_pits corners right up j across) j
