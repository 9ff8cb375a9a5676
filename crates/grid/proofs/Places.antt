-- The position of a line among rising lines is the number of lines below it; the edges between neighbouring lines have a length.
use mathlib.Core.Path.{◌≡◌, refl, sym, ap, ap₂, ◌∙◌, subst}
use mathlib.Core.Bool.{Bool, true, false, cond}
use mathlib.Core.Logic.{◌⊎◌, inl, inr}
use mathlib.Core.List.{List}
use Prim.Native.Nat.{ℕ, zero, suc, pred, ◌+◌, ◌-◌, ◌≤◌, ◌<◌}
use native.Mathlib.Nat.{le_refl}
use native.Mathlib.Numerals.{add-one}
use native.Mathlib.Omega.{arith}
use lib.Dec.{ltb}
use lib.ListN.{length, get_or, take}
use lib.Seq.{get_or-take}
use mir.Val.{bool_byte}
use borrow.Author.Tests.{lt-ltb, le-ltb}
use Rattle.network.specs.Lists.{count}
use Rattle.network.specs.Grid.{Grid, Rising, len, across_at, upward_at}
use Rattle.network.specs.Route.{Listed}
use Rattle.network.specs.Graph.{below}
use Rattle.network.proofs.Numbers.{order}
use Rattle.network.proofs.Sums.{count_below, count_le}
use Rattle.network.proofs.Rising.{rising_le, index_le as index-order}
use Rattle.grid.specs.Tables.{table, padded}
use Rattle.grid.specs.declared.Axis.{Axis}
use Rattle.grid.specs.Lines.{axis_of, RisingTo, index_of, length_at}
use Rattle.grid.proofs.Tables.{get_or_padded, table_same}

-- ---- counting

-- tests that are equal below n count the same
pub count_same : (s t : ℕ → Bool) (n : ℕ) → ((i : ℕ) → i < n → s i ≡ t i) → count s (below n) ≡ count t (below n)
count_same s t zero h = refl
count_same s t (suc n) h =
    count_below s n ∙ ap₂ (λ (k : ℕ) (b : Bool). k + cond b 1 0) (count_same s t n (λ i k. h i (omega arith))) (h n (le_refl (suc n))) ∙ sym (count_below t n)

-- ---- the loop's steps

-- no line is below v among none
pub index_none : (l : List ℕ) (v : ℕ) → index_of l 0 v ≡ 0
unfolding index_of
index_none l v = refl

-- the next line counts where it is below v
index_step : (l : List ℕ) (n v : ℕ) → index_of l (n + 1) v ≡ index_of l n v + cond (ltb (get_or l n 0) v) 1 0
unfolding index_of
index_step l n v = ap (λ k. index_of l k v) (add-one n) ∙ count_below (λ i. ltb (get_or l i 0) v) n

-- a byte that says whether something holds counts it
pub byte_is : (t : Bool) → bool_byte t ≡ cond t 1 0
byte_is true = refl
byte_is false = refl

-- and is no more than 1
pub byte_le : (t : Bool) → bool_byte t ≤ 1
byte_le true = le_refl 1
byte_le false = omega arith

-- a counter of such lines, which gains what a byte says of the next one
pub index_counted : (l : List ℕ) (n v k b : ℕ) → k ≡ index_of l n v → b ≡ bool_byte (ltb (get_or l n 0) v) → k + b ≡ index_of l (n + 1) v
index_counted l n v k b p q = ap₂ (λ (x y : ℕ). x + y) p (q ∙ byte_is (ltb (get_or l n 0) v)) ∙ sym (index_step l n v)

-- the next line is below v
index_more : (l : List ℕ) (n v : ℕ) → get_or l n 0 < v → index_of l (n + 1) v ≡ index_of l n v + 1
index_more l n v h = index_step l n v ∙ ap (λ b. index_of l n v + cond b 1 0) (lt-ltb (get_or l n 0) v h)

-- the next line is not below v
index_still : (l : List ℕ) (n v : ℕ) → v ≤ get_or l n 0 → index_of l (n + 1) v ≡ index_of l n v
index_still l n v h = index_step l n v ∙ ap (λ b. index_of l n v + cond b 1 0) (le-ltb (get_or l n 0) v h) ∙ omega arith

-- no more lines are below v than there are
pub index_le : (l : List ℕ) (n v : ℕ) → index_of l n v ≤ n
unfolding index_of
index_le l n v = count_le (λ i. ltb (get_or l i 0) v) n

-- so many of the first n lines are below v: all were passed, one after the other
pub index_passed : (l : List ℕ) (n i v k : ℕ) → i ≡ n → k ≡ index_of (take n l) i v → k ≡ index_of l n v
unfolding index_of
index_passed l n i v k e p =
    p ∙ ap (λ (m : ℕ). index_of (take n l) m v) e ∙ count_same _ _ n (λ j h. ap (λ (x : ℕ). ltb x v) (get_or-take n l j 0 h))

-- ---- what it means

-- v has k lines before it: the first k lines are below v, and the next one, if there is one, is not
pub record Parts (l : List ℕ) (n v k : ℕ) : Type 0 where
  pub under : (i : ℕ) → i < k → get_or l i 0 < v
  pub next : k < n → v ≤ get_or l k 0

module _ (l : List ℕ) (r : Rising l) where
  -- where the lines rise, the lines below v are the first ones
  pub index_parts : (n v : ℕ) → n ≤ length l → Parts l n v (index_of l n v)
  index_parts zero v h = record { under = λ i k. absurd (omega (arith, index_none l v)); next = λ k. absurd (omega arith) }
  index_parts (suc n) v h =
      subst (λ m. Parts l m v (index_of l m v)) (add-one n) (go (order v (get_or l n 0)) (order n (index_of l n v)) (index_parts n v (omega arith)))
    where
      go : (v ≤ get_or l n 0) ⊎ (get_or l n 0 < v) → (n ≤ index_of l n v) ⊎ (index_of l n v < n) → Parts l n v (index_of l n v)
          → Parts l (n + 1) v (index_of l (n + 1) v)
      go (inl o) (inl q) p =
          let e : index_of l n v ≡ n = omega (arith, index_le l n v) in
          rw (index_still l n v o) (record { under = p.under; next = λ k. rw e o })
      go (inl o) (inr q) p = rw (index_still l n v o) (record { under = p.under; next = λ k. p.next q })
      go (inr o) (inl q) p =
          let e : index_of l n v ≡ n = omega (arith, index_le l n v) in
          rw (index_more l n v o, e) (record { under = λ i k. below_all i k (order n i); next = λ k. absurd (omega arith) })
        where
          below_all : (i : ℕ) → i < n + 1 → (n ≤ i) ⊎ (i < n) → get_or l i 0 < v
          below_all i k (inl m) =
              let e : i ≡ n = omega arith in
              rw e o
          below_all i k (inr m) = p.under i (omega arith)
      go (inr o) (inr q) p = absurd (omega (arith, p.next q, rising_le l r (index_of l n v) n (omega arith) (omega arith)))

-- an array that holds lines counts as they do
pub index_padded : (l : List ℕ) (v : ℕ) → index_of (padded 64 l) (length l) v ≡ index_of l (length l) v
unfolding index_of
index_padded l v = count_same _ _ (length l) (λ k o. ap (λ x. ltb x v) (get_or_padded 64 l k o))

-- where v is line i, its position is i
index_is : (l : List ℕ) → Rising l → (i : ℕ) → i < length l → index_of (padded 64 l) (length l) (get_or l i 0) ≡ i
index_is l r i h =
    let k = index_of l (length l) (get_or l i 0) in
    index_padded l (get_or l i 0) ∙ go k (order k i) (index_parts l r (length l) (get_or l i 0) (le_refl (length l)))
  where
    go : (k : ℕ) → (k ≤ i) ⊎ (i < k) → Parts l (length l) (get_or l i 0) k → k ≡ i
    go k (inl o) p = omega (arith, index-order l r i k h (p.next (omega arith)))
    go k (inr o) p = absurd (omega (arith, p.under i o))

-- ---- an axis that holds rising lines

module _ (a : Axis) (l : List ℕ) (e : a ≡ axis_of l) where
  -- its words are the lines
  pub axis_line : (i : ℕ) → i < length l → get_or a.lines i 0 ≡ get_or l i 0
  axis_line i h = ap (λ (b : Axis). get_or b.lines i 0) e ∙ get_or_padded 64 l i h

  -- and so is their number
  pub axis_count : a.count ≡ length l
  axis_count = ap (λ (b : Axis). b.count) e

  module _ (r : Rising l) where
    -- they rise
    pub axis_rises : RisingTo a.lines a.count
    axis_rises i h = omega (arith, axis_count, r i (omega (arith, axis_count)), axis_line i (omega (arith, axis_count)), axis_line (suc i) (omega (arith, axis_count)))

    -- the position of line i is i
    pub position_is : (i : ℕ) → i < length l → index_of a.lines a.count (get_or l i 0) ≡ i
    position_is i h = ap (λ (b : Axis). index_of b.lines b.count (get_or l i 0)) e ∙ index_is l r i h

    -- the line at the position of a listed value is the value again
    pub position_line : (v : ℕ) → Listed l v → (index_of a.lines a.count v < length l) × (get_or l (index_of a.lines a.count v) 0 ≡ v)
    position_line v (i, h, q) =
        let p : index_of a.lines a.count v ≡ i = ap (index_of a.lines a.count) (sym q) ∙ position_is i h in
        (omega arith, ap (λ k. get_or l k 0) p ∙ q)

  -- the lengths of the edges between neighbouring lines
  pub axis_lengths : table (length_at a.lines) (pred a.count) ≡ table (length_at l) (pred (length l))
  axis_lengths =
      ap (λ n. table (length_at a.lines) (pred n)) axis_count
      ∙ table_same (length_at a.lines) (length_at l) (pred (length l)) (λ i h. ap₂ (λ x y. x - y) (axis_line (suc i) (omega arith)) (axis_line i (omega arith)))

-- an edge has a length
pub length_positive : (l : List ℕ) → Rising l → (i : ℕ) → suc i < length l → 0 < length_at l i
length_positive l r i h = omega (arith, r i h)

-- which is at most the coordinate where it ends
pub length_at_most : (l : List ℕ) (i m : ℕ) → get_or l (suc i) 0 ≤ m → length_at l i ≤ m
length_at_most l i m h = omega arith

-- the lengths of the grid's edges along the rows
pub across_length : (g : Grid) (i j : ℕ) → len (across_at g i j) ≡ length_at g.columns i
unfolding len
across_length g i j = refl

-- and of those along the columns
pub upward_length : (g : Grid) (i j : ℕ) → len (upward_at g i j) ≡ length_at g.rows j
unfolding len
upward_length g i j = refl
