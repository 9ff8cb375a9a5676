-- Laws of the walk back: the choice of a direction, the leaf that an edge is shared with, and the arrays that hold the moves.
use mathlib.Core.Path.{◌≡◌, refl, sym, ap, ap₂, ◌∙◌}
use mathlib.Core.Logic.{◌⊎◌, inl, inr}
use mathlib.Core.Bool.{Bool, true, false, cond, ◌&&◌, ◌||◌}
use mathlib.Core.List.{List, [], ◌∷◌, ◌++◌, reverse, reverse-cons}
use Prim.Native.Nat.{ℕ, suc, pred, ◌+◌, ◌-◌, ◌%◌, ◌^◌, ◌≤◌, ◌<◌}
use native.Mathlib.Nat.{mod-eq_of_lt}
use native.Mathlib.Omega.{arith}
use lib.Dec.{eqb, ltb}
use lib.Count.{trailing_le}
use lib.ListN.{length, get_or, set, length-set}
use lib.Seq.{get_or-set_same, get_or-set_other}
use borrow.Author.Tests.{ltb-true, eqb-true, eqb-false}
use Rattle.network.proofs.Tests.{and_split, or_split}
use Rattle.sharing.specs.Trace.{Move}
use Rattle.grid.specs.Tables.{table}
use Rattle.intersection.specs.Sets.{members}
use Rattle.intersection.proofs.Members.{lowest_is}
use Rattle.table.specs.declared.frame.Line.{Line}
use Rattle.table.specs.Frame.{Group}
use Rattle.table.specs.declared.trace.Taken.{Taken}
use Rattle.table.specs.Rule.{pair_of, edge_by}
use Rattle.table.specs.Walk.{before_of, arrive_of, arrive_at, up_no, share_no, move_by, walk, begin, move_at}

-- ---- the choice of a direction

-- where the walk goes back along a column, there is one
pub up_true : (v : Bool) (a b : ℕ) → 0 < a + b → (v && ltb 0 b || eqb a 0) ≡ true → 1 ≤ b
up_true v a b h e = go (or_split (v && ltb 0 b) (eqb a 0) e)
  where
    go : (v && ltb 0 b ≡ true) ⊎ (eqb a 0 ≡ true) → 1 ≤ b
    go (inl f) = ltb-true 0 b (and_split v (ltb 0 b) f).1
    go (inr f) = omega (arith, eqb-true a 0 f)

-- and so where it goes back along a row
pub up_false : (v : Bool) (a b : ℕ) → (v && ltb 0 b || eqb a 0) ≡ false → 1 ≤ a
up_false v a b e = go (v && ltb 0 b) e
  where
    go : (x : Bool) → (x || eqb a 0) ≡ false → 1 ≤ a
    go true f = let z : ◌≡◌ {A = ℕ} 0 1 = cc in omega arith
    go false f = let n = eqb-false a 0 f in omega arith

-- ---- the leaf that an edge is shared with

-- it is below 32, or 32
pub lowest_le : (s : ℕ) → s < 2 ^ 32 → get_or (members s) 0 32 ≤ 32
lowest_le s h = rw (← lowest_is s h) (trailing_le 32 s)

-- so a byte holds it
pub lowest_byte : (s n : ℕ) → s < 2 ^ 32 → n ≡ get_or (members s) 0 32 → n % 256 ≡ get_or (members s) 0 32
lowest_byte s n h e = let l = lowest_le s h in mod-eq_of_lt (omega arith) ∙ e

-- ---- the edges along and across, by the direction

module _ (words : List ℕ) (p : ℕ) (col row : Line) (t : Taken) (cross : ℕ) where
  -- where the walk goes up
  pub arrive_up : t.ver ≡ true
      → arrive_of words p col row t cross ≡ before_of t (edge_by (pair_of words p 1) row col) (edge_by (pair_of words p 0) col row) cross
  unfolding arrive_of
  arrive_up h =
      ap (λ v. cond v (before_of t (edge_by (pair_of words p 1) row col) (edge_by (pair_of words p 0) col row) cross)
      (before_of t (edge_by (pair_of words p 0) col row) (edge_by (pair_of words p 1) row col) cross)) h

  -- where it goes right
  pub arrive_right : t.ver ≡ false
      → arrive_of words p col row t cross ≡ before_of t (edge_by (pair_of words p 0) col row) (edge_by (pair_of words p 1) row col) cross
  unfolding arrive_of
  arrive_right h =
      ap (λ v. cond v (before_of t (edge_by (pair_of words p 1) row col) (edge_by (pair_of words p 0) col row) cross)
      (before_of t (edge_by (pair_of words p 0) col row) (edge_by (pair_of words p 1) row col) cross)) h

-- ---- the arrays that hold the moves

-- From i on the arrays hold the moves behind the vertex in column a and row b: whatever moves lead there from the first point, with these they are
-- the whole walk of n moves.
pub record Held (g : Group) (words : List ℕ) (n : ℕ) (a b : ℕ) (steps shares : List ℕ) (t : Taken) (i : ℕ) : Type 0 where
  pub column : a < g.w
  pub row : b < g.h
  pub left : a + b ≡ i
  pub steps_size : length steps ≡ 128
  pub shares_size : length shares ≡ 128
  pub whole : (f : ℕ → Move) → ((j : ℕ) → i ≤ j → f j ≡ move_at steps shares j) → table f i ≡ reverse (walk g words i t a b)
      → table f n ≡ reverse (walk g words n begin (pred g.w) (pred g.h))

-- one move more
pub held_more : (g : Group) (words : List ℕ) (n a b : ℕ) (steps shares : List ℕ) (t u : Taken) (i k m : ℕ) → i < 128
    → u ≡ arrive_at g words t a b → k ≡ up_no u.ver a b → k ≤ b → 1 - k ≤ a → k ≤ 1 → m ≡ share_no u g.cross
    → Held g words n a b steps shares t (suc i) → Held g words n (a - (1 - k)) (b - k) (set steps i k) (set shares i m) u i
unfolding walk
held_more g words n a b steps shares t u i k m l e c h h' o d r =
    record {
      column = omega (arith, r.column);
      row = omega (arith, r.row);
      left = omega (arith, r.left);
      steps_size = length-set steps i k ∙ r.steps_size;
      shares_size = length-set shares i m ∙ r.shares_size;
      whole = λ f same is. r.whole f
          (λ j z. same j (omega arith) ∙ ap₂ move_by (get_or-set_other steps i j k 0 (λ y. omega arith)) (get_or-set_other shares i j m 0 (λ y. omega arith)))
          (ap₂ (λ p q. p ++ (q ∷ [])) is (same i (omega arith) ∙ here)
          ∙ sym (reverse-cons (move_by k m) (walk g words i u (a - (1 - k)) (b - k))) ∙ ap reverse on);
    }
  where
    here : move_at (set steps i k) (set shares i m) i ≡ move_by k m
    here =
        let x : i < length steps = omega (arith, r.steps_size) in
        let y : i < length shares = omega (arith, r.shares_size) in
        ap₂ move_by (get_or-set_same steps i k 0 x) (get_or-set_same shares i m 0 y)

    on : move_by k m ∷ walk g words i u (a - (1 - k)) (b - k) ≡ walk g words (suc i) t a b
    on = rw (d, c, e)

-- at the first point the arrays hold the whole walk
pub held_all : (g : Group) (words : List ℕ) (n a b : ℕ) (steps shares : List ℕ) (t : Taken) → Held g words n a b steps shares t 0
    → table (move_at steps shares) n ≡ reverse (walk g words n begin (pred g.w) (pred g.h))
unfolding walk
held_all g words n a b steps shares t r = r.whole (move_at steps shares) (λ j h. refl) refl
