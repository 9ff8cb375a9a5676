-- Edges on pieces by the indexes of their lines: which edges of the grid lie on a straight piece between two places of one line.
use mathlib.Core.Path.{◌≡◌, ap, ap₂}
use mathlib.Core.Logic.{◌⊎◌, inl, inr}
use mathlib.Core.Bool.{false, ◌&&◌}
use mathlib.Core.List.{List}
use Prim.Native.Nat.{ℕ, suc, ◌≤◌, ◌<◌}
use native.Mathlib.Omega.{arith}
use borrow.Author.Tests.{eq-eqb, eqb-true}
use lib.Dec.{eqb}
use lib.ListN.{length, get_or}
use Rattle.network.specs.Plane.{Point, ◌to◌}
use Rattle.network.specs.Grid.{Rising, Grid, spans}
use Rattle.network.specs.Route.{level, lies}
use Rattle.network.specs.Steps.{Dir, hor, ver, other, vertex}
use Rattle.network.proofs.Tests.{same_test, is_false, level_true, true_level, Spans, spans_true, true_spans, lies_true}
use Rattle.network.proofs.Numbers.{order}
use Rattle.network.proofs.Rising.{rising_le, index_le, one_index}
use Rattle.measure.specs.Marks.{places, lines_along, edge_on}

-- the vertex at place k of line a
abbrev pub spot_on : Grid → Dir → ℕ → ℕ → Point
spot_on g hor a k = vertex g k a
spot_on g ver a k = vertex g a k

-- ---- on one line

module _ (l : List ℕ) (r : Rising l) where
  -- a way between two numbers of the list has a stretch between neighbours in it exactly if the way between their indexes has
  spans_there : (p q k : ℕ) → p < length l → q < length l → suc k < length l
      → Spans (get_or l p 0) (get_or l q 0) (get_or l k 0) (get_or l (suc k) 0) → Spans p q k (suc k)
  spans_there p q k hp hq hk s = go (order p q)
    where
      go : (p ≤ q) ⊎ (q < p) → Spans p q k (suc k)
      go (inl h) =
          let m = rising_le l r p q h hq in
          let a = index_le l r p k hp (omega (arith, s.low, m)) in
          let b = index_le l r (suc k) q hk (omega (arith, s.high, m)) in
          record { low = omega arith; high = omega arith }
      go (inr h) =
          let m = rising_le l r q p (omega arith) hp in
          let a = index_le l r q k hq (omega (arith, s.low, m)) in
          let b = index_le l r (suc k) p hk (omega (arith, s.high, m)) in
          record { low = omega arith; high = omega arith }

  -- and back
  spans_back : (p q k : ℕ) → p < length l → q < length l → suc k < length l → Spans p q k (suc k)
      → Spans (get_or l p 0) (get_or l q 0) (get_or l k 0) (get_or l (suc k) 0)
  spans_back p q k hp hq hk s = go (order p q)
    where
      go : (p ≤ q) ⊎ (q < p) → Spans (get_or l p 0) (get_or l q 0) (get_or l k 0) (get_or l (suc k) 0)
      go (inl h) =
          let a = rising_le l r p k (omega (arith, s.low)) (omega arith) in
          let b = rising_le l r (suc k) q (omega (arith, s.high)) hq in
          record { low = omega arith; high = omega arith }
      go (inr h) =
          let a = rising_le l r q k (omega (arith, s.low)) (omega arith) in
          let b = rising_le l r (suc k) p (omega (arith, s.high)) hp in
          record { low = omega arith; high = omega arith }

  -- so the tests agree
  spans_index : (p q k : ℕ) → p < length l → q < length l → suc k < length l
      → spans (get_or l p 0) (get_or l q 0) (get_or l k 0) (get_or l (suc k) 0) ≡ spans p q k (suc k)
  spans_index p q k hp hq hk =
      same_test (spans (get_or l p 0) (get_or l q 0) (get_or l k 0) (get_or l (suc k) 0)) (spans p q k (suc k))
      (λ t. true_spans p q k (suc k) (spans_there p q k hp hq hk (spans_true (get_or l p 0) (get_or l q 0) (get_or l k 0) (get_or l (suc k) 0) t)))
      (λ t. true_spans (get_or l p 0) (get_or l q 0) (get_or l k 0) (get_or l (suc k) 0) (spans_back p q k hp hq hk (spans_true p q k (suc k) t)))

  -- a number of the list is at another one exactly if their indexes are the same
  level_index : (b a : ℕ) → b < length l → a < length l → level (get_or l b 0) (get_or l b 0) (get_or l a 0) ≡ eqb b a
  level_index b a hb ha =
      same_test (level (get_or l b 0) (get_or l b 0) (get_or l a 0)) (eqb b a)
      (λ t. eq-eqb b a (one_index l r b a hb ha (level_true (get_or l b 0) (get_or l b 0) (get_or l a 0) t).first_at_lem))
      (λ t. let e = ap (λ i. get_or l i 0) (eqb-true b a t) in true_level (get_or l b 0) (get_or l b 0) (get_or l a 0) (record { first_at_lem = e; second_at_lem = e }))

-- ---- on the grid

-- an edge of a line lies on a piece along the same direction exactly if the piece is on that line, and spans the edge's places
pub lies_index : (g : Grid) (d : Dir) (a k b p q : ℕ) → a < lines_along g d → suc k < places g d → b < lines_along g d → p < places g d → q < places g d
    → lies (edge_on g d a k) (spot_on g d b p to spot_on g d b q) ≡ eqb b a && spans p q k (suc k)
unfolding lies
lies_index g hor a k b p q ha hk hb hp hq = ap₂ ◌&&◌ (level_index g.rows g.rows_rise b a hb ha) (spans_index g.columns g.columns_rise p q k hp hq hk)
lies_index g ver a k b p q ha hk hb hp hq = ap₂ ◌&&◌ (level_index g.columns g.columns_rise b a hb ha) (spans_index g.rows g.rows_rise p q k hp hq hk)

-- and none lies on a piece along the other direction
pub lies_other : (g : Grid) (d : Dir) (a k b p q : ℕ) → suc k < places g (other d) → lies (edge_on g (other d) a k) (spot_on g d b p to spot_on g d b q) ≡ false
lies_other g ver a k b p q hk =
    is_false (lies (edge_on g hor a k) (spot_on g ver b p to spot_on g ver b q)) (λ t.
    let (u, v) = lies_true (edge_on g hor a k) (spot_on g ver b p to spot_on g ver b q) t in
    absurd (omega (arith, g.columns_rise k hk, v)))
lies_other g hor a k b p q hk =
    is_false (lies (edge_on g ver a k) (spot_on g hor b p to spot_on g hor b q)) (λ t.
    let (u, v) = lies_true (edge_on g ver a k) (spot_on g hor b p to spot_on g hor b q) t in
    absurd (omega (arith, g.rows_rise k hk, v)))
