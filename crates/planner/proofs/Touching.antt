-- How many lines touch a run's box: one more than the run passes steps from line to line. So the forecast can be counted from the places of the runs' points among
-- the lines, and a route has fewer corners than there are lines that touch its run's box.
use mathlib.Core.Path.{◌≡◌, sym, ap, ap₂, ◌∙◌}
use mathlib.Core.Bool.{Bool, true, false, cond, ◌&&◌}
use mathlib.Core.List.{List, [], ◌∷◌}
use Prim.Native.Nat.{ℕ, zero, suc, ◌+◌, ◌-◌, ◌≤◌, ◌<◌, min, max}
use native.Mathlib.Omega.{arith}
use native.Mathlib.Decide.{dec_le}
use borrow.Author.Tests.{le-leb, lt-leb}
use lib.Dec.{leb}
use lib.ListN.{length, get_or}
use Rattle.network.specs.Lists.{count}
use Rattle.network.specs.Plane.{Run, gap}
use Rattle.network.specs.Grid.{Grid, Rising, spans}
use Rattle.network.specs.Steps.{Lane, forth, back, extent, at, Fits}
use Rattle.network.specs.Route.{Route, Manhattan}
use Rattle.network.specs.Corners.{corners}
use Rattle.network.proofs.Corners.{TwoPoints}
use Rattle.network.proofs.Numbers.{gap_rise, gap_fall}
use Rattle.network.proofs.Rising.{rising_lt, rising_le}
use Rattle.network.proofs.Sums.{sum_to, sum_to_cong, sum_at}
use Rattle.route.proofs.Few.{framed_few}
use Rattle.planner.specs.Forecast.{touching, lines_at}

-- of the numbers below n, how many are from a up to b
within : (a b : ℕ) → a ≤ b → (n : ℕ) → sum_to n (λ k. cond (leb a k && leb k b) 1 0) + min n a ≡ min n (suc b)
within a b h zero = omega arith
within a b h (suc n) = go (dec_le a n) (dec_le n b) (within a b h n)
  where
    before : ℕ
    before = sum_to n (λ k. cond (leb a k && leb k b) 1 0)

    go : Dec (a ≤ n) → Dec (n ≤ b) → before + min n a ≡ min n (suc b) → before + cond (leb a n && leb n b) 1 0 + min (suc n) a ≡ min (suc n) (suc b)
    go (yes l) (yes m) e = rw (le-leb a n l, le-leb n b m) (omega arith)
    go (yes l) (no m) e = rw (le-leb a n l, lt-leb n b (omega arith)) (omega arith)
    go (no l) m e = rw (lt-leb a n (omega arith)) (omega arith)

module _ (l : List ℕ) (r : Rising l) where
  -- lines are in the order of their indexes
  same_order : (i k : ℕ) → i < length l → k < length l → leb (get_or l i 0) (get_or l k 0) ≡ leb i k
  same_order i k h m = go (dec_le i k)
    where
      go : Dec (i ≤ k) → leb (get_or l i 0) (get_or l k 0) ≡ leb i k
      go (yes a) = le-leb _ _ (rising_le l r i k a m) ∙ sym (le-leb i k a)
      go (no a) = lt-leb _ _ (rising_lt l r k i (omega arith) h) ∙ sym (lt-leb i k (omega arith))

  least_at : (i j : ℕ) → i < length l → j < length l → (min (get_or l i 0) (get_or l j 0) ≡ get_or l (min i j) 0) × (max (get_or l i 0) (get_or l j 0) ≡ get_or l (max i j) 0)
  least_at i j h m = go (dec_le i j)
    where
      go : Dec (i ≤ j) → (min (get_or l i 0) (get_or l j 0) ≡ get_or l (min i j) 0) × (max (get_or l i 0) (get_or l j 0) ≡ get_or l (max i j) 0)
      go (yes a) =
          let p : min i j ≡ i = omega arith in
          let q : max i j ≡ j = omega arith in
          let o = rising_le l r i j a m in
          rw (p, q) (omega arith)
      go (no a) =
          let p : min i j ≡ j = omega arith in
          let q : max i j ≡ i = omega arith in
          let o = rising_le l r j i (omega arith) h in
          rw (p, q) (omega arith)

  -- the lines from line i to line j
  pub touching_gap : (i j : ℕ) → i < length l → j < length l → touching l (get_or l i 0) (get_or l j 0) ≡ suc (gap i j)
  unfolding touching spans gap
  touching_gap i j h m =
      let u = get_or l i 0 in
      let v = get_or l j 0 in
      let (p, q) = least_at i j h m in
      let c = sum_at (λ x. cond (leb (min u v) x && leb x (max u v)) 1 0) l 0
      ∙ sum_to_cong (length l) (λ k. cond (leb (min u v) (get_or l k 0) && leb (get_or l k 0) (max u v)) 1 0) (λ k. cond (leb (min i j) k && leb k (max i j)) 1 0)
      (λ k o. ap₂ (λ a b. cond (a && b) 1 0)
      (ap (λ a. leb a (get_or l k 0)) p ∙ same_order (min i j) k (omega arith) o) (ap (leb (get_or l k 0)) q ∙ same_order k (max i j) o (omega arith))) in
      c ∙ omega (arith, within (min i j) (max i j) (omega arith) (length l))

  -- those of a lane
  touching_lane : (X : Lane) → Fits l X → touching l (get_or l (at X 0) 0) (get_or l (at X (extent X)) 0) ≡ suc (extent X)
  touching_lane (forth a n) f = omega (arith, touching_gap (a + 0) (a + n) (omega arith) (omega arith), gap_rise (a + 0) (a + n) (omega arith))
  touching_lane (back a n) f = omega (arith, touching_gap (a - 0) (a - n) (omega arith) (omega arith), gap_fall (a - 0) (a - n) (omega arith))

-- no more lines touch a box than there are
pub touching_most : (l : List ℕ) (a b : ℕ) → touching l a b ≤ length l
unfolding touching
touching_most l a b = go l
  where
    one : (t : Bool) → cond t 1 0 ≤ 1
    one true = omega arith
    one false = omega arith

    go : (l : List ℕ) → count (λ v. spans a b v v) l ≤ length l
    go [] = omega arith
    go (v ∷ l) = omega (arith, go l, one (spans a b v v))

-- a route has fewer corners than lines touch its run's box
pub corners_touching : (g : Grid) (run : Run) (route : Route) → TwoPoints run → Manhattan g run route → length (corners route) < lines_at g run
corners_touching g run route two m =
    let (X, Y, f, h) = framed_few g run route two m in
    let c = ap₂ (touching g.columns) (sym (ap (λ p. p.x) f.from)) (sym (ap (λ p. p.x) f.upto)) ∙ touching_lane g.columns g.columns_rise X f.columns_fit in
    let r = ap₂ (touching g.rows) (sym (ap (λ p. p.y) f.from)) (sym (ap (λ p. p.y) f.upto)) ∙ touching_lane g.rows g.rows_rise Y f.rows_fit in
    omega (arith, h, c, r)
