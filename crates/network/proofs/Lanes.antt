-- Lanes: the columns, or the rows, that a run passes, in its own order. Every run between vertices has a frame of two lanes.
use mathlib.Core.Path.{◌≡◌, refl, ap, ◌∙◌}
use mathlib.Core.Logic.{◌⊎◌, inl, inr}
use mathlib.Core.List.{List}
use Prim.Native.Nat.{ℕ, suc, ◌+◌, ◌-◌, ◌≤◌, ◌<◌}
use native.Mathlib.Omega.{arith}
use lib.ListN.{length, get_or}
use Rattle.network.specs.Plane.{Point, Run, gap}
use Rattle.network.specs.Grid.{Rising, Grid}
use Rattle.network.specs.Route.{Listed, Vertex}
use Rattle.network.specs.Steps.{Lane, forth, back, extent, at, low, Fits, spot, Frame}
use Rattle.network.proofs.Tests.{Spans}
use Rattle.network.proofs.Numbers.{order, Between, rise, fall, between_up, between_down, gap_rise, gap_fall}
use Rattle.network.proofs.Rising.{rising_le, index_le}

-- ---- a lane's lines are lines of the list

-- the line after i steps
pub at_fits : (l : List ℕ) (X : Lane) → Fits l X → (i : ℕ) → i ≤ extent X → at X i < length l
at_fits l (forth a n) f i h = omega arith
at_fits l (back a n) f i h = omega arith

-- and the next line above the lower one of a step
pub low_fits : (l : List ℕ) (X : Lane) → Fits l X → (i : ℕ) → i < extent X → suc (low X i) < length l
low_fits l (forth a n) f i h = omega arith
low_fits l (back a n) f i h = omega arith

-- so a spot is a vertex
pub spot_vertex : (g : Grid) (X Y : Lane) → Fits g.columns X → Fits g.rows Y → (i j : ℕ) → i ≤ extent X → j ≤ extent Y → Vertex g (spot g X Y i j)
spot_vertex g X Y fx fy i j h k =
    record { column = (at X i, at_fits g.columns X fx i h, refl); row = (at Y j, at_fits g.rows Y fy j k, refl) }

-- ---- a lane on a rising list

module _ (l : List ℕ) (r : Rising l) where
  -- a line between the lane's i-th and its last is its i + k-th
  pub lane_next : (X : Lane) → Fits l X → (i v : ℕ) → i ≤ extent X → Listed l v → Between (get_or l (at X i) 0) v (get_or l (at X (extent X)) 0)
      → (k : ℕ) × (i + k ≤ extent X) × (get_or l (at X (i + k)) 0 ≡ v)
  lane_next (forth a n) f i v h (c, hc, ec) b =
      let s = between_up b (rising_le l r (a + i) (a + n) (omega arith) f) in
      let p : a + i ≤ c = index_le l r (a + i) c (omega arith) (omega (arith, s)) in
      let q : c ≤ a + n = index_le l r c (a + n) hc (omega (arith, s)) in
      let e : a + (i + (c - (a + i))) ≡ c = omega arith in
      (c - (a + i), omega arith, ap (λ t. get_or l t 0) e ∙ ec)
  lane_next (back a n) f i v h (c, hc, ec) b =
      let s = between_down b (rising_le l r (a - n) (a - i) (omega arith) (omega arith)) in
      let p : c ≤ a - i = index_le l r c (a - i) hc (omega (arith, s)) in
      let q : a - n ≤ c = index_le l r (a - n) c (omega arith) (omega (arith, s)) in
      let e : a - (i + (a - i - c)) ≡ c = omega arith in
      (a - i - c, omega arith, ap (λ t. get_or l t 0) e ∙ ec)

  -- the last line comes once
  pub lane_end : (X : Lane) → Fits l X → (i : ℕ) → i ≤ extent X → get_or l (at X i) 0 ≡ get_or l (at X (extent X)) 0 → i ≡ extent X
  lane_end (forth a n) f i h e = omega (arith, index_le l r (a + n) (a + i) f (omega arith))
  lane_end (back a n) f i h e = omega (arith, index_le l r (a - i) (a - n) (omega arith) (omega arith))

  -- and so does every other: two of its lines are apart
  pub lane_apart : (X : Lane) → Fits l X → (i m : ℕ) → i < m → m ≤ extent X → get_or l (at X i) 0 ≡ get_or l (at X m) 0 → ⊥
  lane_apart (forth a n) f i m h k e = omega (arith, index_le l r (a + m) (a + i) (omega arith) (omega arith))
  lane_apart (back a n) f i m h k e = omega (arith, index_le l r (a - i) (a - m) (omega arith) (omega arith))

  -- a line is between those before and those after it
  pub lane_between : (X : Lane) → Fits l X → (i m n : ℕ) → i ≤ m → m ≤ n → n ≤ extent X → Between (get_or l (at X i) 0) (get_or l (at X m) 0) (get_or l (at X n) 0)
  lane_between (forth a e) f i m n h k o =
      rise (rising_le l r (a + i) (a + m) (omega arith) (omega arith)) (rising_le l r (a + m) (a + n) (omega arith) (omega arith))
  lane_between (back a e) f i m n h k o =
      fall (rising_le l r (a - n) (a - m) (omega arith) (omega arith)) (rising_le l r (a - m) (a - i) (omega arith) (omega arith))

  -- the stretch between neighbouring lines of the list that one step passes, which is the only one, and its length
  pub lane_step : (X : Lane) → Fits l X → (i : ℕ) → i < extent X
      → Spans (get_or l (at X i) 0) (get_or l (at X (suc i)) 0) (get_or l (low X i) 0) (get_or l (suc (low X i)) 0)
  lane_step (forth a n) f i h =
      let e : a + suc i ≡ suc (a + i) = omega arith in
      omega (arith, ap (λ k. get_or l k 0) e)
  lane_step (back a n) f i h =
      let e : suc (a - suc i) ≡ a - i = omega arith in
      omega (arith, ap (λ k. get_or l k 0) e)

  -- no other stretch lies there
  pub lane_only : (X : Lane) → Fits l X → (i : ℕ) → i < extent X → (k : ℕ) → suc k < length l
      → Spans (get_or l (at X i) 0) (get_or l (at X (suc i)) 0) (get_or l k 0) (get_or l (suc k) 0) → k ≡ low X i
  lane_only (forth a n) f i h k m s =
      let e : a + suc i ≡ suc (a + i) = omega arith in
      let p = rising_le l r (a + i) (a + suc i) (omega arith) (omega arith) in
      omega (arith, index_le l r (a + i) k (omega arith) (omega arith), index_le l r (suc k) (a + suc i) m (omega arith))
  lane_only (back a n) f i h k m s =
      let p = rising_le l r (a - suc i) (a - i) (omega arith) (omega arith) in
      omega (arith, index_le l r (a - suc i) k (omega arith) (omega arith), index_le l r (suc k) (a - i) m (omega arith))

  -- it is as long as its lines are apart
  pub lane_length : (X : Lane) → Fits l X → (i : ℕ) → i < extent X
      → get_or l (suc (low X i)) 0 - get_or l (low X i) 0 ≡ gap (get_or l (at X i) 0) (get_or l (at X (suc i)) 0)
  lane_length (forth a n) f i h =
      let e : a + suc i ≡ suc (a + i) = omega arith in
      let p = rising_le l r (a + i) (a + suc i) (omega arith) (omega arith) in
      omega (arith, ap (λ k. get_or l k 0) e, gap_rise (get_or l (a + i) 0) (get_or l (a + suc i) 0) p)
  lane_length (back a n) f i h =
      let e : suc (a - suc i) ≡ a - i = omega arith in
      let p = rising_le l r (a - suc i) (a - i) (omega arith) (omega arith) in
      omega (arith, ap (λ k. get_or l k 0) e, gap_fall (get_or l (a - i) 0) (get_or l (a - suc i) 0) p)

-- ---- every run between vertices has a frame

-- between two numbers of a list there is a lane
pub lane_of_lem : (l : List ℕ) (u v : ℕ) → Listed l u → Listed l v
    → (X : Lane) × Fits l X × (get_or l (at X 0) 0 ≡ u) × (get_or l (at X (extent X)) 0 ≡ v)
lane_of_lem l u v (a, ha, ea) (b, hb, eb) = go (order a b)
  where
    go : (a ≤ b) ⊎ (b < a) → (X : Lane) × Fits l X × (get_or l (at X 0) 0 ≡ u) × (get_or l (at X (extent X)) 0 ≡ v)
    go (inl h) =
        let s : a + 0 ≡ a = omega arith in
        let t : a + (b - a) ≡ b = omega arith in
        (forth a (b - a), omega arith, ap (λ i. get_or l i 0) s ∙ ea, ap (λ i. get_or l i 0) t ∙ eb)
    go (inr h) =
        let s : a - 0 ≡ a = omega arith in
        let t : a - (a - b) ≡ b = omega arith in
        (back a (a - b), omega arith, ap (λ i. get_or l i 0) s ∙ ea, ap (λ i. get_or l i 0) t ∙ eb)

-- two points with the same coordinates
pub point_path : {a b c d : ℕ} → a ≡ c → b ≡ d → ◌≡◌ {A = Point} (record { x = a; y = b }) (record { x = c; y = d })
point_path p q = λ i. record { x = p i; y = q i }

-- and between two vertices a frame
pub frame_of : (g : Grid) (run : Run) → Vertex g run.first → Vertex g run.second → (X : Lane) × (Y : Lane) × Frame g run X Y
frame_of g run u v =
    let (X, fx, ax, bx) = lane_of_lem g.columns run.first.x run.second.x u.column v.column in
    let (Y, fy, ay, by) = lane_of_lem g.rows run.first.y run.second.y u.row v.row in
    (X, Y, record { columns_fit = fx; rows_fit = fy; from = point_path ax ay; upto = point_path bx by })
