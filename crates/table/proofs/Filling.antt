-- Filling, vertex by vertex: positions hold all products, a vertex that is put in changes no earlier word, and the rule of an earlier vertex reads
-- earlier words alone. So "done below n" moves on by one.
use mathlib.Core.Bool.{cond}
use mathlib.Core.Path.{◌≡◌, refl, sym, ap, ap₂, ◌∙◌}
use mathlib.Core.Logic.{◌⊎◌, inl, inr, ⊎_elim}
use mathlib.Core.List.{List}
use Prim.Native.Nat.{ℕ, zero, suc, pred, ◌+◌, ◌-◌, ◌*◌, ◌≤◌, ◌<◌, max, zero-le, suc-le-suc}
use native.Mathlib.Nat.{add-zero, mul-le-mul, mul-le-mul_right, suc-mul}
use native.Mathlib.Omega.{arith}
use native.Mathlib.Decide.{dec_lt}
use borrow.Author.Tests.{ne_eqb}
use lib.Dec.{eqb}
use lib.ListN.{length, get_or, set, length-set}
use lib.Seq.{get_or-set_same, get_or-set_other}
use Rattle.network.specs.Steps.{Dir, hor, ver, other}
use Rattle.network.proofs.Tests.{cond_one}
use Rattle.table.specs.declared.frame.Line.{Line}
use Rattle.table.specs.Frame.{Group}
use Rattle.table.specs.declared.fill.Pair.{Pair}
use Rattle.table.specs.declared.fill.Cell.{Cell}
use Rattle.table.specs.Rule.{many, line_at, position, spot, dir_no, own_set, edge_at, pair, pair_of, edge_by, rule_of, start_of, entered, cell_of, pair_at, Ruled, figure_of, Fit, Beyond, four, enter_of, into_of, Light, Near, cell_in}
use Rattle.table.proofs.Rule.{enter_none, enter_some, rule_le}

-- ---- what holds between two turns

-- the four words at position p are no larger than n edges can make them
abbrev pub Low : List ℕ → ℕ → ℕ → Type 0
Low words p n = (k : ℕ) → k < 4 → get_or words (p * 4 + k) 0 ≤ 1 + n * 2000000

-- the vertices at positions below n are done
pub record Done (g : Group) (words : List ℕ) (n : ℕ) : Type 0 where
  pub ruled : (d : Dir) (s t : ℕ) → s < many g d → t < many g (other d) → spot g.w d s t < n → pair_at g.w words d s t ≡ cell_of g words d s t
  pub low : (a b : ℕ) → a < g.w → position g.w a b < n → Low words (position g.w a b) (a + b)

-- the words that an edge is read from are low
pub low_edge : (words : List ℕ) (u d n : ℕ) → d < 2 → Low words u n → ((pair_of words u d).best ≤ 1 + n * 2000000) × ((pair_of words u d).run ≤ 1 + n * 2000000)
low_edge words u zero n h l =
    let e : u * 4 + 0 + 1 ≡ u * 4 + 1 = omega arith in
    (l 0 (omega arith), rw e (l 1 (omega arith)))
low_edge words u (suc zero) n h l =
    let e : u * 4 + 2 + 1 ≡ u * 4 + 3 = omega arith in
    (l 2 (omega arith), rw e (l 3 (omega arith)))
low_edge words u (suc (suc d)) n h l = absurd (omega arith)

-- ---- positions

-- the first vertex of a row
pub position_first : (w b : ℕ) → position w 0 b ≡ b * w
unfolding position
position_first w b = omega arith

-- a vertex of the first row
pub position_base : (w a : ℕ) → position w a 0 ≡ a
unfolding position
position_base w a = omega arith

-- the next vertex
pub position_next : (w a b : ℕ) → position w (suc a) b ≡ suc (position w a b)
unfolding position
position_next w a b = omega arith

-- the vertex above
pub position_up : (w a b : ℕ) → position w a (suc b) ≡ position w a b + w
unfolding position
position_up w a b = omega (arith, suc-mul b w)

-- the vertex a columns on
pub position_plus : (w a b : ℕ) → position w a b ≡ position w 0 b + a
unfolding position
position_plus w a b = omega arith

-- behind the last vertex of a row the next row begins
pub position_end : (w b : ℕ) → position w w b ≡ position w 0 (suc b)
unfolding position
position_end w b = omega (arith, suc-mul b w)

-- behind the first row at least one row is passed
pub position_behind : (w a b : ℕ) → 1 ≤ b → w + a ≤ position w a b
unfolding position
position_behind w a b h = omega (arith, mul-le-mul_right {m = 1} {n = b} w h)

-- a vertex of the frame has a position below w * h
pub position_lt : (w h a b : ℕ) → a < w → b < h → position w a b < h * w
unfolding position
position_lt w h a b ha hb = omega (arith, mul-le-mul_right {m = suc b} {n = h} w hb, suc-mul b w)

-- and there are at most 4,096 of these
pub area : (w h : ℕ) → w ≤ 64 → h ≤ 64 → h * w ≤ 4096
area w h hw hh = mul-le-mul hh hw

-- which of two numbers is less
which : (j b : ℕ) → (j < b) ⊎ ((b < j) ⊎ (j ≡ b))
which zero zero = inr (inr refl)
which zero (suc b) = inl (suc-le-suc zero-le)
which (suc j) zero = inr (inl (suc-le-suc zero-le))
which (suc j) (suc b) = ⊎_elim (λ h. inl (suc-le-suc h)) (λ r. inr (⊎_elim (λ h. inl (suc-le-suc h)) (λ e. inr (ap suc e)) r)) (which j b)

-- a position is that of one vertex
position_one : (w a b i j : ℕ) → a < w → i < w → position w i j ≡ position w a b → (i ≡ a) × (j ≡ b)
unfolding position
position_one w a b i j ha hi e =
    ⊎_elim (λ h. absurd (omega (arith, mul-le-mul_right {m = suc j} {n = b} w h, suc-mul j w)))
    (⊎_elim (λ h. absurd (omega (arith, mul-le-mul_right {m = suc b} {n = j} w h, suc-mul b w)))
    (λ h. (omega (arith, ap (λ (n : ℕ). n * w) h), h)))
    (which j b)

-- how far before a vertex the one before it along d stands
abbrev pub stride_of : ℕ → Dir → ℕ
stride_of w hor = 1
stride_of w ver = w

-- along d, a vertex stands one stride behind the one before it
pub spot_before : (w : ℕ) (d : Dir) (s t : ℕ) → spot w d (suc s) t ≡ spot w d s t + stride_of w d
spot_before w hor s t = position_next w s t ∙ omega arith
spot_before w ver s t = position_up w t s

-- a vertex is the same one read along either direction
spot_turn : (w : ℕ) (d : Dir) (s t : ℕ) → spot w (other d) t s ≡ spot w d s t
spot_turn w hor s t = refl
spot_turn w ver s t = refl

-- a stride leads on
stride_pos : (w : ℕ) (d : Dir) → 1 ≤ w → 1 ≤ stride_of w d
stride_pos w hor h = omega arith
stride_pos w ver h = h

-- a start counts at most 1
start_le : (u : ℕ) → start_of u ≤ 1
start_le u = cond_one (eqb u 0)

-- there are two directions
dir_lt : (d : Dir) → dir_no d < 2
dir_lt hor = omega arith
dir_lt ver = omega arith

-- ---- what the code computes at a vertex is its cell

-- the edge into a vertex along d, from the words before it
pub into_cell : (g : Group) (words : List ℕ) (d : Dir) (s t p : ℕ) → p ≡ spot g.w d s t
    → into_of words s (stride_of g.w d) p (dir_no d) (line_at g d s) (line_at g d (pred s)) (line_at g (other d) t) g.cross ≡ cell_of g words d s t
unfolding entered
into_cell g words d zero t p e = enter_none 0 _ _ _ _ _ _ g.cross refl
into_cell g words d (suc s) t p e =
    let f : p - stride_of g.w d ≡ spot g.w d s t = omega (arith, spot_before g.w d s t) in
    enter_some (suc s) _ _ _ _ _ _ g.cross (λ z. omega arith) ∙ rw f (same d)
  where
    same : (d : Dir)
        → rule_of (edge_by (pair_of words (spot g.w d s t) (dir_no d)) (line_at g d s) (line_at g (other d) t))
        (edge_by (pair_of words (spot g.w d s t) (1 - dir_no d)) (line_at g (other d) t) (line_at g d s)) (start_of (spot g.w d s t))
        (own_set g d (suc s) t) (line_at g d (suc s)).len g.cross
        ≡ entered g words d s t
    same hor = refl
    same ver = refl

-- ---- what the rule reads: two lists of words that agree before position m

module _ (g : Group) (words words' : List ℕ) (m : ℕ) (same : (k : ℕ) → k < m * 4 → get_or words' k 0 ≡ get_or words k 0) where
  -- an edge is read from the words at its head
  edge_same : (d : Dir) (s t : ℕ) → spot g.w d s t < m → edge_at g words' d s t ≡ edge_at g words d s t
  edge_same d s t h =
      let l = dir_lt d in
      rw (same (spot g.w d s t * 4 + dir_no d * 2) (omega arith), same (spot g.w d s t * 4 + dir_no d * 2 + 1) (omega arith))

  -- and so are the two words alone
  pair_same : (d : Dir) (s t : ℕ) → spot g.w d s t < m → pair_at g.w words' d s t ≡ pair_at g.w words d s t
  pair_same d s t h = ap (λ e. pair e.best e.run) (edge_same d s t h)

  -- the rule of an edge reads the words at its tail
  entered_same : (d : Dir) (s t : ℕ) → spot g.w d s t < m → entered g words' d s t ≡ entered g words d s t
  unfolding entered
  entered_same d s t h =
      ap₂ (λ x y. rule_of x y (start_of (spot g.w d s t)) (own_set g d (suc s) t) (line_at g d (suc s)).len g.cross)
      (edge_same d s t h) (edge_same (other d) t s (rw (spot_turn g.w d s t) h))

  -- which are earlier than those of its head
  cell_same : 1 ≤ g.w → (d : Dir) (s t : ℕ) → spot g.w d s t ≤ m → cell_of g words' d s t ≡ cell_of g words d s t
  cell_same w d zero t h = refl
  cell_same w d (suc s) t h = entered_same d s t (omega (arith, spot_before g.w d s t, stride_pos g.w d w))

-- ---- four stores

module _ (words : List ℕ) (n : ℕ) (x y : Pair) where
  -- the other words are as they were
  four_other : (k : ℕ) → (k ≡ n → ⊥) → (k ≡ n + 1 → ⊥) → (k ≡ n + 2 → ⊥) → (k ≡ n + 3 → ⊥) → get_or (four words n x y) k 0 ≡ get_or words k 0
  unfolding four
  four_other k h0 h1 h2 h3 = simp get_or-set_other

  -- the length stays
  pub length_four : length (four words n x y) ≡ length words
  unfolding four
  length_four = simp length-set

  -- the four words are the two pairs
  four_at : n + 3 < length words
      → (get_or (four words n x y) n 0 ≡ x.best) × (get_or (four words n x y) (n + 1) 0 ≡ x.run)
      × (get_or (four words n x y) (n + 2) 0 ≡ y.best) × (get_or (four words n x y) (n + 3) 0 ≡ y.run)
  unfolding four
  four_at h =
      let l1 : n + 1 < length (set words n x.best) = simp length-set (omega arith) in
      let l2 : n + 2 < length (set (set words n x.best) (n + 1) x.run) = simp length-set (omega arith) in
      let l3 : n + 3 < length (set (set (set words n x.best) (n + 1) x.run) (n + 2) y.best) = simp length-set (omega arith) in
      let l0 : n < length words = omega arith in
      let d01 : n ≡ n + 1 → ⊥ = λ e. omega arith in
      let d02 : n ≡ n + 2 → ⊥ = λ e. omega arith in
      let d03 : n ≡ n + 3 → ⊥ = λ e. omega arith in
      let d12 : n + 1 ≡ n + 2 → ⊥ = λ e. omega arith in
      let d13 : n + 1 ≡ n + 3 → ⊥ = λ e. omega arith in
      let d23 : n + 2 ≡ n + 3 → ⊥ = λ e. omega arith in (
        simp (get_or-set_other, get_or-set_same),
        simp (get_or-set_other, get_or-set_same),
        simp (get_or-set_other, get_or-set_same),
        simp get_or-set_same,
      )

-- ---- a vertex that is put in

-- the words with the vertex in column a and row b
abbrev next : Group → List ℕ → ℕ → ℕ → List ℕ
next g words a b = four words (position g.w a b * 4) (cell_of g words hor a b) (cell_of g words ver b a)

module _ (g : Group) (words : List ℕ) (a b : ℕ) (ha : a < g.w) (fits : position g.w a b * 4 + 3 < length words) where
  -- the words before the vertex stay
  next_before : (k : ℕ) → k < position g.w a b * 4 → get_or (next g words a b) k 0 ≡ get_or words k 0
  next_before k h = four_other words (position g.w a b * 4) _ _ k (λ e. omega arith) (λ e. omega arith) (λ e. omega arith) (λ e. omega arith)

  -- and those behind it
  next_after : (k : ℕ) → position g.w a b * 4 + 4 ≤ k → get_or (next g words a b) k 0 ≡ get_or words k 0
  next_after k h = four_other words (position g.w a b * 4) _ _ k (λ e. omega arith) (λ e. omega arith) (λ e. omega arith) (λ e. omega arith)

  -- the new words
  next_pair : (d : Dir) (s t : ℕ) → spot g.w d s t ≡ position g.w a b → s < many g d → t < many g (other d)
      → pair_at g.w (next g words a b) d s t ≡ cell_of g words d s t
  next_pair hor s t e hs ht =
      let q = position_one g.w a b s t ha hs e in
      let f = four_at words (position g.w a b * 4) (cell_of g words hor a b) (cell_of g words ver b a) fits in
      rw (q.0, q.1) (ap₂ pair (simp add-zero f.0) (simp add-zero f.1))
  next_pair ver s t e hs ht =
      let q = position_one g.w a b t s ha ht e in
      let f = four_at words (position g.w a b * 4) (cell_of g words hor a b) (cell_of g words ver b a) fits in
      let n : position g.w a b * 4 + 2 + 1 ≡ position g.w a b * 4 + 3 = omega arith in
      rw (q.0, q.1) (ap₂ pair f.2 (rw n f.3))

  -- the local rule holds one vertex further
  ruled_next : 1 ≤ g.w → Done g words (position g.w a b) → (d : Dir) (s t : ℕ) → s < many g d → t < many g (other d)
      → spot g.w d s t < suc (position g.w a b) → pair_at g.w (next g words a b) d s t ≡ cell_of g (next g words a b) d s t
  ruled_next w old d s t hs ht h = go (dec_lt (spot g.w d s t) (position g.w a b))
    where
      kept : cell_of g (next g words a b) d s t ≡ cell_of g words d s t
      kept = cell_same g words (next g words a b) (position g.w a b) next_before w d s t (omega arith)

      go : Dec (spot g.w d s t < position g.w a b) → pair_at g.w (next g words a b) d s t ≡ cell_of g (next g words a b) d s t
      go (yes l) = pair_same g words (next g words a b) (position g.w a b) next_before d s t l ∙ old.ruled d s t hs ht l ∙ sym kept
      go (no l) = next_pair d s t (omega arith) hs ht ∙ sym kept

  -- the new words are low, since those before are
  entered_low : Fit g words → Done g words (position g.w a b) → (d : Dir) (s t : ℕ) → suc s < many g d → t < many g (other d)
      → spot g.w d s t < position g.w a b
      → ((entered g words d s t).best ≤ 1 + (suc s + t) * 2000000) × ((entered g words d s t).run ≤ 1 + (suc s + t) * 2000000)
  unfolding entered
  entered_low fit old d s t hs ht h =
      let l = tail d hs ht h in
      let x = low_edge words (spot g.w d s t) (dir_no d) (s + t) (dir_lt d) l in
      let y = low_edge words (spot g.w (other d) t s) (dir_no (other d)) (s + t) (dir_lt (other d)) (rw (spot_turn g.w d s t) l) in
      let r = rule_le (edge_at g words d s t) (edge_at g words (other d) t s) (start_of (spot g.w d s t)) (own_set g d (suc s) t) (line_at g d (suc s)).len g.cross
      (1 + (s + t) * 2000000) x.0 x.1 y.0 (omega (arith, start_le (spot g.w d s t))) in
      let z = fit.short d (suc s) hs in
      (omega (arith, r.0), omega (arith, r.1))
    where
      tail : (d : Dir) → suc s < many g d → t < many g (other d) → spot g.w d s t < position g.w a b → Low words (spot g.w d s t) (s + t)
      tail hor hs ht h = old.low s t (omega arith) h
      tail ver hs ht h = let e : t + s ≡ s + t = omega arith in rw e at (old.low t s ht h)

  -- the same on the first line, where no edge ends
  cell_low : Fit g words → Done g words (position g.w a b) → (d : Dir) (s t : ℕ) → s < many g d → t < many g (other d)
      → spot g.w d s t ≡ position g.w a b
      → ((cell_of g words d s t).best ≤ 1 + (s + t) * 2000000) × ((cell_of g words d s t).run ≤ 1 + (s + t) * 2000000)
  cell_low fit old d zero t hs ht e = (omega arith, omega arith)
  cell_low fit old d (suc s) t hs ht e =
      entered_low fit old d s t hs ht (omega (arith, spot_before g.w d s t, stride_pos g.w d fit.some_columns))

  -- the bound holds one vertex further
  low_next : b < g.h → Fit g words → Done g words (position g.w a b) → (i j : ℕ) → i < g.w → position g.w i j < suc (position g.w a b)
      → Low (next g words a b) (position g.w i j) (i + j)
  low_next hb fit old i j hi h = go (dec_lt (position g.w i j) (position g.w a b))
    where
      new : (k : ℕ) → k < 4 → get_or (next g words a b) (position g.w a b * 4 + k) 0 ≤ 1 + (a + b) * 2000000
      new k l =
          let f = four_at words (position g.w a b * 4) (cell_of g words hor a b) (cell_of g words ver b a) fits in
          let x = cell_low fit old hor a b ha hb refl in
          let y = cell_low fit old ver b a hb ha refl in
          each k l x y f
        where
          n : ℕ
          n = position g.w a b * 4

          each : (k : ℕ) → k < 4
              → ((cell_of g words hor a b).best ≤ 1 + (a + b) * 2000000) × ((cell_of g words hor a b).run ≤ 1 + (a + b) * 2000000)
              → ((cell_of g words ver b a).best ≤ 1 + (b + a) * 2000000) × ((cell_of g words ver b a).run ≤ 1 + (b + a) * 2000000)
              → (get_or (next g words a b) n 0 ≡ (cell_of g words hor a b).best) × (get_or (next g words a b) (n + 1) 0 ≡ (cell_of g words hor a b).run)
              × (get_or (next g words a b) (n + 2) 0 ≡ (cell_of g words ver b a).best) × (get_or (next g words a b) (n + 3) 0 ≡ (cell_of g words ver b a).run)
              → get_or (next g words a b) (n + k) 0 ≤ 1 + (a + b) * 2000000
          each zero l x y f = simp add-zero (omega (arith, f.0, x.0))
          each (suc zero) l x y f = omega (arith, f.1, x.1)
          each (suc (suc zero)) l x y f = omega (arith, f.2, y.0)
          each (suc (suc (suc zero))) l x y f = omega (arith, f.3, y.1)
          each (suc (suc (suc (suc k)))) l x y f = absurd (omega arith)

      go : Dec (position g.w i j < position g.w a b) → Low (next g words a b) (position g.w i j) (i + j)
      go (yes l) = λ k m. rw (next_before (position g.w i j * 4 + k) (omega arith)) (old.low i j hi l k m)
      go (no l) = let q = position_one g.w a b i j ha hi (omega arith) in rw (q.0, q.1) new

-- ---- a turn of the loop

-- read along d, a vertex of the frame has a position below w * h
spot_lt : (g : Group) (d : Dir) (s t : ℕ) → s < many g d → t < many g (other d) → spot g.w d s t < g.h * g.w
spot_lt g hor s t hs ht = position_lt g.w g.h s t hs ht
spot_lt g ver s t hs ht = position_lt g.w g.h t s ht hs

-- a bound of fewer edges is one of more
low_more : (words : List ℕ) (p n m : ℕ) → n ≤ m → Low words p n → Low words p m
low_more words p n m h l k b = omega (arith, l k b, mul-le-mul_right 2000000 h)

-- a frame has at most 64 lines
many_le : (g : Group) (words : List ℕ) (d : Dir) → Fit g words → many g d ≤ 64
many_le g words hor f = f.columns
many_le g words ver f = f.rows

module _ (g : Group) (words : List ℕ) (n : ℕ) (fit : Fit g words) (old : Done g words n) where
  -- what the edge into a vertex along d asks
  pub near : (d : Dir) (s t : ℕ) → s < many g d → t < many g (other d) → n ≡ spot g.w d s t
      → Near words s (stride_of g.w d) n (dir_no d) (line_at g d s).len
  near d s t hs ht e =
      let i = spot_lt g d s t hs ht in
      let z = area g.w g.h fit.columns fit.rows in
      record {
        room = omega (arith, fit.room);
        small = omega arith;
        back = back s hs e;
        light = λ z. light (low s hs e z);
      }
    where
      light : Low words (n - stride_of g.w d) 126
          → Light (pair_of words (n - stride_of g.w d) (dir_no d)) (pair_of words (n - stride_of g.w d) (1 - dir_no d))
          (start_of (n - stride_of g.w d)) (line_at g d s).len
      light l =
          let x = low_edge words (n - stride_of g.w d) (dir_no d) 126 (dir_lt d) l in
          let y = low_edge words (n - stride_of g.w d) (1 - dir_no d) 126 (omega arith) l in
          record { along_best = x.0; along_run = x.1; across_best = y.0; begins = start_le (n - stride_of g.w d); short = fit.short d s hs }

      back : (s : ℕ) → s < many g d → n ≡ spot g.w d s t → (s ≡ 0 → ⊥) → stride_of g.w d ≤ n
      back zero hs e z = absurd (z refl)
      back (suc s) hs e z = omega (arith, spot_before g.w d s t)

      tail : (d : Dir) (s : ℕ) → s < many g d → t < many g (other d) → spot g.w d s t < n → Low words (spot g.w d s t) (s + t)
      tail hor s hs ht h = old.low s t hs h
      tail ver s hs ht h = let e : t + s ≡ s + t = omega arith in rw e at (old.low t s ht h)

      low : (s : ℕ) → s < many g d → n ≡ spot g.w d s t → (s ≡ 0 → ⊥) → Low words (n - stride_of g.w d) 126
      low zero hs e z = absurd (z refl)
      low (suc s) hs e z =
          let f : n - stride_of g.w d ≡ spot g.w d s t = omega (arith, spot_before g.w d s t) in
          let l = tail d s (omega arith) ht (omega (arith, spot_before g.w d s t, stride_pos g.w d fit.some_columns)) in
          rw f (low_more words (spot g.w d s t) (s + t) 126 (omega (arith, many_le g words d fit, many_le g words (other d) fit)) l)

  -- the vertex in column a and row b is put in
  module _ (first made : List ℕ) (a b : ℕ) (ha : a < g.w) (hb : b < g.h) (e : n ≡ position g.w a b)
      (is : made ≡ four words (n * 4) (into_of words a 1 n 0 (line_at g hor a) (line_at g hor (pred a)) (line_at g ver b) g.cross)
      (into_of words b g.w n 1 (line_at g ver b) (line_at g ver (pred b)) (line_at g hor a) g.cross)) where
    -- what the code stores are the cells
    made_is : made ≡ next g words a b
    made_is = is ∙ rw (into_cell g words hor a b n e, into_cell g words ver b a n e, e)

    -- the four words are there
    fits : position g.w a b * 4 + 3 < length words
    fits = omega (arith, position_lt g.w g.h a b ha hb, fit.room)

    -- one vertex more is done
    pub done_next : Done g made (n + 1)
    done_next =
        let o = rw e at old in
        let m : n + 1 ≡ suc (position g.w a b) = omega arith in
        rw (made_is, m) (record {
          ruled = ruled_next g words a b ha fits fit.some_columns o;
          low = low_next g words a b ha fits hb fit o;
        })

    -- and the later words are untouched
    pub beyond_next : Beyond first words (n * 4) → Beyond first made ((n + 1) * 4)
    beyond_next d =
        rw made_is (record {
          size = length_four words _ _ _ ∙ d.size;
          same = λ k h. next_after g words a b ha fits k (omega arith) ∙ d.same k (omega arith);
        })

-- ---- whole tables

-- a frame suits words by their number alone
pub fit_same : (g : Group) (words words' : List ℕ) → length words' ≡ length words → Fit g words → Fit g words'
fit_same g words words' e f =
    record { some_columns = f.some_columns; columns = f.columns; some_rows = f.some_rows; rows = f.rows; room = omega (arith, f.room); short = f.short }

-- with all done, the table has the local rule
pub done_all : (g : Group) (words : List ℕ) → Done g words (g.h * g.w) → Ruled g words
done_all g words d e s t hs ht = d.ruled e s t hs ht (spot_lt g e s t hs ht)

-- nothing is touched at the start
beyond_none : (words : List ℕ) (n : ℕ) → Beyond words words n
beyond_none words n = record { size = refl; same = λ k h. refl }

-- what two turns leave untouched, both together do
beyond_more : (first words made : List ℕ) (n m : ℕ) → n ≤ m → Beyond first words n → Beyond words made m → Beyond first made m
beyond_more first words made n m h d e = record { size = e.size ∙ d.size; same = λ k l. e.same k l ∙ d.same k (omega arith) }

-- the cell of the vertex that was put in last
cell_next : (words : List ℕ) (p : ℕ) (c : Cell) → p * 4 + 3 < length words → c ≡ cell_in (four words (p * 4) c.hor c.ver) p
cell_next words p c h =
    let f = four_at words (p * 4) c.hor c.ver h in
    let n : p * 4 + 2 + 1 ≡ p * 4 + 3 = omega arith in
    ap₂ (λ x y. record { hor = x; ver = y }) (ap₂ pair (sym (simp add-zero f.0)) (sym (simp add-zero f.1))) (ap₂ pair (sym f.2) (sym (rw n f.3)))

-- ---- from turn to turn

-- the vertices below position p are done, and from its words on nothing differs from the first words
pub record Filled (g : Group) (first words : List ℕ) (p : ℕ) : Type 0 where
  pub fit : Fit g words
  pub done : Done g words p
  pub beyond : Beyond first words (p * 4)

-- where the words are the first ones
pub filled_again : (g : Group) (first words : List ℕ) (p : ℕ) → Filled g first words p → Filled g words words p
filled_again g first words p f = record { fit = f.fit; done = f.done; beyond = beyond_none words (p * 4) }

-- one after the other
pub filled_more : (g : Group) (first words made : List ℕ) (n m : ℕ) → n ≤ m → Filled g first words n → Filled g words made m → Filled g first made m
filled_more g first words made n m h d e =
    record { fit = e.fit; done = e.done; beyond = beyond_more first words made (n * 4) (m * 4) (omega arith) d.beyond e.beyond }

-- the vertex in column a and row b is put in: one more is done, and its cell is the one before the next position
module _ (g : Group) (first words : List ℕ) (p a b : ℕ) (F : Filled g first words p) (ha : a < g.w) (hb : b < g.h) (e : p ≡ position g.w a b) where
  pub filled_next : (c : Cell) (made : List ℕ) → made ≡ four words (p * 4) c.hor c.ver
      → c.hor ≡ into_of words a 1 p 0 (line_at g hor a) (line_at g hor (pred a)) (line_at g ver b) g.cross
      → c.ver ≡ into_of words b g.w p 1 (line_at g ver b) (line_at g ver (pred b)) (line_at g hor a) g.cross
      → Filled g first made (p + 1) × (c ≡ cell_in made (p + 1 - 1))
  filled_next c made m x y =
      let is = m ∙ ap₂ (four words (p * 4)) x y in
      let n : p + 1 - 1 ≡ p = omega arith in (
        record {
          fit = fit_same g words made (ap length m ∙ length_four words (p * 4) c.hor c.ver) F.fit;
          done = done_next g words p F.fit F.done first made a b ha hb e is;
          beyond = beyond_next g words p F.fit F.done first made a b ha hb e is F.beyond;
        },
        rw (n, m) (cell_next words p c (near g words p F.fit F.done hor a b ha hb e).room),
      )

  -- it has a number that can be counted on from
  pub position_few : p + 1 ≤ 4096
  position_few = omega (arith, position_lt g.w g.h a b ha hb, area g.w g.h F.fit.columns F.fit.rows)

-- ---- the last vertex

-- the last position is that of the last vertex
pub position_last : (w h : ℕ) → 1 ≤ w → 1 ≤ h → h * w - 1 ≡ position w (pred w) (pred h)
unfolding position
position_last w zero hw hh = absurd (omega arith)
position_last zero (suc h) hw hh = absurd (omega arith)
position_last (suc w) (suc h) hw hh = omega (arith, suc-mul h (suc w))

-- the figure is the largest word there, less the start's 1
pub figure_is : (w h : ℕ) (words : List ℕ) (n : ℕ) → 1 ≤ w → 1 ≤ h
    → n ≡ max (max (get_or words ((h * w - 1) * 4) 0) (get_or words ((h * w - 1) * 4 + 2) 0)) (start_of (h * w - 1)) → pred n ≡ figure_of w h words
unfolding figure_of
figure_is w h words n a b e = rw (← position_last w h a b, add-zero ((h * w - 1) * 4), e)

-- ---- the cell that is handed on

-- it stands for the words at the position before, but on the first column, where it does not count
pub enter_left : (words : List ℕ) (a p : ℕ) (c : Cell) (col left row : Line) (cross : ℕ) → ((a ≡ 0 → ⊥) → c ≡ cell_in words (p - 1))
    → enter_of a c.hor c.ver (start_of (p - 1)) col left row cross ≡ into_of words a 1 p 0 col left row cross
enter_left words zero p c col left row cross h = enter_none 0 _ _ _ col left row cross refl ∙ sym (enter_none 0 _ _ _ col left row cross refl)
enter_left words (suc a) p c col left row cross h = ap (λ c. enter_of (suc a) c.hor c.ver (start_of (p - 1)) col left row cross) (h (λ z. omega arith))

-- ---- where the walk does not start

-- the start is not counted
pub start_none : (u : ℕ) → (u ≡ 0 → ⊥) → start_of u ≡ 0
start_none u h = ap (λ t. cond t 1 0) (ne_eqb u 0 h)
