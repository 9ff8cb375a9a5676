-- Laws of the frame's lines: counting forth and back, and the lines made of the sets and lengths of an axis.
use mathlib.Core.Path.{◌≡◌, refl}
use mathlib.Core.List.{List}
use Prim.Native.Nat.{ℕ, zero, suc, ◌+◌, ◌-◌, ◌≤◌, ◌<◌, max}
use native.Mathlib.Omega.{arith}
use native.Mathlib.Decide.{ℕ_discrete, dec_lt}
use native.Mathlib.Numerals.{add-one}
use lib.Bits.{bit_and}
use lib.ListN.{length, get_or, set}
use lib.Seq.{get_or-set_same, get_or-set_other}
use borrow.Author.Count.{below_more}
use borrow.Author.Tests.{lt-ltb, le-ltb}
use Rattle.network.specs.Plane.{gap}
use Rattle.grid.specs.Lines.{length_at}
use Rattle.table.specs.declared.frame.Line.{Line}
use Rattle.table.specs.Side.{Rises}
use Rattle.table.specs.Frame.{no_line, line_in, line_of, lower_of, frame_line}

-- ---- counting

-- back, where the second position is lower
pub line_back : (p q i : ℕ) → q < p → line_of p q i ≡ p - i
unfolding line_of
line_back p q i h = rw (lt-ltb q p h)

-- forth, where it is not
pub line_forth : (p q i : ℕ) → p ≤ q → line_of p q i ≡ p + i
unfolding line_of
line_forth p q i h = rw (le-ltb q p h)

-- the lower line of an edge, counted back
pub lower_back : (p q i : ℕ) → q < p → lower_of p q i ≡ p - suc i
unfolding lower_of
lower_back p q i h = rw (lt-ltb q p h)

-- and forth
pub lower_forth : (p q i : ℕ) → p ≤ q → lower_of p q i ≡ p + i
unfolding lower_of
lower_forth p q i h = rw (le-ltb q p h)

-- ---- the lines of a frame

-- two lines of an axis are less than its number of lines apart
pub gap_lt : (n p q : ℕ) → p < n → q < n → gap p q < n
unfolding gap
gap_lt n p q h k = omega arith

-- what is computed at the first line is the frame's line
pub first_line : (on len : ℕ → ℕ) (p q i a : ℕ) → i ≡ 0 → a ≡ on (line_of p q i) → record { on = a; into = 0; len = 0 } ≡ frame_line on len p q i
unfolding frame_line
first_line on len p q zero a e h = rw h
first_line on len p q (suc i) a e h = absurd (omega arith)

-- and what is computed at a later line
pub next_line : (on : ℕ → ℕ) (lines : List ℕ) (p q i a b low : ℕ) → (i ≡ 0 → ⊥) → a ≡ on (line_of p q i) → b ≡ on (line_of p q (i - 1)) → low ≡ lower_of p q (i - 1)
    → record { on = a; into = bit_and a b; len = get_or lines (low + 1) 0 - get_or lines low 0 } ≡ frame_line on (length_at lines) p q i
unfolding frame_line
next_line on lines p q zero a b low n h k l = absurd (n refl)
next_line on lines p q (suc i) a b low n h k l =
    let e : suc i - 1 ≡ i = omega arith in
    rw (add-one low, h, k, l, e)

-- what holds of each entry below k, and of what is stored at k, holds of each entry below k + 1
pub set_next : {A : Type 0} (d : A) (t : List A) (k : ℕ) (v : A) → k < length t → (P : ℕ → A → Type 0) → ((j : ℕ) → j < k → P j (get_or t j d)) → P k v
    → (j : ℕ) → j < k + 1 → P j (get_or (set t k v) j d)
set_next d t k v h P all here =
    below_more (λ j. P j (get_or (set t k v) j d)) k (λ j l. rw (get_or-set_other t k j v d (λ e. omega arith)) (all j l)) (rw (get_or-set_same t k v d) here)

-- ---- lines within the axis

-- both lines of an edge are lines of the axis
pub lower_lt : (n p q i : ℕ) → p < n → q < n → i < gap p q → suc (lower_of p q i) < n
unfolding gap
lower_lt n p q i h k l = go (dec_lt q p)
  where
    go : Dec (q < p) → suc (lower_of p q i) < n
    go (yes e) = omega (arith, lower_back p q i e)
    go (no e) = omega (arith, lower_forth p q i (omega arith))

-- which rise up to the centre's points
pub lower_rises : (lines : List ℕ) (p q i low : ℕ) → Rises lines p q → i < gap p q → low ≡ lower_of p q i → get_or lines low 0 ≤ get_or lines (low + 1) 0
unfolding gap
lower_rises lines p q i low r h e = rw (add-one low) (r low (go (dec_lt q p)))
  where
    go : Dec (q < p) → low < max p q
    go (yes l) = omega (arith, lower_back p q i l)
    go (no l) = omega (arith, lower_forth p q i (omega arith))

-- ---- the array of lines

-- the sets of all lines stay where the line that is put in has its own
pub sets_kept : (t : List Line) (i j : ℕ) (l : Line) → i < length t → l.on ≡ (line_in t i).on → (line_in (set t i l) j).on ≡ (line_in t j).on
sets_kept t i j l h e = go (ℕ_discrete j i)
  where
    go : Dec (j ≡ i) → (line_in (set t i l) j).on ≡ (line_in t j).on
    go (yes q) = rw (q, get_or-set_same t i l no_line h) e
    go (no q) = rw (get_or-set_other t i j l no_line q)
