-- Laws of the sets of leaves at the lines of an axis: a run's bit is put into the sets of its lines, and the sets grow run by run.
use mathlib.Core.Path.{◌≡◌, refl}
use mathlib.Core.Bool.{Bool, true, false, cond, ◌&&◌}
use mathlib.Core.List.{List}
use Prim.Native.Nat.{ℕ, ◌+◌, ◌^◌, ◌≤◌, ◌<◌, min, max}
use native.Mathlib.Omega.{arith}
use native.Mathlib.Decide.{dec_le, dec_lt}
use native.Mathlib.Numerals.{add-one}
use lib.Dec.{leb}
use lib.ListN.{length, get_or}
use borrow.Author.Tests.{le-leb, lt-leb}
use Rattle.intersection.specs.Sets.{has, pack}
use Rattle.intersection.proofs.Digits.{pack_lt}
use Rattle.table.specs.declared.frame.Line.{Line}
use Rattle.table.specs.Frame.{line_in}
use Rattle.table.specs.Side.{covers, leaf_on, leaves_on}

-- ---- boxes on one axis

-- a line between the two ends
pub covers_in : (p q i : ℕ) → min p q ≤ i → i ≤ max p q → covers p q i ≡ true
unfolding covers
covers_in p q i h k = rw (le-leb (min p q) i h, le-leb i (max p q) k)

-- below both
pub covers_low : (p q i : ℕ) → i < min p q → covers p q i ≡ false
unfolding covers
covers_low p q i h = rw (lt-leb (min p q) i h)

-- above both
pub covers_high : (p q i : ℕ) → max p q < i → covers p q i ≡ false
unfolding covers
covers_high p q i h = go (leb (min p q) i)
  where
    go : (b : Bool) → (b && leb i (max p q)) ≡ false
    go true = lt-leb i (max p q) h
    go false = refl

-- ---- one run put into the sets of its lines

-- the lines from lo up to i have the bit, the others are as they were
pub record Spread (bit lo : ℕ) (t s : List Line) (i : ℕ) : Type 0 where
  pub size : length s ≡ 64
  pub new : (j : ℕ) → lo ≤ j → j < i → (line_in s j).on ≡ bit + (line_in t j).on
  pub below : (j : ℕ) → j < lo → (line_in s j).on ≡ (line_in t j).on
  pub above : (j : ℕ) → i ≤ j → (line_in s j).on ≡ (line_in t j).on

-- behind the last line exactly the box has got the bit
pub spread_done : (bit lo hi : ℕ) (t s : List Line) (i : ℕ) → Spread bit lo t s i → lo ≤ hi → i ≡ hi + 1
    → (j : ℕ) → (line_in s j).on ≡ cond (covers lo hi j) bit 0 + (line_in t j).on
spread_done bit lo hi t s i r h e j = go (dec_lt j lo) (dec_le j hi)
  where
    go : Dec (j < lo) → Dec (j ≤ hi) → (line_in s j).on ≡ cond (covers lo hi j) bit 0 + (line_in t j).on
    go (yes a) b = rw (covers_low lo hi j (omega arith)) (omega (arith, r.below j a))
    go (no a) (yes b) = rw (covers_in lo hi j (omega arith) (omega arith)) (r.new j (omega arith) (omega arith))
    go (no a) (no b) = rw (covers_high lo hi j (omega arith)) (omega (arith, r.above j (omega arith)))

-- ---- the sets run by run

-- the sets of no runs are empty
pub leaves_none : (first second : List ℕ) (leaves i : ℕ) → leaves_on first second 0 leaves i ≡ 0
unfolding leaves_on pack
leaves_none first second leaves i = refl

-- one run more: its bit where it is a leaf whose box has the line
pub leaves_more : (first second : List ℕ) (n leaves i : ℕ)
    → leaves_on first second (n + 1) leaves i ≡ cond (has leaves n && covers (get_or first n 0) (get_or second n 0) i) (2 ^ n) 0 + leaves_on first second n leaves i
unfolding leaves_on leaf_on pack
leaves_more first second n leaves i = rw (add-one n)

-- a set of n runs has n digits
pub leaves_lt : (first second : List ℕ) (n leaves i : ℕ) → leaves_on first second n leaves i < 2 ^ n
unfolding leaves_on
leaves_lt first second n leaves i = pack_lt (leaf_on first second leaves i) n

-- ---- sets by a test

-- one run more: its bit where the test holds
pub pack_more : (f : ℕ → Bool) (n : ℕ) → pack f (n + 1) ≡ cond (f n) (2 ^ n) 0 + pack f n
unfolding pack
pack_more f n = rw (add-one n)
