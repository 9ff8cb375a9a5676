-- One axis in two countings: by steps from the centre's first line, as the code counts, and by numbers in the centre's view, as `sharing` counts.
-- The view counts the n lines forth or, where the centre goes back, from the last one.
use mathlib.Core.Path.{◌≡◌, refl, sym, ◌∙◌}
use mathlib.Core.Bool.{Bool, true, false, ◌&&◌, true≢false}
use Prim.Native.Nat.{ℕ, suc, ◌+◌, ◌-◌, ◌≤◌, ◌<◌, min, max}
use native.Mathlib.Omega.{arith}
use native.Mathlib.Decide.{dec_lt}
use lib.Dec.{leb, ltb}
use borrow.Author.Tests.{leb-true, le-leb, ltb-true, lt-ltb, le-ltb}
use Rattle.network.specs.Plane.{gap}
use Rattle.network.proofs.Tests.{and_split, and_join, same_test}
use Rattle.sharing.specs.View.{index, lower}
use Rattle.table.specs.Side.{covers}
use Rattle.table.specs.Frame.{line_of, lower_of, ahead}
use Rattle.table.proofs.Lines.{line_back, line_forth, lower_back, lower_forth}

-- by cases on the way that the centre goes
way : {A : Type 0} (p q : ℕ) → (q < p → ltb q p ≡ true → A) → (p ≤ q → ltb q p ≡ false → A) → A
way {A} p q back forth = go (dec_lt q p)
  where
    go : Dec (q < p) → A
    go (yes h) = back h (lt-ltb q p h)
    go (no h) = let l : p ≤ q = omega arith in forth l (le-ltb q p l)

-- a test of two bounds, taken apart
within : (a b c : ℕ) → leb a b && leb b c ≡ true → (a ≤ b) × (b ≤ c)
within a b c t = let (x, y) = and_split (leb a b) (leb b c) t in (leb-true a b x, leb-true b c y)

-- and put together
between : (a b c : ℕ) → a ≤ b → b ≤ c → leb a b && leb b c ≡ true
between a b c h k = and_join (leb a b) (leb b c) (le-leb a b h) (le-leb b c k)

-- counted back, the lower end is the higher one,
min_back : (n a b : ℕ) → a < n → b < n → min (n - suc a) (n - suc b) ≡ n - suc (max a b)
min_back n a b ha hb = omega arith

-- and the higher end the lower one
max_back : (n a b : ℕ) → a < n → b < n → max (n - suc a) (n - suc b) ≡ n - suc (min a b)
max_back n a b ha hb = omega arith

-- a line lies between two others in one counting exactly if it does in the other
turned : (n a b p i : ℕ) → a < n → b < n → p < n → i ≤ p
    → leb a (p - i) && leb (p - i) b ≡ leb (n - suc b) (n - suc p + i) && leb (n - suc p + i) (n - suc a)
turned n a b p i ha hb hp hi =
    same_test (leb a (p - i) && leb (p - i) b) (leb (n - suc b) (n - suc p + i) && leb (n - suc p + i) (n - suc a))
    (λ t. let (x, y) = within a (p - i) b t in between (n - suc b) (n - suc p + i) (n - suc a) (omega arith) (omega arith))
    (λ t. let (x, y) = within (n - suc b) (n - suc p + i) (n - suc a) t in between a (p - i) b (omega arith) (omega arith))

module _ (n p q : ℕ) (hp : p < n) (hq : q < n) where
  -- how many steps the centre goes
  pub axis_size : index (ltb q p) n q - index (ltb q p) n p ≡ gap p q
  unfolding gap
  axis_size = way p q (λ h e. rw e (omega arith)) (λ h e. rw e (omega arith))

  -- the lower of the two lines of an edge
  pub axis_lower : (i : ℕ) → i < gap p q → lower_of p q i ≡ lower (ltb q p) n (index (ltb q p) n p + i)
  unfolding gap
  axis_lower i h = way p q (λ l e. rw (e, lower_back p q i l) (omega arith)) (λ l e. rw (e, lower_forth p q i l))

  -- a box has a line
  pub axis_covers : (i a b : ℕ) → i ≤ gap p q → a < n → b < n
      → covers a b (line_of p q i)
      ≡ leb (min (index (ltb q p) n a) (index (ltb q p) n b)) (index (ltb q p) n p + i)
      && leb (index (ltb q p) n p + i) (max (index (ltb q p) n a) (index (ltb q p) n b))
  unfolding gap covers
  axis_covers i a b h ha hb =
      way p q
      (λ l e. rw (e, line_back p q i l, min_back n a b ha hb, max_back n a b ha hb)
      (turned n (min a b) (max a b) p i (omega arith) (omega arith) hp (omega arith)))
      (λ l e. rw (e, line_forth p q i l))

-- ---- a box cut to the lines from position p to position q

-- a line of the frame lies between the two positions
line_within : (p q i : ℕ) → i ≤ gap p q → (min p q ≤ line_of p q i) × (line_of p q i ≤ max p q)
unfolding gap
line_within p q i h = way p q (λ l e. rw (line_back p q i l) (omega arith, omega arith)) (λ l e. rw (line_forth p q i l) (omega arith, omega arith))

-- between two bounds a line lies in the box exactly if it does in what the bounds leave of it
cut : (x y u v lo hi z : ℕ) → u ≤ z → z ≤ v → lo ≡ max x u → hi ≡ min y v → leb x z && leb z y ≡ leb lo z && leb z hi
cut x y u v lo hi z h k l m =
    same_test (leb x z && leb z y) (leb lo z && leb z hi) (λ t. let (a, b) = within x z y t in between lo z hi (omega arith) (omega arith))
    (λ t. let (a, b) = within lo z hi t in between x z y (omega arith) (omega arith))

-- what the positions leave of a box ends at p where it is counted back,
pub high_back : (y p q hi : ℕ) → q < p → hi ≡ min y (max p q) → hi ≤ p
high_back y p q hi h e = omega arith

-- begins there where it is counted forth,
pub low_forth : (x p q lo : ℕ) → p ≤ q → lo ≡ max x (min p q) → p ≤ lo
low_forth x p q lo h e = omega arith

-- and no line of it is further from p than q is
pub far_back : (x p q lo : ℕ) → q < p → lo ≡ max x (min p q) → p - lo ≤ gap p q
unfolding gap
far_back x p q lo h e = omega arith

pub far_forth : (y p q hi : ℕ) → p ≤ q → hi ≡ min y (max p q) → hi - p ≤ gap p q
unfolding gap
far_forth y p q hi h e = omega arith

-- no more steps lead back than p has
step_back : (p q i : ℕ) → q < p → i ≤ gap p q → i ≤ p
unfolding gap
step_back p q i h k = omega arith

-- the lines from lo to hi, by steps back from p
back_test : (p lo hi i : ℕ) → hi ≤ p → lo ≤ hi → i ≤ p → leb lo (p - i) && leb (p - i) hi ≡ covers (p - hi) (p - lo) i
unfolding covers
back_test p lo hi i h k l =
    let u : min (p - hi) (p - lo) ≡ p - hi = omega arith in
    let v : max (p - hi) (p - lo) ≡ p - lo = omega arith in
    rw (u, v)
    (same_test (leb lo (p - i) && leb (p - i) hi) (leb (p - hi) i && leb i (p - lo))
    (λ t. let (x, y) = within lo (p - i) hi t in between (p - hi) i (p - lo) (omega arith) (omega arith))
    (λ t. let (x, y) = within (p - hi) i (p - lo) t in between lo (p - i) hi (omega arith) (omega arith)))

-- and by steps forth
forth_test : (p lo hi i : ℕ) → p ≤ lo → lo ≤ hi → leb lo (p + i) && leb (p + i) hi ≡ covers (lo - p) (hi - p) i
unfolding covers
forth_test p lo hi i h k =
    let u : min (lo - p) (hi - p) ≡ lo - p = omega arith in
    let v : max (lo - p) (hi - p) ≡ hi - p = omega arith in
    rw (u, v)
    (same_test (leb lo (p + i) && leb (p + i) hi) (leb (lo - p) i && leb i (hi - p))
    (λ t. let (x, y) = within lo (p + i) hi t in between (lo - p) i (hi - p) (omega arith) (omega arith))
    (λ t. let (x, y) = within (lo - p) i (hi - p) t in between lo (p + i) hi (omega arith) (omega arith)))

module _ (a b p q lo hi : ℕ) (el : lo ≡ max (min a b) (min p q)) (eh : hi ≡ min (max a b) (max p q)) (i : ℕ) (h : i ≤ gap p q) where
  -- so the frame's lines in the box are those from lo to hi
  lies : covers a b (line_of p q i) ≡ leb lo (line_of p q i) && leb (line_of p q i) hi
  unfolding covers
  lies = let (u, v) = line_within p q i h in cut (min a b) (max a b) (min p q) (max p q) lo hi (line_of p q i) u v el eh

  -- none of them,
  pub cut_apart : hi < lo → covers a b (line_of p q i) ≡ false
  cut_apart k =
      lies
      ∙ same_test (leb lo (line_of p q i) && leb (line_of p q i) hi) false (λ t. let (x, y) = within lo (line_of p q i) hi t in absurd (omega arith))
      (λ t. absurd (true≢false (sym t)))

  -- those from hi back to lo,
  pub cut_back : q < p → lo ≤ hi → covers a b (line_of p q i) ≡ covers (p - hi) (p - lo) i
  unfolding gap
  cut_back l k = lies ∙ rw (line_back p q i l) (back_test p lo hi i (high_back (max a b) p q hi l eh) k (step_back p q i l h))

  -- or those from lo forth to hi
  pub cut_forth : p ≤ q → lo ≤ hi → covers a b (line_of p q i) ≡ covers (lo - p) (hi - p) i
  cut_forth l k = lies ∙ rw (line_forth p q i l) (forth_test p lo hi i (low_forth (min a b) p q lo l el) k)

-- ---- slopes

-- a run goes ahead
pub axis_ahead : (f : Bool) (n a b : ℕ) → a < n → b < n → ahead f a b ≡ ltb (index f n a) (index f n b)
unfolding ahead
axis_ahead false n a b ha hb = refl
axis_ahead true n a b ha hb =
    same_test (ltb b a) (ltb (n - suc a) (n - suc b)) (λ t. let h = ltb-true b a t in lt-ltb (n - suc a) (n - suc b) (omega arith))
    (λ t. let h = ltb-true (n - suc a) (n - suc b) t in lt-ltb b a (omega arith))
