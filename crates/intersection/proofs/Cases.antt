-- The cases of two boxes: any points make at most one of them, the common points of two boxes make one, and two different runs meet exactly in the last two.
--
-- What two boxes have in common is the rectangle from the greater of their left sides to the lesser of their right sides, and from the greater of their low
-- sides to the lesser of their high ones. It has no point where a side has passed the other; else its lower left corner and its upper right corner are
-- common points. They are one point, or two on a row or on a column, and then all points between are; or they are on no common row and no common column.
use mathlib.Core.Path.{◌≡◌, refl, sym, ap, ◌∙◌}
use mathlib.Core.Logic.{◌⊎◌, inl, inr}
use mathlib.Core.List.{List}
use mathlib.Core.Bool.{Bool, true, false, ◌&&◌, ◌||◌, true≢false}
use Prim.Native.Nat.{ℕ, ◌≤◌, ◌<◌, min, max}
use native.Mathlib.Omega.{arith}
use borrow.Author.Tests.{ltb-true, ltb-false, eqb-true, eqb-false, eq-eqb, ne_eqb}
use lib.Dec.{eqb, ltb}
use lib.ListN.{length}
use Rattle.network.specs.Plane.{Point, Run}
use Rattle.network.specs.Grid.{Grid}
use Rattle.network.specs.Hanan.{hanan}
use Rattle.network.specs.Graph.{overlap, run_at, meets}
use Rattle.network.specs.Boxes.{Placed}
use Rattle.network.proofs.Tests.{and_split, and_join, or_split, neither, outcome, is_false}
use Rattle.network.proofs.Lanes.{point_path}
use Rattle.network.proofs.Hanan.{hanan_placed_at}
use Rattle.network.proofs.Meeting.{InBoth, overlap_two, two_overlap}
use Rattle.intersection.specs.declared.Box.{Box}
use Rattle.intersection.specs.declared.Case.{Case}
use Rattle.intersection.specs.declared.Case.TheVariants.{Apart, OnePoint, LinePiece, Area}
use Rattle.intersection.specs.Cases.{box_of, Common, OneRow, OneColumn, Makes, meeting}

-- ---- any points make at most one case

module _ (P : Point → Type 0) where
  -- a single point and two points
  point_two : Makes P OnePoint → (p q : Point) → P p → P q → p ≡ q
  point_two (z, i, u) p q h k = u p h ∙ sym (u q k)

  -- a line, and two points on no common row and no common column
  line_area : Makes P LinePiece → Makes P Area → ⊥
  line_area (m, inl row) (p, q, h, k, x, y) = y (row p q h k)
  line_area (m, inr column) (p, q, h, k, x, y) = x (column p q h k)

  -- so no two cases are made
  one_case : (c d : Case) → Makes P c → Makes P d → c ≡ d
  one_case Apart Apart m n = refl
  one_case Apart OnePoint m (p, h, u) = absurd (m p h)
  one_case Apart LinePiece m ((p, q, h, k, d), l) = absurd (m p h)
  one_case Apart Area m (p, q, h, k, x, y) = absurd (m p h)
  one_case OnePoint Apart (p, h, u) n = absurd (n p h)
  one_case OnePoint OnePoint m n = refl
  one_case OnePoint LinePiece m ((p, q, h, k, d), l) = absurd (d (point_two m p q h k))
  one_case OnePoint Area m (p, q, h, k, x, y) = absurd (x (ap (λ (z : Point). z.x) (point_two m p q h k)))
  one_case LinePiece Apart ((p, q, h, k, d), l) n = absurd (n p h)
  one_case LinePiece OnePoint ((p, q, h, k, d), l) n = absurd (d (point_two n p q h k))
  one_case LinePiece LinePiece m n = refl
  one_case LinePiece Area m n = absurd (line_area m n)
  one_case Area Apart (p, q, h, k, x, y) n = absurd (n p h)
  one_case Area OnePoint (p, q, h, k, x, y) n = absurd (x (ap (λ (z : Point). z.x) (point_two n p q h k)))
  one_case Area LinePiece m n = absurd (line_area n m)
  one_case Area Area m n = refl

-- ---- two boxes make one

-- the sides of what two boxes have in common
pub record CommonSides (a b : Box) (left right low high : ℕ) : Type 0 where
  pub left_is : left ≡ max a.left b.left
  pub right_is : right ≡ min a.right b.right
  pub low_is : low ≡ max a.low b.low
  pub high_is : high ≡ min a.high b.high

module _ (a b : Box) (left right low high : ℕ) (s : CommonSides a b left right low high) where
  -- the points in both boxes are those between the sides
  between : (p : Point) → left ≤ p.x → p.x ≤ right → low ≤ p.y → p.y ≤ high → Common a b p
  between p h k m n = (omega arith, omega arith)

  -- and back
  common_between : (p : Point) → Common a b p → (left ≤ p.x) × (p.x ≤ right) × (low ≤ p.y) × (p.y ≤ high)
  common_between p h = (omega arith, omega arith, omega arith, omega arith)

  -- the lower left corner, where there is one
  abbrev lower : Point
  lower = record { x = left; y = low }

  -- and the upper right one
  abbrev upper : Point
  upper = record { x = right; y = high }

  -- a side has passed the other: apart
  pub apart_made : (ltb right left || ltb high low) ≡ true → Makes (Common a b) Apart
  apart_made t p h = go (or_split (ltb right left) (ltb high low) t) (common_between p h)
    where
      go : (ltb right left ≡ true) ⊎ (ltb high low ≡ true) → (left ≤ p.x) × (p.x ≤ right) × (low ≤ p.y) × (p.y ≤ high) → ⊥
      go (inl e) m = omega (arith, ltb-true right left e)
      go (inr e) m = omega (arith, ltb-true high low e)

  -- the sides coincide in x and in y: one point
  pub point_made : (eqb left right && eqb low high) ≡ true → Makes (Common a b) OnePoint
  point_made t =
      let (i, j) = and_split (eqb left right) (eqb low high) t in
      let x = eqb-true left right i in
      let y = eqb-true low high j in (
        lower,
        between lower (omega arith) (omega arith) (omega arith) (omega arith),
        λ q h. let m = common_between q h in
            point_path (omega arith) (omega arith),
      )

  module _ (t : (ltb right left || ltb high low) ≡ false) where
    -- no side has passed the other
    ordered : (left ≤ right) × (low ≤ high)
    ordered = let (i, j) = neither (ltb right left) (ltb high low) t in (ltb-false right left i, ltb-false high low j)

    -- so both corners are common points
    lower_common : Common a b lower
    lower_common = let (h, k) = ordered in between lower (omega arith) h (omega arith) k

    upper_common : Common a b upper
    upper_common = let (h, k) = ordered in between upper h (omega arith) k (omega arith)

    -- they coincide in x or in y, and not in both: a piece of line
    pub line_made : (eqb left right && eqb low high) ≡ false → (eqb left right || eqb low high) ≡ true → Makes (Common a b) LinePiece
    line_made n e = ((lower, upper, lower_common, upper_common, two), go (or_split (eqb left right) (eqb low high) e))
      where
        two : lower ≡ upper → ⊥
        two z =
            true≢false
            (sym (and_join (eqb left right) (eqb low high) (eq-eqb left right (ap (λ (p : Point). p.x) z)) (eq-eqb low high (ap (λ (p : Point). p.y) z)))
            ∙ n)

        go : (eqb left right ≡ true) ⊎ (eqb low high ≡ true) → OneRow (Common a b) ⊎ OneColumn (Common a b)
        go (inl i) = inr (λ p q h k. omega (arith, eqb-true left right i, common_between p h, common_between q k))
        go (inr i) = inl (λ p q h k. omega (arith, eqb-true low high i, common_between p h, common_between q k))

    -- they coincide in neither: an area
    pub area_made : (eqb left right || eqb low high) ≡ false → Makes (Common a b) Area
    area_made n =
        let (i, j) = neither (eqb left right) (eqb low high) n in
        (lower, upper, lower_common, upper_common, eqb-false left right i, eqb-false low high j)

-- so the common points of two boxes make one case ..
some_case : (a b : Box) → (c : Case) × Makes (Common a b) c
some_case a b = go (outcome (ltb right left || ltb high low)) (outcome (eqb left right && eqb low high)) (outcome (eqb left right || eqb low high))
  where
    left : ℕ
    left = max a.left b.left

    right : ℕ
    right = min a.right b.right

    low : ℕ
    low = max a.low b.low

    high : ℕ
    high = min a.high b.high

    s : CommonSides a b left right low high
    s = record { left_is = refl; right_is = refl; low_is = refl; high_is = refl }

    Either : Bool → Type 0
    Either t = (t ≡ true) ⊎ (t ≡ false)

    go : Either (ltb right left || ltb high low) → Either (eqb left right && eqb low high) → Either (eqb left right || eqb low high) → (c : Case) × Makes (Common a b) c
    go (inl t) u v = (Apart, apart_made a b left right low high s t)
    go (inr t) (inl u) v = (OnePoint, point_made a b left right low high s u)
    go (inr t) (inr u) (inl v) = (LinePiece, line_made a b left right low high s t u v)
    go (inr t) (inr u) (inr v) = (Area, area_made a b left right low high s t v)

-- .. and exactly one
pub exactly_one_case : (a b : Box) → (c : Case) × Makes (Common a b) c × ((d : Case) → Makes (Common a b) d → d ≡ c)
exactly_one_case a b =
    let (c, m) = some_case a b in
    (c, m, λ d n. one_case (Common a b) d c n m)

-- ---- runs

-- the common points of two runs' boxes, as the network has them
module _ (r q : Run) where
  both_in : (p : Point) → InBoth r q p → Common (box_of r) (box_of q) p
  both_in p h = (omega arith, omega arith)

  in_both : (p : Point) → Common (box_of r) (box_of q) p → InBoth r q p
  in_both p h = ((omega arith, omega arith), (omega arith, omega arith))

-- on every grid on which two runs are placed, an edge lies in both boxes exactly in the last two cases
pub overlap_case : (g : Grid) (r s : Run) → Placed g r → Placed g s → (c : Case) → Makes (Common (box_of r) (box_of s)) c → overlap g r s ≡ meeting c
overlap_case g r s u v Apart m =
    is_false (overlap g r s) (λ h. let (p, q, d, i, j) = overlap_two g r s h in m p (both_in r s p i))
overlap_case g r s u v OnePoint m =
    is_false (overlap g r s)
    (λ h. let (p, q, d, i, j) = overlap_two g r s h in d (point_two (Common (box_of r) (box_of s)) m p q (both_in r s p i) (both_in r s q j)))
overlap_case g r s u v LinePiece ((p, q, i, j, d), l) = two_overlap g r s u v p q d (in_both r s p i) (in_both r s q j)
overlap_case g r s u v Area (p, q, i, j, x, y) =
    two_overlap g r s u v p q (λ e. x (ap (λ (z : Point). z.x) e)) (in_both r s p i) (in_both r s q j)

-- so two different runs meet exactly in these cases
pub meets_case : (g : Grid) (runs : List Run) (i j : ℕ) → (i ≡ j → ⊥) → Placed g (run_at runs i) → Placed g (run_at runs j)
    → (c : Case) → Makes (Common (box_of (run_at runs i)) (box_of (run_at runs j))) c → meets g runs i j ≡ meeting c
unfolding meets
meets_case g runs i j n u v c m = rw (ne_eqb i j n) (overlap_case g (run_at runs i) (run_at runs j) u v c m)

-- and on the runs' own Hanan grid
pub meets_hanan : (runs : List Run) (i j : ℕ) → i < length runs → j < length runs → (i ≡ j → ⊥)
    → (c : Case) → Makes (Common (box_of (run_at runs i)) (box_of (run_at runs j))) c → meets (hanan runs) runs i j ≡ meeting c
meets_hanan runs i j h k n = meets_case (hanan runs) runs i j n (hanan_placed_at runs i h) (hanan_placed_at runs j k)
