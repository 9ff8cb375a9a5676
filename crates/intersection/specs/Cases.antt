-- The cases that a person draws of two boxes: "apart, one common point, a common piece of line, a common area" (02, C-13). A box is "the rectangle region
-- { z | p ∧ q ≤ z ≤ p ∨ q }" (000, 2.3); the cases speak of the points that two boxes have in common, and of no side.
use Rattle.std.specs.Prelude.{◌≡◌, ◌⊎◌, Bool, true, false, ◌≤◌, min, max}
use Rattle.network.specs.Plane.{Point, Run}
use Rattle.intersection.specs.declared.Box.{Box}
use Rattle.intersection.specs.declared.Case.{Case}
use Rattle.intersection.specs.declared.Case.TheVariants.{Apart, OnePoint, LinePiece, Area}

-- the box of a run
abbrev pub box_of : Run → Box
box_of r =
    record {
      left = min r.first.x r.second.x;
      right = max r.first.x r.second.x;
      low = min r.first.y r.second.y;
      high = max r.first.y r.second.y;
    }

-- the point lies in the box
pub record In (b : Box) (p : Point) : Type 0 where
  pub from_left : b.left ≤ p.x
  pub to_right : p.x ≤ b.right
  pub from_low : b.low ≤ p.y
  pub to_high : p.y ≤ b.high

-- the points that two boxes have in common
abbrev pub Common : Box → Box → Point → Type 0
Common a b p = In a p × In b p

-- all of some points are on one row, or all on one column
abbrev pub OneRow : (Point → Type 0) → Type 0
OneRow P = (p q : Point) → P p → P q → p.y ≡ q.y

abbrev pub OneColumn : (Point → Type 0) → Type 0
OneColumn P = (p q : Point) → P p → P q → p.x ≡ q.x

-- the case that some points make: there is none; there is exactly one; there is more than one, all on one row or all on one column; two of them are
-- on no common row and on no common column
abbrev pub Makes : (Point → Type 0) → Case → Type 0
Makes P Apart = (p : Point) → P p → ⊥
Makes P OnePoint = (p : Point) × P p × ((q : Point) → P q → q ≡ p)
Makes P LinePiece = ((p : Point) × (q : Point) × P p × P q × (p ≡ q → ⊥)) × (OneRow P ⊎ OneColumn P)
Makes P Area = (p : Point) × (q : Point) × P p × P q × (p.x ≡ q.x → ⊥) × (p.y ≡ q.y → ⊥)

-- the cases in which two different runs meet
abbrev pub meeting : Case → Bool
meeting Apart = false
meeting OnePoint = false
meeting LinePiece = true
meeting Area = true
