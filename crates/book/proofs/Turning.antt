-- The corners of a Manhattan route between two points turn.
--
-- The straight way from a corner p ends at q where p, q and the next point r are not on one line. The pieces are straight, so q is not p, and r is not q:
-- the corner q is joined to p, and turned towards r. Where the route goes on from r in the line of q and r, it does not come back to q, since it is monotone.
-- So the end of that straight way stays apart from q and off the line of p and q. A route that goes straight on to its end has its two points for corners.
use mathlib.Core.Path.{◌≡◌, refl, sym, ap, ◌∙◌}
use mathlib.Core.Logic.{inl, inr, ⊎_map}
use mathlib.Core.Bool.{Bool, true, false}
use mathlib.Core.List.{List, [], ◌∷◌}
use Prim.Native.Nat.{ℕ}
use native.Mathlib.Omega.{arith}
use Rattle.network.specs.Lists.{All}
use Rattle.network.specs.Plane.{Point, Run, ◌to◌}
use Rattle.network.specs.Grid.{Grid}
use Rattle.network.specs.Route.{Route, pieces_from, Straight, Manhattan}
use Rattle.network.specs.Corners.{straight_on, corners_from, corners}
use Rattle.network.proofs.Numbers.{between_same}
use Rattle.network.proofs.Lanes.{point_path}
use Rattle.network.proofs.Monotone.{Towards, towards_first, towards_trans, Monotone, monotone}
use Rattle.network.proofs.Joining.{On-line, line_straight}
use Rattle.network.proofs.Corners.{line_true, true_line, TwoPoints}
use Rattle.book.specs.Right.{Turned, Turning}

-- ---- one turn

-- points that the test does not find on one line are on none
pub off_line : (p q r : Point) → straight_on p q r ≡ false → On-line p q r → ⊥
off_line p q r n s = let t = true_line p q r s in let z : ◌≡◌ {A = ℕ} 0 1 = cc in omega arith

-- where one of two pieces has no length, and the other is straight, they are in line
first_still : (p q r : Point) → p ≡ q → Straight (q to r) → On-line p q r
first_still p q r e s =
    ⊎_map (λ d. record { here = ap (λ (o : Point). o.x) e; there = d }) (λ d. record { here = ap (λ (o : Point). o.y) e; there = d }) s

-- the same of the second piece
second_still : (p q r : Point) → q ≡ r → Straight (p to q) → On-line p q r
second_still p q r e s =
    ⊎_map (λ d. record { here = d; there = ap (λ (o : Point). o.x) e }) (λ d. record { here = d; there = ap (λ (o : Point). o.y) e }) s

-- two straight pieces that are not in line make a turn
turn : (p q r : Point) → Straight (p to q) → Straight (q to r) → straight_on p q r ≡ false → Turning (p ∷ q ∷ r ∷ [])
turn p q r s t n = (
  record { differ = λ e. off_line p q r n (first_still p q r e t); along = s },
  record {
    column = λ a b. off_line p q r n (inl (record { here = a; there = b }));
    row = λ a b. off_line p q r n (inr (record { here = a; there = b }));
  },
  record { differ = λ e. off_line p q r n (second_still p q r e s); along = t },
)

-- ---- straight on

-- on the way from a point back to it lies no other
towards_same : (p q r : Point) → Towards p q r → p ≡ r → p ≡ q
towards_same p q r t e = e ∙ sym (point_path (between_same t.in_x (ap (λ o. o.x) e)) (between_same t.in_y (ap (λ o. o.y) e)))

-- a turn from o over p to q is one to r, where the way goes straight on from q to r
turn_on : (o p q r : Point) → Towards p q r → On-line p q r → Turning (o ∷ p ∷ q ∷ []) → Turning (o ∷ p ∷ r ∷ [])
turn_on o p q r t s h = (h.0, go s, record { differ = far; along = line_straight p q r s })
  where
    far : p ≡ r → ⊥
    far e = h.2.differ (towards_same p q r t e)

    go : On-line p q r → Turned o p r
    go (inl k) = record { column = λ a b. h.1.column a k.here; row = λ a b. far (point_path (k.here ∙ k.there) b) }
    go (inr k) = record { column = λ a b. far (point_path b (k.here ∙ k.there)); row = λ a b. h.1.row a k.here }

-- ---- the corners

-- after a turn from o over p to q, all corners turn
turning_after : (o p q : Point) (l : List Point) (z : Point) → Turning (o ∷ p ∷ q ∷ []) → All Straight (pieces_from q l) → Monotone p (q ∷ l) z
    → Turning (o ∷ p ∷ corners_from p q l)
turning_after o p q [] z h s m = h
turning_after o p q (r ∷ l) z h s m = go (straight_on p q r) refl (λ k. turning_after o p r l z k s.1 (towards_trans m.0 m.1.0, m.1.1))
    (λ k. turning_after p q r l z k s.1 m.1)
  where
    go : (b : Bool) → straight_on p q r ≡ b → (Turning (o ∷ p ∷ r ∷ []) → Turning (o ∷ p ∷ corners_from p r l))
        → (Turning (p ∷ q ∷ r ∷ []) → Turning (p ∷ q ∷ corners_from q r l))
        → Turning (o ∷ p ∷ elim b as (λ u. List Point) [ true ↦ corners_from p r l | false ↦ q ∷ corners_from q r l ])
    go true e on at = on (turn_on o p q r (towards_first m.0 m.1.0) (line_true p q r e) h)
    go false e on at = (h.0, h.1, at (turn p q r h.2.along s.0 e))

-- from the start p to another point z, with q the end of the straight way so far
turning_from : (p q : Point) (l : List Point) (z : Point) → (p ≡ z → ⊥) → Straight (p to q) → All Straight (pieces_from q l) → Monotone p (q ∷ l) z
    → Turning (p ∷ corners_from p q l)
turning_from p q [] z far d s m = record { differ = λ e. far (e ∙ m.1); along = d }
turning_from p q (r ∷ l) z far d s m = go (straight_on p q r) refl (λ k. turning_from p r l z far k s.1 (towards_trans m.0 m.1.0, m.1.1))
  where
    go : (b : Bool) → straight_on p q r ≡ b → (Straight (p to r) → Turning (p ∷ corners_from p r l))
        → Turning (p ∷ elim b as (λ u. List Point) [ true ↦ corners_from p r l | false ↦ q ∷ corners_from q r l ])
    go true e on = on (line_straight p q r (line_true p q r e))
    go false e on = turning_after p q r l z (turn p q r d s.0 e) s.1 m.1

-- the corners of a Manhattan route between two points turn
pub corners_turning : (g : Grid) (run : Run) (route : Route) → TwoPoints run → Manhattan g run route → Turning (corners route)
corners_turning g run [] two m = tt
corners_turning g run (p ∷ []) two m = tt
corners_turning g run (p ∷ q ∷ l) two m = turning_from p q l run.second (λ e. two (sym m.starts ∙ e)) m.straight.0 m.straight.1 (monotone p (q ∷ l) m)
