-- The first corners of a route, and the pieces between them: with one corner more there is one piece more.
use mathlib.Core.Path.{◌≡◌, refl, ap, ◌∙◌}
use mathlib.Core.Bool.{Bool, ◌&&◌, ◌||◌, or-false, and-true}
use mathlib.Core.List.{List, [], ◌∷◌, ◌++◌}
use Prim.Native.Nat.{ℕ, zero, suc, ◌+◌, ◌*◌, ◌-◌, ◌≤◌, ◌<◌}
use native.Mathlib.Numerals.{add-one}
use native.Mathlib.Omega.{arith}
use lib.ListN.{length, get_or, take}
use lib.Seq.{take-suc}
use Rattle.network.specs.Lists.{sum, any, every}
use Rattle.network.specs.Plane.{Point, Run, distance, ◌to◌, same_point}
use Rattle.network.specs.Grid.{Edge}
use Rattle.network.specs.Route.{Route, pieces, pieces_from, last_from, lies, on}
use Rattle.network.specs.Graph.{origin}
use Rattle.network.specs.Passes.{among}
use Rattle.network.proofs.Sums.{sum_append}
use Rattle.network.proofs.Lists.{any_append}
use Rattle.network.proofs.Lanes.{point_path}
use Rattle.intersection.proofs.Lists.{every_append}
use Rattle.book.specs.declared.Corner.{Corner}
use Rattle.judge.specs.Steps.{corner_there, Drawn}

-- ---- one corner more

-- the piece from corner k - 1 to corner k
abbrev pub piece_to : Route → ℕ → Run
piece_to route k = get_or route (k - 1) origin to get_or route k origin

-- the first k corners, and one more
corners_more : (route : Route) (k : ℕ) → k < length route → take (k + 1) route ≡ take k route ++ (get_or route k origin ∷ [])
corners_more route k h = ap (λ n. take n route) (add-one k) ∙ take-suc route k origin h

-- the pieces from a point through the first k points of a list, and one more
from_more : (p : Point) (l : List Point) (k : ℕ) → k < length l
    → pieces_from p (take (suc k) l) ≡ pieces_from p (take k l) ++ ((get_or (p ∷ l) k origin to get_or l k origin) ∷ [])
from_more p [] k h = absurd (omega arith)
from_more p (q ∷ l) zero h = refl
from_more p (q ∷ l) (suc k) h = ap (λ r. (p to q) ∷ r) (from_more q l k (omega arith))

-- so the pieces between the first k corners, and one more
pieces_more : (route : Route) (k : ℕ) → 0 < k → k < length route → pieces (take (k + 1) route) ≡ pieces (take k route) ++ (piece_to route k ∷ [])
pieces_more [] k h l = absurd (omega arith)
pieces_more (p ∷ route) zero h l = absurd (omega arith)
pieces_more (p ∷ route) (suc k) h l =
    let e : k ≡ suc k - 1 = omega arith in
    ap (λ n. pieces (take n (p ∷ route))) (add-one (suc k))
    ∙ from_more p route k (omega arith)
    ∙ ap (λ j. pieces (take (suc k) (p ∷ route)) ++ ((get_or (p ∷ route) j origin to get_or (p ∷ route) (suc k) origin) ∷ [])) e

-- ---- what is told of the first corners, with one more

module _ (route : Route) (k : ℕ) (l : k < length route) where
  -- the points among them
  pub among_more : (p : Point) → among p (take (k + 1) route) ≡ (among p (take k route) || same_point p (get_or route k origin))
  among_more p =
      ap (among p) (corners_more route k l)
      ∙ any_append (same_point p) (take k route) (get_or route k origin ∷ [])
      ∙ ap (λ b. among p (take k route) || b) (or-false (same_point p (get_or route k origin)))

  -- a test of each
  pub every_more : (t : Point → Bool) → every t (take (k + 1) route) ≡ (every t (take k route) && t (get_or route k origin))
  every_more t =
      ap (every t) (corners_more route k l)
      ∙ every_append t (take k route) (get_or route k origin ∷ [])
      ∙ ap (λ b. every t (take k route) && b) (and-true (t (get_or route k origin)))

  module _ (h : 0 < k) where
    -- the length of their pieces
    pub length_more : sum distance (pieces (take (k + 1) route)) ≡ sum distance (pieces (take k route)) + distance (piece_to route k)
    length_more =
        ap (sum distance) (pieces_more route k h l)
        ∙ sum_append distance (pieces (take k route)) (piece_to route k ∷ [])
        ∙ omega arith

    -- the edges on them
    pub on_more : (e : Edge) → on e (take (k + 1) route) ≡ (on e (take k route) || lies e (piece_to route k))
    on_more e =
        ap (any (lies e)) (pieces_more route k h l)
        ∙ any_append (lies e) (pieces (take k route)) (piece_to route k ∷ [])
        ∙ ap (λ b. on e (take k route) || b) (or-false (lies e (piece_to route k)))

-- ---- the ends

-- the first corner
pub first_corner : (route : Route) → 0 < length route → take 1 route ≡ get_or route 0 origin ∷ []
first_corner [] h = absurd (omega arith)
first_corner (p ∷ route) h = refl

-- the last corner
pub last_corner : (p : Point) (l : List Point) → last_from p l ≡ get_or (p ∷ l) (length l) origin
last_corner p [] = refl
last_corner p (q ∷ l) = last_corner q l

-- ---- corners that stand in a book

-- the point of a corner record, which is in range
pub corner_read : (book : List ℕ) (at : ℕ) (route : Route) → Drawn book at route → (j : ℕ) → j < length route → (c : Corner) → c ≡ corner_there book (at + 9 * j)
    → (record { x = c.x; y = c.y } ≡ get_or route j origin) × (c.x ≤ 2000000) × (c.y ≤ 2000000)
corner_read book at route d j h c e =
    let x : c.x ≡ (get_or route j origin).x = ap (λ (k : Corner). k.x) e ∙ d.x_is j h in
    let y : c.y ≡ (get_or route j origin).y = ap (λ (k : Corner). k.y) e ∙ d.y_is j h in
    (point_path x y, omega (arith, (d.in_range j h).x_in), omega (arith, (d.in_range j h).y_in))
