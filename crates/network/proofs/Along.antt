-- The sum along a route, for any weight of the edges: a Manhattan route passes an edge at most once, so the sum over the edges on the
-- route is the sum over its pieces.
--
-- An edge on the piece from p to q spans a stretch between p and q in one coordinate. All that comes after lies in the box of q and the route's
-- end z, and q is between p and z: in that coordinate the stretch is before q, and the rest of the route behind it. An edge has a length, so it
-- cannot be in both. So the test "on the first piece or on the rest" selects the sum of what its two parts select.
use mathlib.Core.Path.{◌≡◌}
use mathlib.Core.Logic.{◌⊎◌, inl, inr}
use mathlib.Core.List.{List, [], ◌∷◌}
use mathlib.Core.Bool.{Bool, true, cond, ◌||◌, false≢true}
use Prim.Native.Nat.{ℕ, ◌+◌, ◌<◌}
use native.Mathlib.Omega.{arith}
use Rattle.network.specs.Lists.{sum, any, All}
use Rattle.network.specs.Plane.{Point, Run, ◌to◌}
use Rattle.network.specs.Grid.{Grid, Edge, across, upward, inside, edges}
use Rattle.network.specs.Route.{pieces_from, pieces, Route, Manhattan, lies, on}
use Rattle.network.proofs.Tests.{or_split, cond_or, Level, Spans, Lies, Inside, lies_true, true_inside}
use Rattle.network.proofs.Sums.{sum_add, sum_zero}
use Rattle.network.proofs.Edges.{Proper, OfGrid, proper, edges_cong}
use Rattle.network.proofs.Numbers.{Between, rise, fall}
use Rattle.network.proofs.Monotone.{Towards, Monotone, in_box, monotone, route_in_box}

-- ---- an edge on a route is in the run's box

-- what lies between two numbers of a range lies in the range
pub spans_wide : {o r s z lo hi : ℕ} → Between o r z → Between o s z → Spans r s lo hi → Spans o z lo hi
spans_wide (rise a b) (rise c d) h = omega arith
spans_wide (rise a b) (fall c d) h = omega arith
spans_wide (fall a b) (rise c d) h = omega arith
spans_wide (fall a b) (fall c d) h = omega arith

-- a point of the way, on a line
spans_point : {o r s z c : ℕ} → Between o r z → Level r s c → Spans o z c c
spans_point (rise a b) h = omega arith
spans_point (fall a b) h = omega arith

-- an edge on a piece between two points of a box lies in the box
pub lies_inside : (e : Edge) (o r s z : Point) → Towards o r z → Towards o s z → Lies e (r to s) → Inside e (o to z)
lies_inside (across x x' y) o r s z t u h = (spans_wide t.in_x u.in_x h.1, spans_point t.in_y h.0)
lies_inside (upward x y y') o r s z t u h = (spans_point t.in_x h.0, spans_wide t.in_y u.in_y h.1)

-- and so does an edge on a walk whose points are in the box
pub on_inside : (e : Edge) (o p : Point) (l : List Point) (z : Point) → All (λ r. Towards o r z) (p ∷ l)
    → any (lies e) (pieces_from p l) ≡ true → Inside e (o to z)
on_inside e o p [] z a h = absurd (false≢true h)
on_inside e o p (q ∷ l) z a h = go (or_split (lies e (p to q)) (any (lies e) (pieces_from q l)) h) (on_inside e o q l z a.1)
  where
    go : (lies e (p to q) ≡ true) ⊎ (any (lies e) (pieces_from q l) ≡ true)
        → (any (lies e) (pieces_from q l) ≡ true → Inside e (o to z)) → Inside e (o to z)
    go (inl k) r = lies_inside e o p q z a.0 a.1.0 (lies_true e (p to q) k)
    go (inr k) r = r k

-- ---- no edge is passed twice

-- a stretch that is passed before q is not passed behind it
spans_once : {p q z lo hi : ℕ} → Between p q z → lo < hi → Spans p q lo hi → Spans q z lo hi → ⊥
spans_once (rise a b) l h k = omega arith
spans_once (fall a b) l h k = omega arith

-- an edge on the piece from p to q is not in the box of q and z
passed_once : (e : Edge) (p q z : Point) → Proper e → Towards p q z → Lies e (p to q) → Inside e (q to z) → ⊥
passed_once (across x x' y) p q z l t h k = spans_once t.in_x l h.1 k.0
passed_once (upward x y y') p q z l t h k = spans_once t.in_y l h.1 k.1

-- ---- the sum

-- the sum of w over the edges of the grid that pass a test
abbrev pub selected : Grid → (Edge → ℕ) → (Edge → Bool) → ℕ
selected g w t = sum (λ e. cond (t e) (w e) 0) (edges g)

-- the sum over those that lie on a piece
abbrev pub on_piece : Grid → (Edge → ℕ) → Run → ℕ
on_piece g w r = selected g w (λ e. lies e r)

-- the sum along a walk
along_from : (g : Grid) (w : Edge → ℕ) (p : Point) (l : List Point) (z : Point) → Monotone p l z
    → selected g w (λ e. any (lies e) (pieces_from p l)) ≡ sum (on_piece g w) (pieces_from p l)
along_from g w p [] z m = sum_zero (edges g)
along_from g w p (q ∷ l) z m =
    let apart : (e : Edge) → OfGrid g e
    → cond (lies e (p to q) || any (lies e) (pieces_from q l)) (w e) 0
    ≡ cond (lies e (p to q)) (w e) 0 + cond (any (lies e) (pieces_from q l)) (w e) 0
    = λ e k. cond_or (lies e (p to q)) (any (lies e) (pieces_from q l)) (w e)
    (λ a b. passed_once e p q z (proper g e k) m.0 (lies_true e (p to q) a) (on_inside e q q l z (in_box q l z m.1) b)) in
    omega (
      arith,
      edges_cong g _ _ apart,
      sum_add (λ e. cond (lies e (p to q)) (w e) 0) (λ e. cond (any (lies e) (pieces_from q l)) (w e) 0) (edges g),
      along_from g w q l z m.1,
    )

-- the sum of w over the edges on a Manhattan route is the sum over the route's pieces
pub along : (g : Grid) (w : Edge → ℕ) (run : Run) (route : Route) → Manhattan g run route
    → selected g w (λ e. on e route) ≡ sum (on_piece g w) (pieces route)
along g w run [] m = sum_zero (edges g)
along g w run (p ∷ l) m = along_from g w p l run.second (monotone p l m)

-- an edge on a Manhattan route lies in the run's box
pub on_route_inside : {g : Grid} (e : Edge) (run : Run) (route : Route) → Manhattan g run route → on e route ≡ true → inside e run ≡ true
on_route_inside e run [] m h = absurd (false≢true h)
on_route_inside e run (p ∷ l) m h = true_inside e run (on_inside e run.first p l run.second (route_in_box (p ∷ l) m) h)
