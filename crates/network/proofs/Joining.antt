-- Two pieces in line make one piece: an edge of the grid lies on that one exactly if it lies on one of the two.
use mathlib.Core.Path.{◌≡◌, ◌∙◌}
use mathlib.Core.Logic.{◌⊎◌, inl, inr, ⊎_map}
use mathlib.Core.Bool.{false, ◌||◌}
use Prim.Native.Nat.{ℕ, ◌≤◌}
use native.Mathlib.Omega.{arith}
use Rattle.network.specs.Plane.{Point, ◌to◌}
use Rattle.network.specs.Grid.{Grid, Edge}
use Rattle.network.specs.Route.{Vertex, Straight, lies}
use Rattle.network.proofs.Tests.{is_false, or_split, or_join, same_test, Spans, Lies, lies_true, true_lies}
use Rattle.network.proofs.Edges.{OfGrid, across_of, upward_of}
use Rattle.network.proofs.Numbers.{Between, rise, fall}
use Rattle.network.proofs.Rising.{beside}
use Rattle.network.proofs.Monotone.{Towards}

-- three numbers are equal
pub record Through (a b c : ℕ) : Type 0 where
  pub here : a ≡ b
  pub there : b ≡ c

-- three points are on one line
abbrev pub On-line : Point → Point → Point → Type 0
On-line p q r = Through p.x q.x r.x ⊎ Through p.y q.y r.y

-- the outer two of them make a straight piece
pub line_straight : (p q r : Point) → On-line p q r → Straight (p to r)
line_straight p q r s = ⊎_map (λ t. t.here ∙ t.there) (λ t. t.here ∙ t.there) s

-- what spans part of a way spans the way; and what spans a way spans one of its parts, unless it has the point between in it
spans_join : {p q r lo hi : ℕ} → Between p q r → (Spans p q lo hi) ⊎ (Spans q r lo hi) → Spans p r lo hi
spans_join (rise a b) (inl h) = omega arith
spans_join (rise a b) (inr h) = omega arith
spans_join (fall a b) (inl h) = omega arith
spans_join (fall a b) (inr h) = omega arith

-- and the other way round
spans_split : {p q r lo hi : ℕ} → Between p q r → (q ≤ lo) ⊎ (hi ≤ q) → Spans p r lo hi → (Spans p q lo hi) ⊎ (Spans q r lo hi)
spans_split (rise a b) (inl k) h = inr (omega arith)
spans_split (rise a b) (inr k) h = inl (omega arith)
spans_split (fall a b) (inl k) h = inl (omega arith)
spans_split (fall a b) (inr k) h = inr (omega arith)

-- the same of edges and pieces
lies_join : (g : Grid) (e : Edge) (p q r : Point) → OfGrid g e → Towards p q r → On-line p q r → (Lies e (p to q)) ⊎ (Lies e (q to r)) → Lies e (p to r)
lies_join g e p q r (across_of i j h k) t (inl x) (inl m) = absurd (omega (arith, g.columns_rise i h))
lies_join g e p q r (across_of i j h k) t (inl x) (inr m) = absurd (omega (arith, g.columns_rise i h))
lies_join g e p q r (across_of i j h k) t (inr y) (inl m) = (omega arith, spans_join t.in_x (inl m.1))
lies_join g e p q r (across_of i j h k) t (inr y) (inr m) = (omega arith, spans_join t.in_x (inr m.1))
lies_join g e p q r (upward_of i j h k) t (inl x) (inl m) = (omega arith, spans_join t.in_y (inl m.1))
lies_join g e p q r (upward_of i j h k) t (inl x) (inr m) = (omega arith, spans_join t.in_y (inr m.1))
lies_join g e p q r (upward_of i j h k) t (inr y) (inl m) = absurd (omega (arith, g.rows_rise j k))
lies_join g e p q r (upward_of i j h k) t (inr y) (inr m) = absurd (omega (arith, g.rows_rise j k))

-- and the other way round
lies_split : (g : Grid) (e : Edge) (p q r : Point) → OfGrid g e → Vertex g q → Towards p q r → On-line p q r → Lies e (p to r) → (Lies e (p to q)) ⊎ (Lies e (q to r))
lies_split g e p q r (across_of i j h k) v t (inl x) m = absurd (omega (arith, g.columns_rise i h))
lies_split g e p q r (across_of i j h k) v t (inr y) m =
    ⊎_map (λ s. (omega arith, s)) (λ s. (omega arith, s))
    (spans_split t.in_x (beside g.columns g.columns_rise q.x v.column i h) m.1)
lies_split g e p q r (upward_of i j h k) v t (inl x) m =
    ⊎_map (λ s. (omega arith, s)) (λ s. (omega arith, s))
    (spans_split t.in_y (beside g.rows g.rows_rise q.y v.row j k) m.1)
lies_split g e p q r (upward_of i j h k) v t (inr y) m = absurd (omega (arith, g.rows_rise j k))

-- an edge of the grid lies on one of two pieces in line exactly if it lies on the piece that they make
pub lies_through : (g : Grid) (e : Edge) (p q r : Point) → OfGrid g e → Vertex g q → Towards p q r → On-line p q r
    → lies e (p to q) || lies e (q to r) ≡ lies e (p to r)
lies_through g e p q r o v t s =
    same_test (lies e (p to q) || lies e (q to r)) (lies e (p to r))
    (λ h. true_lies e (p to r) (lies_join g e p q r o t s (⊎_map (lies_true e (p to q)) (lies_true e (q to r)) (or_split (lies e (p to q)) (lies e (q to r)) h))))
    (λ h. or_join (lies e (p to q)) (lies e (q to r)) (⊎_map (true_lies e (p to q)) (true_lies e (q to r)) (lies_split g e p q r o v t s (lies_true e (p to r) h))))

-- no edge lies on a piece of no length
lies_at : (g : Grid) (e : Edge) (p : Point) → OfGrid g e → Lies e (p to p) → ⊥
lies_at g e p (across_of i j h k) m = omega (arith, g.columns_rise i h)
lies_at g e p (upward_of i j h k) m = omega (arith, g.rows_rise j k)

-- as a test
pub lies_nowhere : (g : Grid) (e : Edge) (p : Point) → OfGrid g e → lies e (p to p) ≡ false
lies_nowhere g e p o = is_false (lies e (p to p)) (λ h. lies_at g e p o (lies_true e (p to p) h))
