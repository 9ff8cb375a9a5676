-- Two Manhattan routes of opposite slopes never share both an edge of a row and an edge of a column.
--
-- Of two edges on a route, one of a row and one of a column, one comes first: between them the route passes a point, with one edge in the box
-- before it and the other one in the box behind it. On a regular run the first edge is to the left of and below the second, or the other way
-- round; on a flipped run it is to the left of and above it. With the same two edges on a route of each kind, the edge of the row would be below
-- and above the edge of the column, or to its left and to its right; and both edges have a length.
use mathlib.Core.Path.{◌≡◌, refl, sym, ◌∙◌, subst}
use mathlib.Core.Logic.{◌⊎◌, inl, inr}
use mathlib.Core.List.{List, [], ◌∷◌}
use mathlib.Core.Bool.{Bool, true, false, ◌&&◌, ◌||◌, true≢false, false≢true}
use Prim.Native.Nat.{ℕ, ◌≤◌, ◌<◌}
use native.Mathlib.Omega.{arith}
use borrow.Author.Tests.{leb-true}
use lib.Dec.{leb}
use Rattle.network.specs.Lists.{any}
use Rattle.network.specs.Plane.{Point, Run, ◌to◌}
use Rattle.network.specs.Grid.{Grid, Edge, across, upward, across_at, edges}
use Rattle.network.specs.Route.{pieces_from, Route, Straight, Manhattan, on, lies}
use Rattle.network.specs.Steps.{Dir, hor, ver}
use Rattle.network.specs.Slopes.{Slope, regular, flipped, opposite, slopes}
use Rattle.network.proofs.Tests.{and_split, and_join, or_split, outcome, Spans, Lies, Inside, lies_true}
use Rattle.network.proofs.Numbers.{order, Between, between_up, between_down, between_there}
use Rattle.network.proofs.Edges.{OfGrid, across_of, upward_of, edges_any, any_edges}
use Rattle.network.proofs.Monotone.{Towards, towards_here, towards_first, towards_trans, Monotone, monotone, in_box}
use Rattle.network.proofs.Along.{spans_wide, lies_inside, on_inside}

-- ---- of two edges on a route, one of a row and one of a column, one comes first

-- between the two edges the route passes a point m: one edge is in the box before m, and the other in the box after it
data Parted (e f : Edge) (p z : Point) : Type 0 where
  parted : (m : Point) → Towards p m z → Inside e (p to m) → Inside f (m to z) → Parted e f p z

-- a point on the way is on the way to itself
towards_there : {p q z : Point} → Towards p q z → Towards p q q
towards_there {q} t = towards_first t (towards_here q _)

-- a box grows with the way
inside_wide : (e : Edge) (p q m : Point) → Towards p q m → Inside e (q to m) → Inside e (p to m)
inside_wide (across x x' y) p q m t h =
    (spans_wide t.in_x (between_there t.in_x) h.0, spans_wide t.in_y (between_there t.in_y) h.1)
inside_wide (upward x y y') p q m t h =
    (spans_wide t.in_x (between_there t.in_x) h.0, spans_wide t.in_y (between_there t.in_y) h.1)

-- one edge on the first piece and one on the rest
first_piece : (e f : Edge) (p q : Point) (l : List Point) (z : Point) → Monotone p (q ∷ l) z → lies e (p to q) ≡ true
    → any (lies f) (pieces_from q l) ≡ true → Parted e f p z
first_piece e f p q l z m h k =
    parted q m.0
    (lies_inside e p p q q (towards_here p q) (towards_there m.0) (lies_true e (p to q) h))
    (on_inside f q q l z (in_box q l z m.1) k)

-- both on the rest
later : (e f : Edge) (p q z : Point) → Towards p q z → Parted e f q z → Parted e f p z
later e f p q z t (parted m u h k) = parted m (towards_trans t u) (inside_wide e p q m (towards_first t u) h) k

-- a piece has no edge of a row and edge of a column
one_kind : (x x' y c d d' : ℕ) (r : Run) → d < d' → Lies (across x x' y) r → Lies (upward c d d') r → ⊥
one_kind x x' y c d d' r l h k = omega arith

-- the edge of the row comes first, or the edge of the column
parted_from : (x x' y c d d' : ℕ) → d < d' → (p : Point) (l : List Point) (z : Point) → Monotone p l z
    → any (lies (across x x' y)) (pieces_from p l) ≡ true → any (lies (upward c d d')) (pieces_from p l) ≡ true
    → (Parted (across x x' y) (upward c d d') p z) ⊎ (Parted (upward c d d') (across x x' y) p z)
parted_from x x' y c d d' u p [] z m h k = absurd (false≢true h)
parted_from x x' y c d d' u p (q ∷ l) z m h k =
    go
    (or_split (lies e (p to q)) (any (lies e) (pieces_from q l)) h)
    (or_split (lies f (p to q)) (any (lies f) (pieces_from q l)) k)
    (parted_from x x' y c d d' u q l z m.1)
  where
    e : Edge
    e = across x x' y

    f : Edge
    f = upward c d d'

    onward : (Parted e f q z) ⊎ (Parted f e q z) → (Parted e f p z) ⊎ (Parted f e p z)
    onward (inl a) = inl (later e f p q z m.0 a)
    onward (inr a) = inr (later f e p q z m.0 a)

    go : (lies e (p to q) ≡ true) ⊎ (any (lies e) (pieces_from q l) ≡ true) → (lies f (p to q) ≡ true) ⊎ (any (lies f) (pieces_from q l) ≡ true)
        → (any (lies e) (pieces_from q l) ≡ true → any (lies f) (pieces_from q l) ≡ true → (Parted e f q z) ⊎ (Parted f e q z))
        → (Parted e f p z) ⊎ (Parted f e p z)
    go (inl a) (inl b) rest = absurd (one_kind x x' y c d d' (p to q) u (lies_true e (p to q) a) (lies_true f (p to q) b))
    go (inl a) (inr b) rest = inl (first_piece e f p q l z m a b)
    go (inr a) (inl b) rest = inr (first_piece f e p q l z m b a)
    go (inr a) (inr b) rest = onward (rest a b)

-- ---- slopes

-- the four ways that a run may go
pub data Sloped : Slope → Run → Type 0 where
  right_up : {r : Run} → r.first.x ≤ r.second.x → r.first.y ≤ r.second.y → Sloped regular r
  left_down : {r : Run} → r.second.x ≤ r.first.x → r.second.y ≤ r.first.y → Sloped regular r
  right_down : {r : Run} → r.first.x ≤ r.second.x → r.second.y ≤ r.first.y → Sloped flipped r
  left_up : {r : Run} → r.second.x ≤ r.first.x → r.first.y ≤ r.second.y → Sloped flipped r

-- the test as a fact, and back
tests : {P : Type 0} (a b c d a' b' c' d' : ℕ) → (a ≤ b → c ≤ d → P) → (a' ≤ b' → c' ≤ d' → P) → leb a b && leb c d || leb a' b' && leb c' d' ≡ true → P
tests {P} a b c d a' b' c' d' f f' h = go (or_split (leb a b && leb c d) (leb a' b' && leb c' d') h)
  where
    go : (leb a b && leb c d ≡ true) ⊎ (leb a' b' && leb c' d' ≡ true) → P
    go (inl k) = let (i, j) = and_split (leb a b) (leb c d) k in f (leb-true a b i) (leb-true c d j)
    go (inr k) = let (i, j) = and_split (leb a' b') (leb c' d') k in f' (leb-true a' b' i) (leb-true c' d' j)

-- a run that passes the test has the slope
pub slopes_true : (s : Slope) (r : Run) → slopes s r ≡ true → Sloped s r
unfolding slopes
slopes_true regular r h =
    tests r.first.x r.second.x r.first.y r.second.y r.second.x r.first.x r.second.y r.first.y right_up left_down h
slopes_true flipped r h =
    tests r.first.x r.second.x r.second.y r.first.y r.second.x r.first.x r.first.y r.second.y right_down left_up h

-- a straight run has both slopes
pub straight_sloped : (s : Slope) (r : Run) → Straight r → Sloped s r
straight_sloped s r (inl e) = go s (order r.first.y r.second.y)
  where
    go : (s : Slope) → (r.first.y ≤ r.second.y) ⊎ (r.second.y < r.first.y) → Sloped s r
    go regular (inl h) = right_up {r = r} (omega arith) h
    go regular (inr h) = left_down {r = r} (omega arith) (omega arith)
    go flipped (inl h) = left_up {r = r} (omega arith) h
    go flipped (inr h) = right_down {r = r} (omega arith) (omega arith)
straight_sloped s r (inr e) = go s (order r.first.x r.second.x)
  where
    go : (s : Slope) → (r.first.x ≤ r.second.x) ⊎ (r.second.x < r.first.x) → Sloped s r
    go regular (inl h) = right_up {r = r} h (omega arith)
    go regular (inr h) = left_down {r = r} (omega arith) (omega arith)
    go flipped (inl h) = right_down {r = r} h (omega arith)
    go flipped (inr h) = left_up {r = r} (omega arith) (omega arith)

-- ---- the order of two edges on a route

-- what is passed first is lower on a way up, and higher on a way down
passes_up : {a m z lo hi lo' hi' : ℕ} → a ≤ z → Between a m z → Spans a m lo hi → Spans m z lo' hi' → hi ≤ lo'
passes_up o t h k = let b = between_up t o in omega arith

-- on a way down
passes_down : {a m z lo hi lo' hi' : ℕ} → z ≤ a → Between a m z → Spans a m lo hi → Spans m z lo' hi' → hi' ≤ lo
passes_down o t h k = let b = between_down t o in omega arith

module _ (x x' y c d d' : ℕ) where
  -- of an edge of a row and an edge of a column, the one to the left is the lower one on a regular run, and the higher one on a flipped run
  Ordered : Slope → Type 0
  Ordered regular = ((x' ≤ c) × (y ≤ d)) ⊎ ((c ≤ x) × (d' ≤ y))
  Ordered flipped = ((x' ≤ c) × (d' ≤ y)) ⊎ ((c ≤ x) × (y ≤ d))

  -- the two edges on a route
  ordered : {s : Slope} {r : Run} → Sloped s r
      → (Parted (across x x' y) (upward c d d') r.first r.second) ⊎ (Parted (upward c d d') (across x x' y) r.first r.second) → Ordered s
  unfolding Ordered
  ordered (right_up a b) (inl (parted m t h k)) = inl (passes_up a t.in_x h.0 k.0, passes_up b t.in_y h.1 k.1)
  ordered (right_up a b) (inr (parted m t h k)) = inr (passes_up a t.in_x h.0 k.0, passes_up b t.in_y h.1 k.1)
  ordered (left_down a b) (inl (parted m t h k)) = inr (passes_down a t.in_x h.0 k.0, passes_down b t.in_y h.1 k.1)
  ordered (left_down a b) (inr (parted m t h k)) = inl (passes_down a t.in_x h.0 k.0, passes_down b t.in_y h.1 k.1)
  ordered (right_down a b) (inl (parted m t h k)) = inl (passes_up a t.in_x h.0 k.0, passes_down b t.in_y h.1 k.1)
  ordered (right_down a b) (inr (parted m t h k)) = inr (passes_up a t.in_x h.0 k.0, passes_down b t.in_y h.1 k.1)
  ordered (left_up a b) (inl (parted m t h k)) = inr (passes_down a t.in_x h.0 k.0, passes_up b t.in_y h.1 k.1)
  ordered (left_up a b) (inr (parted m t h k)) = inl (passes_down a t.in_x h.0 k.0, passes_up b t.in_y h.1 k.1)

  -- both orders at once are impossible
  ordered_both : x < x' → d < d' → Ordered regular → Ordered flipped → ⊥
  unfolding Ordered
  ordered_both u v (inl a) (inl b) = omega arith
  ordered_both u v (inl a) (inr b) = omega arith
  ordered_both u v (inr a) (inl b) = omega arith
  ordered_both u v (inr a) (inr b) = omega arith

  -- the order of the two edges on a Manhattan route
  ordered_route : d < d' → {g : Grid} {s : Slope} (r : Run) (route : Route) → Manhattan g r route → Sloped s r
      → on (across x x' y) route ≡ true → on (upward c d d') route ≡ true → Ordered s
  ordered_route u r [] m l h k = absurd m.starts
  ordered_route u r (p ∷ q) m l h k =
      ordered l (subst (λ o. (Parted (across x x' y) (upward c d d') o r.second) ⊎ (Parted (upward c d d') (across x x' y) o r.second)) m.starts
      (parted_from x x' y c d d' u p q r.second (monotone p q m) h k))

-- routes of opposite slopes do not share an edge of a row and an edge of a column
pub opposite_slopes : (g : Grid) (s : Slope) (r q : Run) (route other : Route) → Manhattan g r route → Manhattan g q other → Sloped s r → Sloped (opposite s) q
    → (x x' y c d d' : ℕ) → x < x' → d < d'
    → on (across x x' y) route ≡ true → on (upward c d d') route ≡ true → on (across x x' y) other ≡ true → on (upward c d d') other ≡ true → ⊥
opposite_slopes g regular r q route other m n u v x x' y c d d' a b h i j k =
    ordered_both x x' y c d d' a b (ordered_route x x' y c d d' b r route m u h i) (ordered_route x x' y c d d' b q other n v j k)
opposite_slopes g flipped r q route other m n u v x x' y c d d' a b h i j k =
    ordered_both x x' y c d d' a b (ordered_route x x' y c d d' b q other n v j k) (ordered_route x x' y c d d' b r route m u h i)

-- the direction of an edge
abbrev pub dir_of : Edge → Dir
dir_of (across x x' y) = hor
dir_of (upward x y y') = ver

-- so all edges that they share go in one direction
pub one_direction : (g : Grid) (s : Slope) (r q : Run) (route other : Route) → Manhattan g r route → Manhattan g q other → Sloped s r → Sloped (opposite s) q
    → (d : Dir) × ((e : Edge) → OfGrid g e → on e route ≡ true → on e other ≡ true → dir_of e ≡ d)
one_direction g s r q route other m n u v = go (outcome (any row (edges g)))
  where
    -- a shared edge of a row
    row : Edge → Bool
    row (across x x' y) = on (across x x' y) route && on (across x x' y) other
    row (upward x y y') = false

    with_row : {f e : Edge} → OfGrid g f → row f ≡ true → OfGrid g e → on e route ≡ true → on e other ≡ true → dir_of e ≡ hor
    with_row (across_of a b c d) h (across_of a' b' c' d') i j = refl
    with_row (across_of a b c d) h (upward_of a' b' c' d') i j =
        let (k, o) = and_split (on (across_at g a b) route) (on (across_at g a b) other) h in
        absurd (opposite_slopes g s r q route other m n u v _ _ _ _ _ _ (g.columns_rise a c) (g.rows_rise b' d') k i o j)
    with_row (upward_of a b c d) h o i j = absurd (false≢true h)

    with_none : any row (edges g) ≡ false → {e : Edge} → OfGrid g e → on e route ≡ true → on e other ≡ true → dir_of e ≡ ver
    with_none h (across_of a b c d) i j =
        absurd (true≢false (sym (any_edges g row (across_at g a b) (across_of a b c d) (and_join (on (across_at g a b) route) (on (across_at g a b) other) i j)) ∙ h))
    with_none h (upward_of a b c d) i j = refl

    go : (any row (edges g) ≡ true) ⊎ (any row (edges g) ≡ false)
        → (d : Dir) × ((e : Edge) → OfGrid g e → on e route ≡ true → on e other ≡ true → dir_of e ≡ d)
    go (inl h) = let (f, o, k) = edges_any g row h in (hor, λ e p. with_row o k p)
    go (inr h) = (ver, λ e p. with_none h p)
