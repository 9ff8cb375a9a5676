-- When runs meet: some edge of the grid lies in both boxes, which is so exactly if two points do.
--
-- The two ends of an edge in both boxes are such points. What two boxes have in common is the rectangle from the greater of the low sides to the lesser of
-- the high sides, in x and in y. Where two points lie in it, it is longer than a point, say in x; its lower left corner is a vertex, since all sides
-- are lines of the grid, and the edge from there along the row ends at the next column, which is at most the rectangle's right side.
use mathlib.Core.Path.{◌≡◌, refl, sym, ap, ap₂, ◌∙◌, subst}
use mathlib.Core.Logic.{◌⊎◌, inl, inr}
use mathlib.Core.List.{List}
use mathlib.Core.Bool.{Bool, true, false, not, ◌&&◌, and_comm, true≢false}
use Prim.Native.Nat.{ℕ, suc, ◌≤◌, ◌<◌, min, max}
use native.Mathlib.Nat.{le_of_eq, le_trans, le-min, max-le, min-le_left, min-le_right, le-max_left, le-max_right}
use native.Mathlib.Decide.{ℕ_discrete}
use native.Mathlib.Omega.{arith}
use borrow.Author.Tests.{eqb-true, eqb-false, eq-eqb, ne_eqb, not-true}
use lib.Dec.{eqb}
use lib.ListN.{length, get_or, get_or-eq_default}
use Rattle.network.specs.Plane.{Point, Run, ◌to◌}
use Rattle.network.specs.Grid.{Rising, Grid, Edge, across_at, upward_at, edges, inside}
use Rattle.network.specs.Route.{Listed}
use Rattle.network.specs.Graph.{overlap, origin, run_at, meets}
use Rattle.network.specs.Steps.{vertex}
use Rattle.network.specs.Boxes.{Placed}
use Rattle.network.proofs.Numbers.{order}
use Rattle.network.proofs.Tests.{and_split, and_join, is_false, same_test, Spans, Within, true_inside, inside_true}
use Rattle.network.proofs.Lists.{any_cong}
use Rattle.network.proofs.Rising.{next_line, listed_max, listed_min}
use Rattle.network.proofs.Edges.{OfGrid, across_of, upward_of, edges_any, any_edges}

-- ---- an edge of the grid in both boxes

-- runs overlap exactly if there is one
pub overlap_edge : (g : Grid) (r s : Run) → overlap g r s ≡ true → (e : Edge) × OfGrid g e × (inside e r ≡ true) × (inside e s ≡ true)
unfolding overlap
overlap_edge g r s h =
    let (e, o, k) = edges_any g (λ e. inside e r && inside e s) h in
    let (i, j) = and_split (inside e r) (inside e s) k in
    (e, o, i, j)

-- and back
pub edge_overlap : (g : Grid) (r s : Run) (e : Edge) → OfGrid g e → inside e r ≡ true → inside e s ≡ true → overlap g r s ≡ true
unfolding overlap
edge_overlap g r s e o h k = any_edges g (λ e. inside e r && inside e s) e o (and_join (inside e r) (inside e s) h k)

-- the order of the two does not matter
pub overlap_comm : (g : Grid) (r s : Run) → overlap g r s ≡ overlap g s r
unfolding overlap
overlap_comm g r s = any_cong _ _ (edges g) (λ e m. and_comm (inside e r) (inside e s))

-- ---- the same by points

-- what two stretches have in common starts here, and ends there
abbrev common_low : ℕ → ℕ → ℕ → ℕ → ℕ
common_low a b c d = max (min a b) (min c d)

abbrev common_high : ℕ → ℕ → ℕ → ℕ → ℕ
common_high a b c d = min (max a b) (max c d)

-- a stretch is in both of two others exactly if it is in what they have in common
spans_both : {a b c d lo hi : ℕ} → Spans a b lo hi → Spans c d lo hi → (common_low a b c d ≤ lo) × (hi ≤ common_high a b c d)
spans_both s t = (max-le s.low t.low, le-min s.high t.high)

-- and back
both_spans : (a b c d : ℕ) {lo hi : ℕ} → common_low a b c d ≤ lo → hi ≤ common_high a b c d → Spans a b lo hi × Spans c d lo hi
both_spans a b c d h k = (
  record { low = le_trans (le-max_left (min a b) (min c d)) h; high = le_trans k (min-le_left (max a b) (max c d)) },
  record { low = le_trans (le-max_right (min a b) (min c d)) h; high = le_trans k (min-le_right (max a b) (max c d)) },
)

-- a number in both stretches is in what they have in common
one_in : {a b c d p : ℕ} → Spans a b p p → Spans c d p p → common_low a b c d ≤ common_high a b c d
one_in s t = let (h, k) = spans_both s t in le_trans h k

-- which is longer where there are two
two_in : {a b c d p q : ℕ} → Spans a b p p → Spans c d p p → Spans a b q q → Spans c d q q → (p ≡ q → ⊥) → common_low a b c d < common_high a b c d
two_in s t s' t' n = longer (spans_both s t) (spans_both s' t') n
  where
    longer : {l h p q : ℕ} → (l ≤ p) × (p ≤ h) → (l ≤ q) × (q ≤ h) → (p ≡ q → ⊥) → l < h
    longer i j n = omega arith

-- where two stretches between lines of the grid have one line in common, or a stretch between two neighbouring lines
module _ (l : List ℕ) (a b c d : ℕ) (h : Listed l a) (i : Listed l b) (j : Listed l c) (k : Listed l d) where
  -- what they have in common starts at a line
  low_listed : Listed l (common_low a b c d)
  low_listed = listed_max l (min a b) (min c d) (listed_min l a b h i) (listed_min l c d j k)

  -- and ends at one
  high_listed : Listed l (common_high a b c d)
  high_listed = listed_min l (max a b) (max c d) (listed_max l a b h i) (listed_max l c d j k)

  -- so one line is in both
  common_line : common_low a b c d ≤ common_high a b c d
      → (n : ℕ) × (n < length l) × Spans a b (get_or l n 0) (get_or l n 0) × Spans c d (get_or l n 0) (get_or l n 0)
  common_line o =
      let (n, p, e) = low_listed in
      let (s, t) = both_spans a b c d (le_of_eq (sym e)) (le_trans (le_of_eq e) o) in
      (n, p, s, t)

  -- and where it is longer, a stretch between two neighbouring lines
  common_stretch : Rising l → common_low a b c d < common_high a b c d
      → (n : ℕ) × (suc n < length l) × Spans a b (get_or l n 0) (get_or l (suc n) 0) × Spans c d (get_or l n 0) (get_or l (suc n) 0)
  common_stretch r o =
      let (n, p, e, q) = next_line l r (common_low a b c d) (common_high a b c d) low_listed high_listed o in
      let (s, t) = both_spans a b c d (le_of_eq (sym e)) q in
      (n, p, s, t)

-- the point lies in both boxes
abbrev pub InBoth : Run → Run → Point → Type 0
InBoth r s p = Within p r × Within p s

-- points are two where a coordinate differs
two_by : (f : Point → ℕ) (p q : Point) → f p < f q → p ≡ q → ⊥
two_by f p q h e = omega (arith, ap f e)

-- an edge in both boxes has two ends, which lie in both
pub overlap_two : (g : Grid) (r s : Run) → overlap g r s ≡ true → (p : Point) × (q : Point) × (p ≡ q → ⊥) × InBoth r s p × InBoth r s q
overlap_two g r s h =
    let (e, o, i, j) = overlap_edge g r s h in
    ends e o i j
  where
    ends : (e : Edge) → OfGrid g e → inside e r ≡ true → inside e s ≡ true → (p : Point) × (q : Point) × (p ≡ q → ⊥) × InBoth r s p × InBoth r s q
    ends e (across_of i j m n) h k =
        let a = inside_true (across_at g i j) r h in
        let b = inside_true (across_at g i j) s k in
        let up = g.columns_rise i m in
        let p = vertex g i j in
        let q = vertex g (suc i) j in
        (p, q, two_by (λ z. z.x) p q up, (omega arith, omega arith), (omega arith, omega arith))
    ends e (upward_of i j m n) h k =
        let a = inside_true (upward_at g i j) r h in
        let b = inside_true (upward_at g i j) s k in
        let up = g.rows_rise j n in
        let p = vertex g i j in
        let q = vertex g i (suc j) in
        (p, q, two_by (λ z. z.y) p q up, (omega arith, omega arith), (omega arith, omega arith))

-- two points lie in both boxes, and the runs are placed: the boxes have an edge in common
pub two_overlap : (g : Grid) (r s : Run) → Placed g r → Placed g s → (p q : Point) → (p ≡ q → ⊥) → InBoth r s p → InBoth r s q → overlap g r s ≡ true
two_overlap g r s u v p q d a b = go (ℕ_discrete p.x q.x) (ℕ_discrete p.y q.y)
  where
    go : Dec (p.x ≡ q.x) → Dec (p.y ≡ q.y) → overlap g r s ≡ true
    go (no x) y =
        let (i, m, h, k) =
        common_stretch g.columns _ _ _ _ u.first_vertex.column u.second_vertex.column v.first_vertex.column v.second_vertex.column g.columns_rise
        (two_in a.0.0 a.1.0 b.0.0 b.1.0 x) in
        let (j, n, h', k') =
        common_line g.rows _ _ _ _ u.first_vertex.row u.second_vertex.row v.first_vertex.row v.second_vertex.row (one_in a.0.1 a.1.1) in
        edge_overlap g r s (across_at g i j) (across_of i j m n) (true_inside (across_at g i j) r (h, h')) (true_inside (across_at g i j) s (k, k'))
    go (yes x) (no y) =
        let (i, m, h, k) =
        common_line g.columns _ _ _ _ u.first_vertex.column u.second_vertex.column v.first_vertex.column v.second_vertex.column
        (one_in a.0.0 a.1.0) in
        let (j, n, h', k') =
        common_stretch g.rows _ _ _ _ u.first_vertex.row u.second_vertex.row v.first_vertex.row v.second_vertex.row g.rows_rise
        (two_in a.0.1 a.1.1 b.0.1 b.1.1 y) in
        edge_overlap g r s (upward_at g i j) (upward_of i j m n) (true_inside (upward_at g i j) r (h, h')) (true_inside (upward_at g i j) s (k, k'))
    go (yes x) (yes y) = absurd (d (λ i. record { x = x i; y = y i }))

-- ---- runs by their numbers

-- runs meet exactly if they are two and overlap
pub meets_true : (g : Grid) (runs : List Run) (i j : ℕ) → meets g runs i j ≡ true → (i ≡ j → ⊥) × (overlap g (run_at runs i) (run_at runs j) ≡ true)
unfolding meets
meets_true g runs i j h =
    let (k, o) = and_split (not (eqb i j)) (overlap g (run_at runs i) (run_at runs j)) h in
    (eqb-false i j (not-true (eqb i j) k), o)

-- and back
pub true_meets : (g : Grid) (runs : List Run) (i j : ℕ) → (i ≡ j → ⊥) → overlap g (run_at runs i) (run_at runs j) ≡ true → meets g runs i j ≡ true
unfolding meets
true_meets g runs i j n o = rw (ne_eqb i j n) o

-- no run meets itself
pub meets_self : (g : Grid) (runs : List Run) (i : ℕ) → meets g runs i i ≡ false
unfolding meets
meets_self g runs i = rw (eq-eqb i i refl)

-- and meeting goes both ways
pub meets_turned : (g : Grid) (runs : List Run) (i j : ℕ) → meets g runs j i ≡ meets g runs i j
unfolding meets
meets_turned g runs i j = ap₂ (λ (a b : Bool). not a && b) (same_test (eqb j i) (eqb i j) (turn j i) (turn i j)) (overlap_comm g (run_at runs j) (run_at runs i))
  where
    turn : (a b : ℕ) → eqb a b ≡ true → eqb b a ≡ true
    turn a b h = eq-eqb b a (sym (eqb-true a b h))

-- no edge lies in the box of a single point
point_inside : (g : Grid) (p : Point) (e : Edge) → OfGrid g e → inside e (p to p) ≡ true → ⊥
point_inside g p e (across_of i j m n) h = omega (arith, inside_true (across_at g i j) (p to p) h, g.columns_rise i m)
point_inside g p e (upward_of i j m n) h = omega (arith, inside_true (upward_at g i j) (p to p) h, g.rows_rise j n)

-- so such a box shares no edge with another
point_overlap : (g : Grid) (r s : Run) → r.first ≡ r.second → overlap g r s ≡ false
point_overlap g r s e =
    is_false (overlap g r s) (λ h. let (f, o, i, j) = overlap_edge g r s h in
    point_inside g r.first f o (subst (λ q. inside f (r.first to q) ≡ true) (sym e) i))

-- what stands past the last run is a point, so a run that is met is one of the list
pub meets_listed : (g : Grid) (runs : List Run) (c k : ℕ) → meets g runs c k ≡ true → k < length runs
meets_listed g runs c k h = go (order (length runs) k)
  where
    go : (length runs ≤ k) ⊎ (k < length runs) → k < length runs
    go (inl o) =
        let point : run_at runs k ≡ origin to origin = get_or-eq_default runs (origin to origin) o in
        absurd (true≢false (sym (meets_true g runs c k h).1 ∙ overlap_comm g (run_at runs c) (run_at runs k)
        ∙ point_overlap g (run_at runs k) (run_at runs c) (ap (λ (r : Run). r.first) point ∙ sym (ap (λ (r : Run). r.second) point))))
    go (inr o) = o
