-- Pits on marks: a vertex is a pit exactly if it is a corner of a route, or has an edge of the union to the right and one upwards.
--
-- A route that passes a vertex along a line goes on behind it, so that the edge behind the vertex is on the route. And where no route has a corner, a route on
-- the edge behind the vertex passes the vertex. So the marks of the corners and of the edges are enough: what is passed needs no marks of its own.
use mathlib.Core.Path.{◌≡◌, refl, sym, ap, ap₂, ◌∙◌, subst}
use mathlib.Core.Logic.{◌⊎◌, inl, inr}
use mathlib.Core.Bool.{Bool, true, false, cond, ◌&&◌, ◌||◌, true≢false}
use mathlib.Core.List.Memᴰ
use mathlib.Core.List.{List, [], ◌∷◌, Memᴰ as Member}
use Prim.Native.Nat.{ℕ, suc, ◌*◌, ◌+◌, ◌≤◌, ◌<◌, max}
use native.Mathlib.Omega.{arith}
use borrow.Author.Tests.{ltb-true, lt-ltb}
use lib.Dec.{ltb}
use lib.ListN.{length, get_or}
use Rattle.network.specs.Lists.{any, All}
use Rattle.network.specs.Plane.{Point, Run, ◌to◌, same_point}
use Rattle.network.specs.Grid.{Rising, Grid, Edge}
use Rattle.network.specs.Route.{Route, pieces_from, pieces, level, Listed, Vertex, on, lies}
use Rattle.network.specs.Steps.{Dir, hor, ver, vertex}
use Rattle.network.specs.Pits.{amid, passes_row, passes_column, pit_points, pits_of}
use Rattle.network.specs.Passes.{among, passes}
use Rattle.network.proofs.Tests.{and_split, and_join, neither, same_test, true_level, Spans, lies_true, true_lies}
use Rattle.network.proofs.Lists.{any_true, true_any, any_false, all_member}
use Rattle.network.proofs.Numbers.{order}
use Rattle.network.proofs.Rising.{rising_le, beside, listed_max}
use Rattle.network.proofs.Lanes.{point_path}
use Rattle.network.proofs.Corners.{true_point}
use Rattle.network.proofs.Sums.{double_cong}
use Rattle.network.proofs.Points.{unique_vertices}
use Rattle.network.proofs.Pits.{Amid, true_amid, Passes, passes_true, passed, pit_among, pits_all}
use Rattle.measure.specs.Marks.{places, edge_on, edge_behind, Told}
use Rattle.measure.specs.Measured.{pit_in, row_pits, pits_in}
use Rattle.measure.proofs.Indexes.{spot_on}
use Rattle.measure.proofs.Union.{sum_cells}

-- ---- on one line

-- strictly inside a way between two numbers of the list there is a next number, and the way goes on to it
inside_on : (l : List ℕ) → Rising l → (u v k : ℕ) → Listed l u → Listed l v → k < length l → Amid u v (get_or l k 0)
    → (suc k < length l) × Spans u v (get_or l k 0) (get_or l (suc k) 0)
inside_on l r u v k a b h m =
    let (i, j, e) = listed_max l u v a b in
    let s : suc k < length l = go i j e (order (length l) (suc k)) in
    (s, pick s m (beside l r (max u v) (listed_max l u v a b) k s))
  where
    under : Amid u v (get_or l k 0) → get_or l k 0 < max u v
    under (inl o) = omega arith
    under (inr o) = omega arith

    go : (i : ℕ) → i < length l → get_or l i 0 ≡ max u v → (length l ≤ suc k) ⊎ (suc k < length l) → suc k < length l
    go i j e (inl n) = absurd (omega (arith, rising_le l r i k (omega arith) h, under m))
    go i j e (inr n) = n

    pick : suc k < length l → Amid u v (get_or l k 0) → (max u v ≤ get_or l k 0) ⊎ (get_or l (suc k) 0 ≤ max u v) → Spans u v (get_or l k 0) (get_or l (suc k) 0)
    pick s o (inl n) = absurd (omega (arith, under o))
    pick s (inl o) (inr n) = record { low = omega arith; high = n }
    pick s (inr o) (inr n) = record { low = omega arith; high = n }

-- a way that spans what is behind w, and does not end at w, has w strictly inside
beyond : (u v w hi : ℕ) → w < hi → Spans u v w hi → (u ≡ w → ⊥) → (v ≡ w → ⊥) → Amid u v w
beyond u v w hi h s a b = go (order u v)
  where
    go : (u ≤ v) ⊎ (v < u) → Amid u v w
    go (inl o) = inl (omega (arith, s.low, s.high, a), omega (arith, s.high))
    go (inr o) = inr (omega (arith, s.low, s.high, b), omega (arith, s.high))

-- ---- on one piece

-- p is not v
abbrev Elsewhere : Point → Point → Type 0
Elsewhere v p = p.x ≡ v.x → p.y ≡ v.y → ⊥

-- the test for a passed point holds of what it says
true_passes : (d : Dir) (p : Point) (r : Run) → Passes d p r → passes d p r ≡ true
unfolding passes_row passes_column
true_passes hor p r h =
    and_join (level r.first.y r.second.y p.y) (amid r.first.x r.second.x p.x)
    (true_level r.first.y r.second.y p.y h.0) (true_amid r.first.x r.second.x p.x h.1)
true_passes ver p r h =
    and_join (level r.first.x r.second.x p.x) (amid r.first.y r.second.y p.y)
    (true_level r.first.x r.second.x p.x h.0) (true_amid r.first.y r.second.y p.y h.1)

-- a piece between vertices that passes a vertex goes on behind it
passes_on : (g : Grid) (d : Dir) (a k : ℕ) (r : Run) → k < places g d → Vertex g r.first → Vertex g r.second → passes d (spot_on g d a k) r ≡ true
    → (suc k < places g d) × (lies (edge_on g d a k) r ≡ true)
passes_on g hor a k r h u v t =
    let (l, m) = passes_true hor (spot_on g hor a k) r t in
    let (s, o) = inside_on g.columns g.columns_rise r.first.x r.second.x k u.column v.column h m in
    (s, true_lies (edge_on g hor a k) r (l, o))
passes_on g ver a k r h u v t =
    let (l, m) = passes_true ver (spot_on g ver a k) r t in
    let (s, o) = inside_on g.rows g.rows_rise r.first.y r.second.y k u.row v.row h m in
    (s, true_lies (edge_on g ver a k) r (l, o))

-- a piece that has the edge behind a vertex on it, and ends elsewhere, passes the vertex
lies_passes : (g : Grid) (d : Dir) (a k : ℕ) (r : Run) → suc k < places g d → Elsewhere (spot_on g d a k) r.first → Elsewhere (spot_on g d a k) r.second
    → lies (edge_on g d a k) r ≡ true → passes d (spot_on g d a k) r ≡ true
lies_passes g hor a k r h m n t =
    let (u, v) = lies_true (edge_on g hor a k) r t in
    true_passes hor (spot_on g hor a k) r (
      u,
      beyond r.first.x r.second.x (get_or g.columns k 0) (get_or g.columns (suc k) 0) (g.columns_rise k h) v
          (λ e. m e u.first_at_lem) (λ e. n e u.second_at_lem),
    )
lies_passes g ver a k r h m n t =
    let (u, v) = lies_true (edge_on g ver a k) r t in
    true_passes ver (spot_on g ver a k) r (
      u,
      beyond r.first.y r.second.y (get_or g.rows k 0) (get_or g.rows (suc k) 0) (g.rows_rise k h) v
          (λ e. m u.first_at_lem e) (λ e. n u.second_at_lem e),
    )

-- ---- on the pieces of routes

-- what holds of all corners of a route holds of both ends of its pieces
ends_all : (P : Point → Type 0) (p : Point) (l : List Point) → All P (p ∷ l) → (r : Run) → Member r (pieces_from p l) → P r.first × P r.second
ends_all P p [] h r m = absurd (Memᴰ.not-nil m)
ends_all P p (q ∷ l) h r m = go (Memᴰ.cases_cons m) (ends_all P q l h.1 r)
  where
    go : (r ≡ (p to q)) ⊎ Member r (pieces_from q l) → (Member r (pieces_from q l) → P r.first × P r.second) → P r.first × P r.second
    go (inl e) rest = subst (λ (s : Run). P s.first × P s.second) (sym e) (h.0, h.1.0)
    go (inr n) rest = rest n

-- of a route
route_ends : (P : Point → Type 0) (route : Route) → All P route → (r : Run) → Member r (pieces route) → P r.first × P r.second
route_ends P [] h r m = absurd (Memᴰ.not-nil m)
route_ends P (p ∷ l) h r m = ends_all P p l h r m

-- where no route has a corner at v, the corners of each are elsewhere
all_elsewhere : (v : Point) (l : List Point) → among v l ≡ false → All (Elsewhere v) l
all_elsewhere v [] h = tt
all_elsewhere v (p ∷ l) h =
    let (a, b) = neither (same_point v p) (among v l) h in
    (λ e f. true≢false (sym (true_point v p (point_path (sym e) (sym f))) ∙ a), all_elsewhere v l b)

module _ (g : Grid) (routes : List Route) (vertices : All (All (Vertex g)) routes) (d : Dir) (a k : ℕ) where
  -- some route is on an edge
  abbrev used : Edge → Bool
  used e = any (on e) routes

  -- a vertex that is passed along d has an edge of the union behind it
  passed_behind : k < places g d → passed d routes (spot_on g d a k) ≡ true → edge_behind g d used a k ≡ true
  unfolding edge_behind
  passed_behind h t =
      let (route, m, s) = any_true (λ route. any (passes d (spot_on g d a k)) (pieces route)) routes t in
      let (r, n, o) = any_true (passes d (spot_on g d a k)) (pieces route) s in
      let (u, v) = route_ends (Vertex g) route (all_member (All (Vertex g)) vertices m) r n in
      let (b, e) = passes_on g d a k r h u v o in
      and_join (ltb (suc k) (places g d)) (used (edge_on g d a k)) (lt-ltb (suc k) (places g d) b)
      (true_any (on (edge_on g d a k)) {a = route} m (true_any (lies (edge_on g d a k)) {a = r} n e))

  -- and where no route has a corner, the other way round
  behind_passed : any (among (spot_on g d a k)) routes ≡ false → edge_behind g d used a k ≡ true → passed d routes (spot_on g d a k) ≡ true
  unfolding edge_behind
  behind_passed c t =
      let (b, e) = and_split (ltb (suc k) (places g d)) (used (edge_on g d a k)) t in
      let (route, m, s) = any_true (on (edge_on g d a k)) routes e in
      let (r, n, o) = any_true (lies (edge_on g d a k)) (pieces route) s in
      let (u, v) = route_ends (Elsewhere (spot_on g d a k)) route (all_elsewhere (spot_on g d a k) route (any_false (among (spot_on g d a k)) c m)) r n in
      true_any (λ route. any (passes d (spot_on g d a k)) (pieces route)) {a = route} m
      (true_any (passes d (spot_on g d a k)) {a = r} n (lies_passes g d a k r (ltb-true (suc k) (places g d) b) u v o))

  -- so there the tests agree
  passed_is : any (among (spot_on g d a k)) routes ≡ false → k < places g d → edge_behind g d used a k ≡ passed d routes (spot_on g d a k)
  passed_is c h = same_test (edge_behind g d used a k) (passed d routes (spot_on g d a k)) (behind_passed c) (passed_behind h)

-- ---- pits

-- a vertex with the marks of a pit is a pit
pit_told : (g : Grid) (routes : List Route) → All (All (Vertex g)) routes → (corners right up : List ℕ) → Told g routes corners right up
    → (i j : ℕ) → i < length g.columns → j < length g.rows → pit_in corners right up (j * 64 + i) ≡ among (vertex g i j) (pit_points routes)
pit_told g routes vertices corners right up told i j h k =
    ap₂ ◌||◌ (told.at_corners i j h k) (ap₂ ◌&&◌ (told.to_right j i k h) (told.upwards i j h k))
    ∙ go (any (among (vertex g i j)) routes) refl
    ∙ sym (pit_among routes (vertex g i j))
  where
    go : (b : Bool) → any (among (vertex g i j)) routes ≡ b
        → (any (among (vertex g i j)) routes || edge_behind g hor (λ e. any (on e) routes) j i && edge_behind g ver (λ e. any (on e) routes) i j)
        ≡ (any (among (vertex g i j)) routes || passed hor routes (vertex g i j) && passed ver routes (vertex g i j))
    go true e = rw e refl
    go false e =
        ap₂ (λ s t. any (among (vertex g i j)) routes || s && t)
        (passed_is g routes vertices hor j i e h) (passed_is g routes vertices ver i j e k)

-- Where the marks tell the routes, the pits on the marks are the routes' pits.
pub told_pits : (g : Grid) (routes : List Route) → All (All (Vertex g)) routes → (corners right up : List ℕ) → Told g routes corners right up
    → pits_in corners right up (length g.columns) (length g.rows) ≡ pits_of routes
unfolding pits_in row_pits pits_of
told_pits g routes vertices corners right up told =
    sum_cells (length g.columns) (length g.rows) (λ i j. cond (pit_in corners right up (j * 64 + i)) 1 0)
    ∙ double_cong (length g.columns) (length g.rows)
    (λ i j. cond (pit_in corners right up (j * 64 + i)) 1 0) (λ i j. cond (among (vertex g i j) (pit_points routes)) 1 0)
    (λ i j h k. ap (λ b. cond b 1 0) (pit_told g routes vertices corners right up told i j h k))
    ∙ sym (unique_vertices g (pit_points routes) (pits_all (Vertex g) (λ p q v w. record { column = v.column; row = w.row }) routes vertices))
