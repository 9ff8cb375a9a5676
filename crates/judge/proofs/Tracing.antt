-- A route that is marked corner by corner: what is marked of its first corners, and with one more.
use mathlib.Core.Path.{◌≡◌, refl, sym, ap, ap₂, ◌∙◌, subst}
use mathlib.Core.Bool.{true, false, ◌&&◌, ◌||◌, or_assoc}
use mathlib.Core.List.{List}
use Rattle.std.specs.Prelude.{Some, None}
use Prim.Native.Nat.{ℕ, suc, ◌+◌, ◌*◌, ◌-◌, ◌≤◌, ◌<◌}
use native.Mathlib.Omega.{arith}
use borrow.Author.Tests.{eq-eqb, eqb-true, le-leb, leb-true, lt-ltb, ltb-true}
use lib.Dec.{eqb, leb, ltb}
use lib.ListN.{length, get_or, set, take}
use Rattle.network.specs.Lists.{every}
use Rattle.network.specs.Plane.{Point, Run, ◌to◌, same_point}
use Rattle.network.specs.Grid.{Grid, Edge}
use Rattle.network.specs.Route.{Route, Vertex as IsVertex, Straight, lies, on}
use Rattle.network.specs.Graph.{origin}
use Rattle.network.specs.Passes.{among}
use Rattle.network.specs.Steps.{hor, ver, vertex}
use Rattle.network.proofs.Tests.{and_split, and_join, is_false, same_test}
use Rattle.network.proofs.Lists.{every_true, index_member}
use Rattle.network.proofs.Corners.{point_true, true_point}
use Rattle.network.proofs.Rising.{one_index}
use Rattle.route.specs.declared.Vertex.{Vertex}
use Rattle.book.specs.declared.Corner.{Corner}
use Rattle.measure.specs.Marks.{is_marked, Marked, point_of, Arrived, astray, arrived}
use Rattle.measure.proofs.Marking.{stretched_none, stretched_more, marked_none, marked_next, marked_same}
use Rattle.grid.specs.declared.Axis.{Axis}
use Rattle.judge.specs.declared.routes.Marks.{Marks}
use Rattle.judge.specs.Judged.{is_vertex}
use Rattle.judge.specs.Steps.{corner_there, Shown, Sized, Dotted, Cornered, RouteMarked}
use Rattle.judge.proofs.Tests.{vertex_true, true_vertex}
use Rattle.judge.proofs.Pieces.{piece_to, among_more, every_more, on_more, first_corner, corner_read}

-- ---- one vertex

-- a vertex is a stretch of one place
pub dotted : (v : Vertex) (ms : Marks) → v.column < 64 → v.row < 64 → Sized ms → Dotted v ms (record ms { corners = set ms.corners (v.row * 64 + v.column) 1 })
dotted v ms h k l =
    let s = stretched_more hor v.row v.column v.column ms.corners ms.corners k h (omega arith) (stretched_none hor v.row v.column ms.corners l.corners_size) in
    record {
      size = s.size;
      marked = λ i j a b. s.marked j i b a ∙ ap (λ t. is_marked ms.corners (j * 64 + i) || t) (one_place i j);
      right_stays = refl;
      up_stays = refl;
    }
  where
    one_place : (i j : ℕ) → (eqb j v.row && (leb v.column i && ltb i (v.column + 1))) ≡ (eqb i v.column && eqb j v.row)
    one_place i j =
        same_test (eqb j v.row && (leb v.column i && ltb i (v.column + 1))) (eqb i v.column && eqb j v.row)
        (λ t.
        let (a, u) = and_split (eqb j v.row) (leb v.column i && ltb i (v.column + 1)) t in
        let (b, c) = and_split (leb v.column i) (ltb i (v.column + 1)) u in
        and_join (eqb i v.column) (eqb j v.row) (eq-eqb i v.column (omega (arith, leb-true v.column i b, ltb-true i (v.column + 1) c))) a)
        (λ t.
        let (a, b) = and_split (eqb i v.column) (eqb j v.row) t in
        let e : i ≡ v.column = eqb-true i v.column a in
        and_join (eqb j v.row) (leb v.column i && ltb i (v.column + 1)) b
        (and_join (leb v.column i) (ltb i (v.column + 1)) (le-leb v.column i (omega arith)) (lt-ltb i (v.column + 1) (omega arith))))

-- and the tables stay as long as they were
pub resized : {v : Vertex} {ms ns : Marks} → Dotted v ms ns → length ms.right ≡ 4096 → length ms.up ≡ 4096 → Sized ns
resized d r u =
    record { corners_size = d.size; right_size = ap length d.right_stays ∙ r; up_size = ap length d.up_stays ∙ u }

module _ (g : Grid) (v : Vertex) (hc : v.column < length g.columns) (hr : v.row < length g.rows) where
  -- its point stands at one place
  place_point : (i j : ℕ) → i < length g.columns → j < length g.rows → (eqb i v.column && eqb j v.row) ≡ same_point (vertex g i j) (point_of g v)
  place_point i j h k =
      same_test (eqb i v.column && eqb j v.row) (same_point (vertex g i j) (point_of g v))
      (λ t.
      let (a, b) = and_split (eqb i v.column) (eqb j v.row) t in
      true_point (vertex g i j) (point_of g v) (ap₂ (vertex g) (eqb-true i v.column a) (eqb-true j v.row b)))
      (λ t.
      let e = point_true (vertex g i j) (point_of g v) t in
      and_join (eqb i v.column) (eqb j v.row)
      (eq-eqb i v.column (one_index g.columns g.columns_rise i v.column h hc (ap (λ (p : Point). p.x) e)))
      (eq-eqb j v.row (one_index g.rows g.rows_rise j v.row k hr (ap (λ (p : Point). p.y) e))))

  -- it is a vertex
  point_vertex : (p : Point) → point_of g v ≡ p → is_vertex g p ≡ true
  point_vertex p e = true_vertex g p (subst (IsVertex g) e (record { column = (v.column, hc, refl); row = (v.row, hr, refl) }))

  -- so the first corner is one
  pub vertex_first : (route : Route) → 0 < length route → point_of g v ≡ get_or route 0 origin → every (is_vertex g) (take 1 route) ≡ true
  vertex_first route l e = every_more route 0 l (is_vertex g) ∙ point_vertex (get_or route 0 origin) e

  module _ (few-columns : length g.columns ≤ 64) (few-rows : length g.rows ≤ 64) (ms ns : Marks) (dot : Dotted v ms ns) where
    -- a mark at it is one at its point
    marked_point : (p : Point) → point_of g v ≡ p → (i j : ℕ) → i < length g.columns → j < length g.rows
        → is_marked ns.corners (j * 64 + i) ≡ (is_marked ms.corners (j * 64 + i) || same_point (vertex g i j) p)
    marked_point p e i j h k =
        dot.marked i j (omega arith) (omega arith)
        ∙ ap (λ b. is_marked ms.corners (j * 64 + i) || b) (place_point i j h k ∙ ap (same_point (vertex g i j)) e)

    -- so the first corner is marked
    cornered_first : (route : Route) → 0 < length route → point_of g v ≡ get_or route 0 origin → Cornered g (take 1 route) ms.corners ns.corners
    cornered_first route l e =
        record {
          size = dot.size;
          marked = λ i j h k. marked_point (get_or route 0 origin) e i j h k
              ∙ ap (λ b. is_marked ms.corners (j * 64 + i) || b) (sym (among_more route 0 l (vertex g i j)));
        }

    -- and one corner more
    cornered_more : (route : Route) (k : ℕ) (ls : List ℕ) → k < length route → point_of g v ≡ get_or route k origin → Cornered g (take k route) ls ms.corners
        → Cornered g (take (k + 1) route) ls ns.corners
    cornered_more route n ls l e c =
        record {
          size = dot.size;
          marked = λ i j h k. marked_point (get_or route n origin) e i j h k
              ∙ ap (λ b. b || same_point (vertex g i j) (get_or route n origin)) (c.marked i j h k)
              ∙ or_assoc (is_marked ls (j * 64 + i)) (among (vertex g i j) (take n route)) (same_point (vertex g i j) (get_or route n origin))
              ∙ ap (λ b. is_marked ls (j * 64 + i) || b) (sym (among_more route n l (vertex g i j)));
        }

    -- ---- the first corners of a route

    -- the first corner alone has no edge
    pub marked_first : (route : Route) → Sized ms → 0 < length route → point_of g v ≡ get_or route 0 origin → RouteMarked g (take 1 route) ms ns
    marked_first route s l e =
        record {
          at_corners = cornered_first route l e;
          to_right =
              subst (Marked g hor (λ e. on e (take 1 route)) ms.right) (sym dot.right_stays)
              (marked_same g hor (λ e. false) (λ e. on e (take 1 route)) ms.right ms.right none (marked_none g hor ms.right s.right_size));
          upwards =
              subst (Marked g ver (λ e. on e (take 1 route)) ms.up) (sym dot.up_stays)
              (marked_same g ver (λ e. false) (λ e. on e (take 1 route)) ms.up ms.up none (marked_none g ver ms.up s.up_size));
        }
      where
        none : (e : Edge) → false ≡ on e (take 1 route)
        none e = sym (ap (on e) (first_corner route l))

    -- one more: the piece up to it is marked, and then the corner itself
    marked_more : (route : Route) (k : ℕ) (start before : Marks) → 0 < k → k < length route → point_of g v ≡ get_or route k origin
        → RouteMarked g (take k route) start before → before.corners ≡ ms.corners
        → Marked g hor (λ e. lies e (piece_to route k)) before.right ms.right → Marked g ver (λ e. lies e (piece_to route k)) before.up ms.up
        → RouteMarked g (take (k + 1) route) start ns
    marked_more route k start before z l e m same a b =
        record {
          at_corners = cornered_more route k start.corners l e (subst (Cornered g (take k route) start.corners) same m.at_corners);
          to_right =
              subst (Marked g hor (λ e. on e (take (k + 1) route)) start.right) (sym dot.right_stays)
              (marked_same g hor (λ e. on e (take k route) || lies e (piece_to route k)) (λ e. on e (take (k + 1) route)) start.right ms.right
              (λ e. sym (on_more route k l z e))
              (marked_next g hor (λ e. on e (take k route)) (λ e. lies e (piece_to route k)) start.right before.right ms.right m.to_right a));
          upwards =
              subst (Marked g ver (λ e. on e (take (k + 1) route)) start.up) (sym dot.up_stays)
              (marked_same g ver (λ e. on e (take k route) || lies e (piece_to route k)) (λ e. on e (take (k + 1) route)) start.up ms.up
              (λ e. sym (on_more route k l z e))
              (marked_next g ver (λ e. on e (take k route)) (λ e. lies e (piece_to route k)) start.up before.up ms.up m.upwards b));
        }

-- ---- one turn: from the vertex v of corner k - 1 to the point of corner k

module _ {book : List ℕ} {at n : ℕ} {columns rows : Axis} (g : Grid) (route : Route) (shown : Shown g route book at n columns rows)
    (few-columns : columns.count ≤ 64) (few-rows : rows.count ≤ 64) (k : ℕ) (z : 0 < k) (l : k < n) (v : Vertex)
    (e : point_of g v ≡ get_or route (k - 1) origin) (c : Corner) (read : c ≡ corner_there book (at + 9 * k)) where
  -- the point of the record
  abbrev p : Point
  p = record { x = c.x; y = c.y }

  -- corner k is there
  here : k < length route
  here = omega (arith, shown.many)

  -- and is its point
  point_is : p ≡ get_or route k origin
  point_is = (corner_read book at route shown.drawn k here c read).0

  -- so the piece is that of the route
  piece_is : (point_of g v to p) ≡ piece_to route k
  piece_is = ap₂ ◌to◌ e point_is

  -- which is straight
  straight_here : Straight (point_of g v to p)
  straight_here =
      let m : suc (k - 1) ≡ k = omega arith in
      let h : suc (k - 1) < length route = omega (arith, here) in
      subst Straight (ap (λ (j : ℕ). get_or route (k - 1) origin to get_or route j origin) m ∙ sym piece_is) (shown.drawn.straight (k - 1) h)

  module _ {right up right' up' : List ℕ} where
    -- no vertex is there: a corner of the route is none
    pub turn_astray : Arrived g v p right up right' up' None → false ≡ every (is_vertex g) route
    turn_astray (astray f) =
        sym (is_false (every (is_vertex g) route)
        (λ t. f straight_here (vertex_true g p (ap (is_vertex g) point_is ∙ every_true (is_vertex g) t (index_member origin route k here)))))

    module _ (w : Vertex) (a : Arrived g v p right up right' up' (Some w)) where
      -- a vertex is there: it is the corner's, and the edges of the piece are marked
      came : (w.column < length g.columns) × (w.row < length g.rows) × (point_of g w ≡ get_or route k origin)
          × Marked g hor (λ e. lies e (piece_to route k)) right right' × Marked g ver (λ e. lies e (piece_to route k)) up up'
      came = go a
        where
          go : Arrived g v p right up right' up' (Some w) → (w.column < length g.columns) × (w.row < length g.rows) × (point_of g w ≡ get_or route k origin)
              × Marked g hor (λ e. lies e (piece_to route k)) right right' × Marked g ver (λ e. lies e (piece_to route k)) up up'
          go (arrived u i j f) =
              let (q, x, y) = f straight_here in (
                i,
                j,
                q ∙ point_is,
                subst (λ (s : Run). Marked g hor (λ e. lies e s) right right') piece_is x,
                subst (λ (s : Run). Marked g ver (λ e. lies e s) up up') piece_is y,
              )

      -- so its lines are lines of the tables, and one corner more is a vertex
      pub turn_on : every (is_vertex g) (take k route) ≡ true
          → (w.column < columns.count) × (w.row < rows.count) × (point_of g w ≡ get_or route (k + 1 - 1) origin) × (every (is_vertex g) (take (k + 1) route) ≡ true)
      turn_on t =
          let (i, j, q, x, y) = came in
          let m : k ≡ k + 1 - 1 = omega arith in (
            omega (arith, i, shown.ruled.across_is),
            omega (arith, j, shown.ruled.down_is),
            q ∙ ap (λ j. get_or route j origin) m,
            every_more route k here (is_vertex g)
                ∙ and_join (every (is_vertex g) (take k route)) (is_vertex g (get_or route k origin)) t (point_vertex g w i j (get_or route k origin) q),
          )

      -- and the route is marked up to it
      pub turn_marked : (start ns : Marks) (corners : List ℕ) → Dotted w (record { corners = corners; right = right'; up = up' }) ns
          → RouteMarked g (take k route) start (record { corners = corners; right = right; up = up }) → RouteMarked g (take (k + 1) route) start ns
      turn_marked start ns corners d m =
          let (i, j, q, x, y) = came in
          marked_more g w i j (omega (arith, shown.ruled.across_is)) (omega (arith, shown.ruled.down_is)) (record { corners = corners; right = right'; up = up' }) ns d
          route k start (record { corners = corners; right = right; up = up }) z here q m refl x y
