-- Marks of edges. Marking a stretch of a line marks the edges that lie on the straight piece between its ends and no others, and markings one after the
-- other add up.
use mathlib.Core.Path.{◌≡◌, sym, ap, ap₂, ◌∙◌, subst}
use mathlib.Core.Logic.{inl, inr}
use mathlib.Core.Bool.{Bool, true, false, not, ◌&&◌, ◌||◌, and-false, or-true, or-false, or_assoc, and-or_distrib_left, true≢false}
use mathlib.Core.List.{List}
use Rattle.std.specs.Prelude.{Some, None}
use Prim.Native.Nat.{ℕ, suc, ◌+◌, ◌≤◌, ◌<◌, min, max}
use native.Mathlib.Decide.{ℕ_discrete}
use native.Mathlib.Omega.{arith}
use borrow.Author.Tests.{eq-eqb, eqb-true, le-leb, leb-true, lt-ltb, ltb-true}
use lib.Dec.{eqb, leb, ltb}
use lib.ListN.{length, get_or, set, length-set}
use lib.Seq.{get_or-set_same, get_or-set_other}
use Rattle.network.specs.Plane.{Point, ◌to◌}
use Rattle.network.specs.Grid.{Grid, Edge, spans}
use Rattle.network.specs.Route.{Straight, lies}
use Rattle.network.specs.Steps.{Dir, hor, ver, other, vertex}
use Rattle.network.proofs.Tests.{and_split, and_join, is_false, same_test, spans_true, true_spans}
use Rattle.network.proofs.Lanes.{point_path}
use Rattle.grid.specs.Lines.{RisingTo}
use Rattle.route.specs.declared.Vertex.{Vertex}
use Rattle.measure.specs.Marks.{
  places,
  lines_along,
  edge_on,
  edge_behind,
  cell,
  is_marked,
  Stretched,
  Marked,
  Finds,
  found,
  nowhere,
  Ruled,
  point_of,
  Arrived,
  astray,
  arrived,
}
use Rattle.measure.proofs.Indexes.{spot_on, lies_index, lies_other}

-- ---- one mark

-- a mark that is set
mark_here : (ms : List ℕ) (m : ℕ) → m < length ms → is_marked (set ms m 1) m ≡ true
unfolding is_marked
mark_here ms m h = ap (λ n. not (eqb n 0)) (get_or-set_same ms m 1 0 h)

-- leaves the others
mark_other : (ms : List ℕ) (m k : ℕ) → (k ≡ m → ⊥) → is_marked (set ms m 1) k ≡ is_marked ms k
unfolding is_marked
mark_other ms m k d = ap (λ n. not (eqb n 0)) (get_or-set_other ms m k 1 0 d)

-- a mark stands in the table
cell_small : (d : Dir) (a k : ℕ) → a < 64 → k < 64 → cell d a k < 4096
cell_small hor a k h l = omega arith
cell_small ver a k h l = omega arith

-- each in a place of its own
one_cell : (d : Dir) (a k b p : ℕ) → a < 64 → k < 64 → b < 64 → p < 64 → cell d a k ≡ cell d b p → (a ≡ b) × (k ≡ p)
one_cell hor a k b p h l m n e = omega arith
one_cell ver a k b p h l m n e = omega arith

-- ---- a stretch

-- place k of line a is on the stretch
abbrev stretch : (line low high a k : ℕ) → Bool
stretch line low high a k = eqb a line && (leb low k && ltb k high)

-- as a fact
stretch_true : (line low high a k : ℕ) → stretch line low high a k ≡ true → (a ≡ line) × (low ≤ k) × (k < high)
stretch_true line low high a k t =
    let (h, m) = and_split (eqb a line) (leb low k && ltb k high) t in
    let (i, j) = and_split (leb low k) (ltb k high) m in
    (eqb-true a line h, leb-true low k i, ltb-true k high j)

-- and back
true_stretch : (line low high a k : ℕ) → a ≡ line → low ≤ k → k < high → stretch line low high a k ≡ true
true_stretch line low high a k h i j =
    and_join (eqb a line) (leb low k && ltb k high) (eq-eqb a line h) (and_join (leb low k) (ltb k high) (le-leb low k i) (lt-ltb k high j))

-- nothing is marked yet
pub stretched_none : (d : Dir) (line low : ℕ) (ms : List ℕ) → length ms ≡ 4096 → Stretched d line low low ms ms
stretched_none d line low ms h =
    record {
      size = h;
      marked = λ a k i j. sym (ap (λ b. is_marked ms (cell d a k) || b) (none a k) ∙ or-false (is_marked ms (cell d a k)));
    }
  where
    none : (a k : ℕ) → stretch line low low a k ≡ false
    none a k = is_false (stretch line low low a k) (λ t. let (x, y, z) = stretch_true line low low a k t in omega arith)

-- one place more is marked
pub stretched_more : (d : Dir) (line low k : ℕ) (ms ns : List ℕ) → line < 64 → k < 64 → low ≤ k
    → Stretched d line low k ms ns → Stretched d line low (k + 1) ms (set ns (cell d line k) 1)
stretched_more d line low k ms ns hl hk h s =
    record { size = length-set ns (cell d line k) 1 ∙ s.size; marked = λ a p i j. go a p i j (ℕ_discrete (cell d a p) (cell d line k)) }
  where
    go : (a p : ℕ) → a < 64 → p < 64 → Dec (cell d a p ≡ cell d line k)
        → is_marked (set ns (cell d line k) 1) (cell d a p) ≡ (is_marked ms (cell d a p) || stretch line low (k + 1) a p)
    go a p i j (yes e) =
        let (x, y) = one_cell d a p line k i j hl hk e in
        ap (is_marked (set ns (cell d line k) 1)) e
        ∙ mark_here ns (cell d line k) (omega (arith, cell_small d line k hl hk, s.size))
        ∙ sym (ap (λ b. is_marked ms (cell d a p) || b) (true_stretch line low (k + 1) a p x (omega arith) (omega arith)) ∙ or-true (is_marked ms (cell d a p)))
    go a p i j (no n) =
        mark_other ns (cell d line k) (cell d a p) n
        ∙ s.marked a p i j
        ∙ ap (λ b. is_marked ms (cell d a p) || b)
        (same_test (stretch line low k a p) (stretch line low (k + 1) a p)
        (λ t. let (x, y, z) = stretch_true line low k a p t in true_stretch line low (k + 1) a p x y (omega arith))
        (λ t. let (x, y, z) = stretch_true line low (k + 1) a p t in true_stretch line low k a p x y (before (ℕ_discrete p k) x z)))
      where
        before : Dec (p ≡ k) → a ≡ line → p < k + 1 → p < k
        before (yes e) x z = absurd (n (ap₂ (cell d) x e))
        before (no e) x z = omega arith

-- all places are marked
pub stretched_all : (d : Dir) (line low high k : ℕ) (ms ns : List ℕ) → high ≤ k → k ≤ max low high → Stretched d line low k ms ns → Stretched d line low high ms ns
stretched_all d line low high k ms ns h m s =
    record {
      size = s.size;
      marked = λ a p i j. s.marked a p i j
          ∙ ap (λ b. is_marked ms (cell d a p) || b)
          (same_test (stretch line low k a p) (stretch line low high a p)
          (λ t. let (x, y, z) = stretch_true line low k a p t in true_stretch line low high a p x y (omega arith))
          (λ t. let (x, y, z) = stretch_true line low high a p t in true_stretch line low k a p x y (omega arith)));
    }

-- ---- edges

-- nothing is marked
pub marked_none : (g : Grid) (d : Dir) (ms : List ℕ) → length ms ≡ 4096 → Marked g d (λ e. false) ms ms
unfolding edge_behind
marked_none g d ms h =
    record {
      size = h;
      marked = λ a k i j. sym (ap (λ b. is_marked ms (cell d a k) || b) (and-false (ltb (suc k) (places g d))) ∙ or-false (is_marked ms (cell d a k)));
    }

-- the edges of one test, then those of another
pub marked_next : (g : Grid) (d : Dir) (s t : Edge → Bool) (ms ns os : List ℕ) → Marked g d s ms ns → Marked g d t ns os → Marked g d (λ e. s e || t e) ms os
unfolding edge_behind
marked_next g d s t ms ns os m n =
    record {
      size = n.size;
      marked = λ a k i j. n.marked a k i j
          ∙ ap (λ b. b || edge_behind g d t a k) (m.marked a k i j)
          ∙ or_assoc (is_marked ms (cell d a k)) (edge_behind g d s a k) (edge_behind g d t a k)
          ∙ ap (λ b. is_marked ms (cell d a k) || b) (sym (and-or_distrib_left (ltb (suc k) (places g d)) (s (edge_on g d a k)) (t (edge_on g d a k))));
    }

-- tests that agree mark the same
pub marked_same : (g : Grid) (d : Dir) (s t : Edge → Bool) (ms ns : List ℕ) → ((e : Edge) → s e ≡ t e) → Marked g d s ms ns → Marked g d t ms ns
marked_same g d s t ms ns h m = subst (λ (u : Edge → Bool). Marked g d u ms ns) (λ i e. h e i) m

-- ---- a piece

-- a stretch of a line holds the edges that lie on the piece between its ends
marked_stretch : (g : Grid) (d : Dir) (b p q : ℕ) (ms ns : List ℕ) → lines_along g d ≤ 64 → places g d ≤ 64 → b < lines_along g d → p < places g d → q < places g d
    → Stretched d b (min p q) (max p q) ms ns → Marked g d (λ e. lies e (spot_on g d b p to spot_on g d b q)) ms ns
unfolding edge_behind
marked_stretch g d b p q ms ns hl hp hb i j s =
    record {
      size = s.size;
      marked = λ a k x y. s.marked a k (omega arith) (omega arith)
          ∙ ap (λ t. is_marked ms (cell d a k) || t)
          (same_test (stretch b (min p q) (max p q) a k) (ltb (suc k) (places g d) && lies (edge_on g d a k) (spot_on g d b p to spot_on g d b q))
          (λ t.
          let (u, v, w) = stretch_true b (min p q) (max p q) a k t in
          let l : suc k < places g d = omega arith in
          and_join (ltb (suc k) (places g d)) (lies (edge_on g d a k) (spot_on g d b p to spot_on g d b q)) (lt-ltb (suc k) (places g d) l)
          (lies_index g d a k b p q x l hb i j
          ∙ and_join (eqb b a) (spans p q k (suc k)) (eq-eqb b a (sym u)) (true_spans p q k (suc k) (record { low = v; high = w }))))
          (λ t.
          let (u, v) = and_split (ltb (suc k) (places g d)) (lies (edge_on g d a k) (spot_on g d b p to spot_on g d b q)) t in
          let l : suc k < places g d = ltb-true (suc k) (places g d) u in
          let (m, n) = and_split (eqb b a) (spans p q k (suc k)) (sym (lies_index g d a k b p q x l hb i j) ∙ v) in
          let o = spans_true p q k (suc k) n in
          true_stretch b (min p q) (max p q) a k (sym (eqb-true b a m)) o.low o.high));
    }

-- and no edge of the other direction does
marked_other : (g : Grid) (d : Dir) (b p q : ℕ) (ms : List ℕ) → length ms ≡ 4096 → Marked g (other d) (λ e. lies e (spot_on g d b p to spot_on g d b q)) ms ms
unfolding edge_behind
marked_other g d b p q ms h =
    record {
      size = h;
      marked = λ a k i j. sym (ap (λ t. is_marked ms (cell (other d) a k) || t) (none a k) ∙ or-false (is_marked ms (cell (other d) a k)));
    }
  where
    none : (a k : ℕ) → ltb (suc k) (places g (other d)) && lies (edge_on g (other d) a k) (spot_on g d b p to spot_on g d b q) ≡ false
    none a k =
        is_false (ltb (suc k) (places g (other d)) && lies (edge_on g (other d) a k) (spot_on g d b p to spot_on g d b q)) (λ t.
        let (u, v) = and_split (ltb (suc k) (places g (other d))) (lies (edge_on g (other d) a k) (spot_on g d b p to spot_on g d b q)) t in
        true≢false (sym v ∙ lies_other g d a k b p q (ltb-true (suc k) (places g (other d)) u)))

-- ---- where a piece leads

module _ (g : Grid) (columns rows : List ℕ) (across down : ℕ) (held : Ruled g columns across rows down) where
  -- the columns of the table rise
  pub held_columns : RisingTo columns across
  held_columns j l =
      let k : suc j < length g.columns = omega (arith, held.across_is) in
      omega (arith, held.tables.column_at j (omega arith), held.tables.column_at (suc j) k, g.columns_rise j k)

  -- and its rows
  pub held_rows : RisingTo rows down
  held_rows j l =
      let k : suc j < length g.rows = omega (arith, held.down_is) in
      omega (arith, held.tables.row_at j (omega arith), held.tables.row_at (suc j) k, g.rows_rise j k)

module _ (g : Grid) (columns rows : List ℕ) (across down : ℕ) (few-columns : across ≤ 64) (few-rows : down ≤ 64) (held : Ruled g columns across rows down)
    (from : Vertex) (x y : ℕ) where
  -- up or down the column: no row is at y
  pub astray_up : (right up right' up' : List ℕ) → Finds rows down y None → Arrived g from (record { x = x; y = y }) right up right' up' None
  astray_up right up right' up' (nowhere n) =
      astray (λ s v.
      let (i, h, e) = v.row in
      n (held_rows g columns rows across down held) i (omega (arith, held.down_is)) (held.tables.row_at i h ∙ e))

  -- along the row: no column is at x
  pub astray_right : (right up right' up' : List ℕ) → Finds columns across x None → Arrived g from (record { x = x; y = y }) right up right' up' None
  astray_right right up right' up' (nowhere n) =
      astray (λ s v.
      let (i, h, e) = v.column in
      n (held_columns g columns rows across down held) i (omega (arith, held.across_is)) (held.tables.column_at i h ∙ e))

  module _ (hc : from.column < across) (hr : from.row < down) where
    -- up or down the column, to the row at y
    pub arrived_up : (right up up' : List ℕ) → length right ≡ 4096 → get_or columns from.column 0 ≡ x → (t : ℕ) → Finds rows down y (Some t)
        → Stretched ver from.column (min from.row t) (max from.row t) up up'
        → Arrived g from (record { x = x; y = y }) right up right up' (Some (record { column = from.column; row = t }))
    arrived_up right up up' z e t (found r h f) s =
        let c : from.column < length g.columns = omega (arith, held.across_is) in
        let u : from.row < length g.rows = omega (arith, held.down_is) in
        let w : r < length g.rows = omega (arith, held.down_is) in
        let q : vertex g from.column r ≡ record { x = x; y = y } =
        point_path (sym (held.tables.column_at from.column c) ∙ e) (sym (held.tables.row_at r w) ∙ f) in
        arrived (record { column = from.column; row = r }) c w (λ straight. (
          q,
          subst (λ (p : Point). Marked g hor (λ e. lies e (point_of g from to p)) right right) q (marked_other g ver from.column from.row r right z),
          subst (λ (p : Point). Marked g ver (λ e. lies e (point_of g from to p)) up up') q
              (marked_stretch g ver from.column from.row r up up' (omega (arith, held.across_is)) (omega (arith, held.down_is)) c u w s),
        ))

    -- along the row, to the column at x; a straight piece that is not in the column is in the row
    pub arrived_right : (right up right' : List ℕ) → length up ≡ 4096 → (get_or columns from.column 0 ≡ x → ⊥) → (t : ℕ) → Finds columns across x (Some t)
        → Stretched hor from.row (min from.column t) (max from.column t) right right'
        → Arrived g from (record { x = x; y = y }) right up right' up (Some (record { column = t; row = from.row }))
    arrived_right right up right' z e t (found r h f) s =
        let c : from.column < length g.columns = omega (arith, held.across_is) in
        let u : from.row < length g.rows = omega (arith, held.down_is) in
        let w : r < length g.columns = omega (arith, held.across_is) in
        arrived (record { column = r; row = from.row }) w u (λ straight.
        let q : vertex g r from.row ≡ record { x = x; y = y } = point_path (sym (held.tables.column_at r w) ∙ f) (level straight) in (
          q,
          subst (λ (p : Point). Marked g hor (λ e. lies e (point_of g from to p)) right right') q
              (marked_stretch g hor from.row from.column r right right' (omega (arith, held.down_is)) (omega (arith, held.across_is)) u c w s),
          subst (λ (p : Point). Marked g ver (λ e. lies e (point_of g from to p)) up up) q (marked_other g hor from.row from.column r up z),
        ))
      where
        level : Straight (point_of g from to record { x = x; y = y }) → get_or g.rows from.row 0 ≡ y
        level (inl a) = absurd (e (held.tables.column_at from.column (omega (arith, held.across_is)) ∙ a))
        level (inr a) = a
