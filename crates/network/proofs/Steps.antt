-- Every Manhattan route of a run has a step list in the run's frame that is on the same edges.
--
-- The route is monotone. So each of its pieces goes, along one line, from one line of the frame to a later one: it is a number of steps from line to
-- line in one direction, and the steps of all pieces, one after the other, are the list. Pieces in line make one piece, so steps and piece are on
-- the same edges.
use mathlib.Core.Path.{◌≡◌, refl, sym, ap, ap₂, ◌∙◌, subst, subst₂}
use mathlib.Core.Logic.{inl, inr}
use mathlib.Core.List.{List, [], ◌∷◌, ◌++◌}
use mathlib.Core.Bool.{◌||◌, or_assoc}
use Prim.Native.Nat.{ℕ, zero, suc, ◌+◌, ◌≤◌}
use native.Mathlib.Omega.{arith}
use lib.ListN.{replicate}
use Rattle.network.specs.Lists.{any, All}
use Rattle.network.specs.Plane.{Point, Run, ◌to◌}
use Rattle.network.specs.Grid.{Grid, Edge}
use Rattle.network.specs.Route.{pieces_from, Route, Vertex, Straight, Manhattan, on, lies}
use Rattle.network.specs.Steps.{Dir, hor, ver, steps, Lane, extent, Fits, spot, Frame, Complete, row_edge, column_edge, draw_from, drawn}
use Rattle.network.proofs.Edges.{OfGrid}
use Rattle.network.proofs.Numbers.{Between}
use Rattle.network.proofs.Monotone.{Towards, Monotone, monotone}
use Rattle.network.proofs.Joining.{On-line, lies_through, lies_nowhere}
use Rattle.network.proofs.Lanes.{lane_next, lane_end, lane_between, spot_vertex, point_path}

-- ---- one step

-- the column, and the row, after a step along d
abbrev pub next_column : Dir → ℕ → ℕ
next_column hor i = suc i
next_column ver i = i

abbrev pub next_row : Dir → ℕ → ℕ
next_row hor j = j
next_row ver j = suc j

-- the edge of a step along d from (i, j)
abbrev pub step_edge : Grid → Lane → Lane → Dir → ℕ → ℕ → Edge
step_edge g X Y hor i j = row_edge g X Y i j
step_edge g X Y ver i j = column_edge g X Y i j

-- the vertices of a step list: the next, and those from there on
pub draw_next : (g : Grid) (X Y : Lane) (d : Dir) (i j : ℕ) (s : List Dir)
    → draw_from g X Y i j (d ∷ s) ≡ spot g X Y (next_column d i) (next_row d j) ∷ draw_from g X Y (next_column d i) (next_row d j) s
draw_next g X Y hor i j s = refl
draw_next g X Y ver i j s = refl

-- the steps of each direction: that of the next, and those from there on
pub steps_next : (d : Dir) (i j : ℕ) (s : List Dir)
    → (next_column d i + steps hor s ≡ i + steps hor (d ∷ s)) × (next_row d j + steps ver s ≡ j + steps ver (d ∷ s))
unfolding steps
steps_next hor i j s = omega arith
steps_next ver i j s = omega arith

-- a step leads to no lower index
pub next_le : (d : Dir) (i j : ℕ) → (i ≤ next_column d i) × (j ≤ next_row d j)
next_le hor i j = omega arith
next_le ver i j = omega arith

-- ---- steps along one line

-- the column, and the row, after k steps along d
abbrev column_after : Dir → ℕ → ℕ → ℕ
column_after hor k i = i + k
column_after ver k i = i

abbrev row_after : Dir → ℕ → ℕ → ℕ
row_after hor k j = j
row_after ver k j = j + k

-- after no step, and after one more
after_zero : (d : Dir) (i j : ℕ) → (column_after d 0 i ≡ i) × (row_after d 0 j ≡ j)
after_zero hor i j = omega arith
after_zero ver i j = omega arith

-- one step more
after_suc : (d : Dir) (k i j : ℕ)
    → (column_after d (suc k) i ≡ column_after d k (next_column d i)) × (row_after d (suc k) j ≡ row_after d k (next_row d j))
after_suc hor k i j = omega arith
after_suc ver k i j = omega arith

-- steps lead to no lower index
after_le : (d : Dir) (k i j : ℕ) → (i ≤ column_after d k i) × (j ≤ row_after d k j)
after_le hor k i j = omega arith
after_le ver k i j = omega arith

-- the steps of each direction, with k steps along d in front
after_steps : (d : Dir) (k i j : ℕ) (s : List Dir)
    → (column_after d k i + steps hor s ≡ i + steps hor (replicate k d ++ s)) × (row_after d k j + steps ver s ≡ j + steps ver (replicate k d ++ s))
after_steps d zero i j s = omega (arith, after_zero d i j)
after_steps d (suc k) i j s =
    omega (arith, after_suc d k i j, after_steps d k (next_column d i) (next_row d j) s, steps_next d i j (replicate k d ++ s))

module _ (g : Grid) (X Y : Lane) (fx : Fits g.columns X) (fy : Fits g.rows Y) where
  -- a step, and the stretch to a later spot, go towards the spots behind
  pub spots_towards : (i j m n a b : ℕ) → i ≤ m → j ≤ n → m ≤ a → n ≤ b → a ≤ extent X → b ≤ extent Y
      → Towards (spot g X Y i j) (spot g X Y m n) (spot g X Y a b)
  spots_towards i j m n a b h k o p q r =
      record {
        in_x = lane_between g.columns g.columns_rise X fx i m a h o q;
        in_y = lane_between g.rows g.rows_rise Y fy j n b k p r;
      }

  -- a stretch is on one line
  stretch_line : (d : Dir) (k i j : ℕ)
      → On-line (spot g X Y i j) (spot g X Y (next_column d i) (next_row d j)) (spot g X Y (column_after d k (next_column d i)) (row_after d k (next_row d j)))
  stretch_line hor k i j = inr (record { here = refl; there = refl })
  stretch_line ver k i j = inl (record { here = refl; there = refl })

  -- steps along one line are on the edges of one piece
  drawn_stretch : (e : Edge) → OfGrid g e → (d : Dir) (k i j : ℕ) (s : List Dir) → column_after d k i ≤ extent X → row_after d k j ≤ extent Y
      → any (lies e) (pieces_from (spot g X Y i j) (draw_from g X Y i j (replicate k d ++ s)))
      ≡ lies e (spot g X Y i j to spot g X Y (column_after d k i) (row_after d k j))
      || any (lies e) (pieces_from (spot g X Y (column_after d k i) (row_after d k j)) (draw_from g X Y (column_after d k i) (row_after d k j) s))
  drawn_stretch e o d zero i j s h m = rw ((after_zero d i j).0, (after_zero d i j).1, lies_nowhere g e (spot g X Y i j) o)
  drawn_stretch e o d (suc k) i j s h m =
      let c = next_column d i in
      let r = next_row d j in
      let z = spot g X Y (column_after d k c) (row_after d k r) in
      let t : Towards (spot g X Y i j) (spot g X Y c r) z
      = spots_towards i j c r (column_after d k c) (row_after d k r) (next_le d i j).0 (next_le d i j).1 (after_le d k c r).0 (after_le d k c r).1
      (omega (arith, after_suc d k i j)) (omega (arith, after_suc d k i j)) in
      rw ((after_suc d k i j).0, (after_suc d k i j).1, draw_next g X Y d i j (replicate k d ++ s))
      (ap (λ b. lies e (spot g X Y i j to spot g X Y c r) || b) (drawn_stretch e o d k c r s (omega (arith, after_suc d k i j)) (omega (arith, after_suc d k i j)))
      ∙ sym (or_assoc (lies e (spot g X Y i j to spot g X Y c r)) (lies e (spot g X Y c r to z)) _)
      ∙ ap (λ b. b || any (lies e) (pieces_from z (draw_from g X Y (column_after d k c) (row_after d k r) s)))
      (lies_through g e (spot g X Y i j) (spot g X Y c r) z o
      (spot_vertex g X Y fx fy c r (omega (arith, after_le d k c r, after_suc d k i j)) (omega (arith, after_le d k c r, after_suc d k i j)))
      t (stretch_line d k i j)))

-- ---- routes

-- a step list from (i, j) to the frame's far corner that is on the same edges as some pieces
record From (g : Grid) (X Y : Lane) (i j : ℕ) (ps : List Run) : Type 0 where
  list : List Dir
  all_columns : i + steps hor list ≡ extent X
  all_rows : j + steps ver list ≡ extent Y
  same : (e : Edge) → OfGrid g e → any (lies e) ps ≡ any (lies e) (pieces_from (spot g X Y i j) (draw_from g X Y i j list))

module _ (g : Grid) (X Y : Lane) (fx : Fits g.columns X) (fy : Fits g.rows Y) where
  -- a straight piece in front of a step list
  front : (d : Dir) (k i j : ℕ) (ps : List Run) → column_after d k i ≤ extent X → row_after d k j ≤ extent Y
      → From g X Y (column_after d k i) (row_after d k j) ps → From g X Y i j ((spot g X Y i j to spot g X Y (column_after d k i) (row_after d k j)) ∷ ps)
  front d k i j ps h m r =
      record {
        list = replicate k d ++ r.list;
        all_columns = omega (arith, after_steps d k i j r.list);
        all_rows = omega (arith, after_steps d k i j r.list);
        same = λ e o.
            ap (λ b. lies e (spot g X Y i j to spot g X Y (column_after d k i) (row_after d k j)) || b) (r.same e o)
            ∙ sym (drawn_stretch g X Y fx fy e o d k i j r.list h m);
      }

  module _ (z : Point) (ez : spot g X Y (extent X) (extent Y) ≡ z) where
    -- the piece from p to q in front of a step list from q on
    piece_front : (i j : ℕ) (p q : Point) (ps : List Run) → spot g X Y i j ≡ p → i ≤ extent X → j ≤ extent Y
        → Vertex g q → Towards p q z → Straight (p to q)
        → ((a b : ℕ) → spot g X Y a b ≡ q → a ≤ extent X → b ≤ extent Y → From g X Y a b ps)
        → From g X Y i j ((p to q) ∷ ps)
    piece_front i j p q ps e h k v t (inl d) rest =
        let b = subst₂ (λ c d. Between c q.y d) (sym (ap (λ (o : Point). o.y) e)) (sym (ap (λ (o : Point). o.y) ez)) t.in_y in
        let (n, o, c) = lane_next g.rows g.rows_rise Y fy j q.y k v.row b in
        let e' = point_path (ap (λ (o : Point). o.x) e ∙ d) c in
        subst (λ r. From g X Y i j (r ∷ ps)) (ap₂ ◌to◌ e e') (front ver n i j ps h o (rest i (j + n) e' h o))
    piece_front i j p q ps e h k v t (inr d) rest =
        let b = subst₂ (λ c d. Between c q.x d) (sym (ap (λ (o : Point). o.x) e)) (sym (ap (λ (o : Point). o.x) ez)) t.in_x in
        let (n, o, c) = lane_next g.columns g.columns_rise X fx i q.x h v.column b in
        let e' = point_path c (ap (λ (o : Point). o.y) e ∙ d) in
        subst (λ r. From g X Y i j (r ∷ ps)) (ap₂ ◌to◌ e e') (front hor n i j ps o k (rest (i + n) j e' o k))

    steps_from : (i j : ℕ) (p : Point) (l : List Point) → spot g X Y i j ≡ p → i ≤ extent X → j ≤ extent Y
        → All (Vertex g) (p ∷ l) → All Straight (pieces_from p l) → Monotone p l z → From g X Y i j (pieces_from p l)
    unfolding steps
    steps_from i j p [] e h k v s m =
        let x-end = lane_end g.columns g.columns_rise X fx i h (ap (λ (q : Point). q.x) (e ∙ m ∙ sym ez)) in
        let y-end = lane_end g.rows g.rows_rise Y fy j k (ap (λ (q : Point). q.y) (e ∙ m ∙ sym ez)) in
        record { list = []; all_columns = omega arith; all_rows = omega arith; same = λ f o. refl }
    steps_from i j p (q ∷ l) e h k v s m =
        piece_front i j p q (pieces_from q l) e h k v.1.0 m.0 s.0 (λ a b c o n. steps_from a b q l c o n v.1 s.1 m.1)

-- a step list of a route: it passes the whole frame, and is on the same edges
pub record Stepped (g : Grid) (X Y : Lane) (route : Route) : Type 0 where
  pub list : List Dir
  pub complete : Complete X Y list
  pub same : (e : Edge) → OfGrid g e → on e route ≡ on e (drawn g X Y list)

-- every Manhattan route of a run has one in the run's frame
pub to_steps : (g : Grid) (run : Run) (X Y : Lane) → Frame g run X Y → (route : Route) → Manhattan g run route → Stepped g X Y route
to_steps g run X Y f [] m = absurd m.starts
to_steps g run X Y f (p ∷ l) m =
    let s = steps_from g X Y f.columns_fit f.rows_fit run.second f.upto 0 0 p l
    (f.from ∙ sym m.starts) (omega arith) (omega arith) m.vertices m.straight (monotone p l m) in
    record { list = s.list; complete = record { all_columns = omega (arith, s.all_columns); all_rows = omega (arith, s.all_rows) }; same = s.same }
