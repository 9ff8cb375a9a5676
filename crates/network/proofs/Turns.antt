-- Every Manhattan route of a run between two points has a step list in the run's frame with the same corners.
--
-- Each piece of the route is a number of steps along one line. Of these steps only the first can turn, and it turns exactly where the piece
-- does: the route comes to the piece along one line, and a step and a piece that start at one point in one direction leave that line together. So
-- the steps may stand for the piece, one piece after the other, and no corner is lost or won.
use mathlib.Core.Path.{◌≡◌, refl, sym, ap, ap₂, ◌∙◌, subst, subst₂}
use mathlib.Core.Logic.{inl, inr}
use mathlib.Core.List.{List, [], ◌∷◌}
use mathlib.Core.Bool.{Bool, true, false}
use Prim.Native.Nat.{ℕ, zero, suc, ◌+◌, ◌≤◌}
use native.Mathlib.Omega.{arith}
use borrow.Author.Tests.{eq-eqb, ne_eqb}
use lib.ListN.{get_or}
use Rattle.network.specs.Lists.{All}
use Rattle.network.specs.Plane.{Point, Run, ◌to◌}
use Rattle.network.specs.Grid.{Grid}
use Rattle.network.specs.Route.{pieces_from, Route, Vertex, Straight, Manhattan}
use Rattle.network.specs.Steps.{Dir, hor, ver, steps, Lane, extent, at, Fits, spot, Frame, Complete, draw_from, drawn}
use Rattle.network.specs.Corners.{straight_on, corners_from, corners}
use Rattle.network.proofs.Numbers.{Between}
use Rattle.network.proofs.Monotone.{Towards, Monotone, monotone}
use Rattle.network.proofs.Joining.{On-line, line_straight}
use Rattle.network.proofs.Lanes.{lane_next, lane_end, lane_apart, point_path}
use Rattle.network.proofs.Steps.{next_column, next_row}
use Rattle.network.proofs.Corners.{line_true, true_line, corner_on, corner_at, TwoPoints}

-- ---- standing still

-- a route that stands still goes straight on, wherever it came from
still_on : (p q : Point) → Straight (p to q) → straight_on p q q ≡ true
still_on p q (inl e) = true_line p q q (inl (record { here = e; there = refl }))
still_on p q (inr e) = true_line p q q (inr (record { here = e; there = refl }))

-- and so does one that has not moved yet, wherever it goes
start_on : (p q : Point) → Straight (p to q) → straight_on p p q ≡ true
start_on p q (inl e) = true_line p p q (inl (record { here = refl; there = e }))
start_on p q (inr e) = true_line p p q (inr (record { here = refl; there = e }))

-- so the corners of a route are its first point and those behind it
corners_start : (p q : Point) (l : List Point) → Straight (p to q) → corners (p ∷ q ∷ l) ≡ p ∷ corners_from p p (q ∷ l)
corners_start p q l s = ap (λ (t : List Point). p ∷ t) (sym (corner_on p p q l (start_on p q s)))

-- ---- one step of a piece

-- q is away from p, along d
abbrev Along : Dir → Point → Point → Type 0
Along hor p q = (p.y ≡ q.y) × (p.x ≡ q.x → ⊥)
Along ver p q = (p.x ≡ q.x) × (p.y ≡ q.y → ⊥)

-- two points along d from one point are on one line with it
along_line : (d : Dir) (o m z : Point) → Along d o m → Along d o z → On-line o m z
along_line hor o m z a b = inr (record { here = a.0; there = sym a.0 ∙ b.0 })
along_line ver o m z a b = inl (record { here = a.0; there = sym a.0 ∙ b.0 })

-- to go to the one or to the other is the same turn
same_turn : (d : Dir) (p o m z : Point) → Along d o m → Along d o z → straight_on p o m ≡ straight_on p o z
unfolding straight_on
same_turn hor p o m z a b =
    rw (ne_eqb o.x m.x a.1, ne_eqb o.x z.x b.1, eq-eqb o.y m.y a.0, eq-eqb o.y z.y b.0)
same_turn ver p o m z a b =
    rw (ne_eqb o.y m.y a.1, ne_eqb o.y z.y b.1, eq-eqb o.x m.x a.0, eq-eqb o.x z.x b.0)

-- what comes to the one straight on is on one line with both
on_through : (d : Dir) (p o m z : Point) → Along d o m → Along d o z → On-line p o m → On-line p m z
on_through hor p o m z a b (inl t) = absurd (a.1 t.there)
on_through hor p o m z a b (inr t) = inr (record { here = t.here ∙ t.there; there = sym a.0 ∙ b.0 })
on_through ver p o m z a b (inl t) = inl (record { here = t.here ∙ t.there; there = sym a.0 ∙ b.0 })
on_through ver p o m z a b (inr t) = absurd (a.1 t.there)

-- the way to a point along d is straight
along_straight : (d : Dir) (o m : Point) → Along d o m → Straight (o to m)
along_straight hor o m a = inr a.0
along_straight ver o m a = inl a.0

-- The walk k goes on from m as the piece to z does. Then m in front of k turns where z in front of l turns.
step_front : (d : Dir) (p o m z : Point) (k l : List Point) → Along d o m → Along d o z
    → ((q : Point) → Straight (q to m) → corners_from q m k ≡ corners_from q m (z ∷ l))
    → corners_from p o (m ∷ k) ≡ corners_from p o (z ∷ l)
step_front d p o m z k l a b f = go (straight_on p o m) refl
  where
    go : (t : Bool) → straight_on p o m ≡ t → corners_from p o (m ∷ k) ≡ corners_from p o (z ∷ l)
    go true e =
        let c = line_true p o m e in
        corner_on p o m k e ∙ f p (line_straight p o m c) ∙ corner_on p m z l (true_line p m z (on_through d p o m z a b c))
        ∙ sym (corner_on p o z l (sym (same_turn d p o m z a b) ∙ e))
    go false e =
        corner_at p o m k e
        ∙ ap (λ (t : List Point). o ∷ t) (f o (along_straight d o m a) ∙ corner_on o m z l (true_line o m z (along_line d o m z a b)))
        ∙ sym (corner_at p o z l (sym (same_turn d p o m z a b) ∙ e))

-- ---- a piece

-- k steps along d go from (i, j) to (a, b)
abbrev Reaches : Dir → (k i j a b : ℕ) → Type 0
Reaches hor k i j a b = (i + k ≡ a) × (j ≡ b)
Reaches ver k i j a b = (i ≡ a) × (j + k ≡ b)

-- no steps stay where they are
reaches_none : (d : Dir) (i j a b : ℕ) → Reaches d 0 i j a b → (i ≡ a) × (j ≡ b)
reaches_none hor i j a b h = omega arith
reaches_none ver i j a b h = omega arith

-- after one step there are the others
reaches_next : (d : Dir) (k i j a b : ℕ) → Reaches d (suc k) i j a b → Reaches d k (next_column d i) (next_row d j) a b
reaches_next hor k i j a b h = omega arith
reaches_next ver k i j a b h = omega arith

-- one step goes to the next column, or the next row
reaches_one : (d : Dir) (i j : ℕ) → Reaches d 1 i j (next_column d i) (next_row d j)
reaches_one hor i j = omega arith
reaches_one ver i j = omega arith

-- steps go on, never back
reaches_within : (d : Dir) (k i j a b : ℕ) → Reaches d k i j a b → (i ≤ a) × (j ≤ b)
reaches_within hor k i j a b h = omega arith
reaches_within ver k i j a b h = omega arith

-- a step list from (i, j) to the frame's far corner that turns where the points of a list do, wherever the route comes from
record From (g : Grid) (X Y : Lane) (i j : ℕ) (l : List Point) : Type 0 where
  list : List Dir
  all_columns : i + steps hor list ≡ extent X
  all_rows : j + steps ver list ≡ extent Y
  same : (p : Point) → Straight (p to spot g X Y i j)
      → corners_from p (spot g X Y i j) (draw_from g X Y i j list) ≡ corners_from p (spot g X Y i j) l

module _ (g : Grid) (X Y : Lane) (fx : Fits g.columns X) (fy : Fits g.rows Y) where
  -- some steps along d go to a spot away along d
  reaches_along : (d : Dir) (k i j a b : ℕ) → Reaches d (suc k) i j a b → a ≤ extent X → b ≤ extent Y → Along d (spot g X Y i j) (spot g X Y a b)
  reaches_along hor k i j a b h m n =
      (ap (λ t. get_or g.rows (at Y t) 0) h.1, lane_apart g.columns g.columns_rise X fx i a (omega arith) m)
  reaches_along ver k i j a b h m n =
      (ap (λ t. get_or g.columns (at X t) 0) h.0, lane_apart g.rows g.rows_rise Y fy j b (omega arith) n)

  -- a step in front
  one_more : (d : Dir) (i j : ℕ) (z : Point) (l : List Point) → Along d (spot g X Y i j) (spot g X Y (next_column d i) (next_row d j)) → Along d (spot g X Y i j) z
      → From g X Y (next_column d i) (next_row d j) (z ∷ l) → From g X Y i j (z ∷ l)
  unfolding steps
  one_more hor i j z l a b r =
      record {
        list = hor ∷ r.list;
        all_columns = omega (arith, r.all_columns);
        all_rows = omega (arith, r.all_rows);
        same = λ p s. step_front hor p (spot g X Y i j) (spot g X Y (suc i) j) z (draw_from g X Y (suc i) j r.list) l a b r.same;
      }
  one_more ver i j z l a b r =
      record {
        list = ver ∷ r.list;
        all_columns = omega (arith, r.all_columns);
        all_rows = omega (arith, r.all_rows);
        same = λ p s. step_front ver p (spot g X Y i j) (spot g X Y i (suc j)) z (draw_from g X Y i (suc j) r.list) l a b r.same;
      }

  -- a straight piece in front
  front : (d : Dir) (k i j a b : ℕ) (l : List Point) → Reaches d k i j a b → a ≤ extent X → b ≤ extent Y → From g X Y a b l
      → From g X Y i j (spot g X Y a b ∷ l)
  front d zero i j a b l h m n r =
      let (e, f) = reaches_none d i j a b h in
      subst₂ (λ s t. From g X Y s t (spot g X Y a b ∷ l)) (sym e) (sym f)
      (record {
        list = r.list;
        all_columns = r.all_columns;
        all_rows = r.all_rows;
        same = λ p s. r.same p s ∙ sym (corner_on p (spot g X Y a b) (spot g X Y a b) l (still_on p (spot g X Y a b) s));
      })
  front d (suc k) i j a b l h m n r =
      let u = reaches_next d k i j a b h in
      let w = reaches_within d k (next_column d i) (next_row d j) a b u in
      one_more d i j (spot g X Y a b) l
      (reaches_along d 0 i j (next_column d i) (next_row d j) (reaches_one d i j) (omega arith) (omega arith))
      (reaches_along d k i j a b h m n)
      (front d k (next_column d i) (next_row d j) a b l u m n r)

  module _ (z : Point) (ez : spot g X Y (extent X) (extent Y) ≡ z) where
    -- the piece from p to q in front of a step list from q on
    piece_front : (i j : ℕ) (p q : Point) (l : List Point) → spot g X Y i j ≡ p → i ≤ extent X → j ≤ extent Y
        → Vertex g q → Towards p q z → Straight (p to q)
        → ((a b : ℕ) → spot g X Y a b ≡ q → a ≤ extent X → b ≤ extent Y → From g X Y a b l)
        → From g X Y i j (q ∷ l)
    piece_front i j p q l e h k v t (inl d) rest =
        let b = subst₂ (λ c d. Between c q.y d) (sym (ap (λ (o : Point). o.y) e)) (sym (ap (λ (o : Point). o.y) ez)) t.in_y in
        let (n, o, c) = lane_next g.rows g.rows_rise Y fy j q.y k v.row b in
        let e' = point_path (ap (λ (o : Point). o.x) e ∙ d) c in
        subst (λ (r : Point). From g X Y i j (r ∷ l)) e' (front ver n i j i (j + n) l (refl, refl) h o (rest i (j + n) e' h o))
    piece_front i j p q l e h k v t (inr d) rest =
        let b = subst₂ (λ c d. Between c q.x d) (sym (ap (λ (o : Point). o.x) e)) (sym (ap (λ (o : Point). o.x) ez)) t.in_x in
        let (n, o, c) = lane_next g.columns g.columns_rise X fx i q.x h v.column b in
        let e' = point_path c (ap (λ (o : Point). o.y) e ∙ d) in
        subst (λ (r : Point). From g X Y i j (r ∷ l)) e' (front hor n i j (i + n) j l (refl, refl) o k (rest (i + n) j e' o k))

    -- the pieces of a walk from (i, j), one after the other
    steps_from : (i j : ℕ) (p : Point) (l : List Point) → spot g X Y i j ≡ p → i ≤ extent X → j ≤ extent Y
        → All (Vertex g) (p ∷ l) → All Straight (pieces_from p l) → Monotone p l z → From g X Y i j l
    unfolding steps
    steps_from i j p [] e h k v s m =
        let x-end = lane_end g.columns g.columns_rise X fx i h (ap (λ (q : Point). q.x) (e ∙ m ∙ sym ez)) in
        let y-end = lane_end g.rows g.rows_rise Y fy j k (ap (λ (q : Point). q.y) (e ∙ m ∙ sym ez)) in
        record { list = []; all_columns = omega arith; all_rows = omega arith; same = λ p s. refl }
    steps_from i j p (q ∷ l) e h k v s m =
        piece_front i j p q l e h k v.1.0 m.0 s.0 (λ a b c o n. steps_from a b q l c o n v.1 s.1 m.1)

-- ---- the law

-- a step list that passes the whole frame of a run between two points has a step, and the corners of what it draws are the first point and those behind it
drawn_start : (g : Grid) (run : Run) (X Y : Lane) → Frame g run X Y → TwoPoints run → (s : List Dir) → 0 + steps hor s ≡ extent X → 0 + steps ver s ≡ extent Y
    → corners (drawn g X Y s) ≡ spot g X Y 0 0 ∷ corners_from (spot g X Y 0 0) (spot g X Y 0 0) (draw_from g X Y 0 0 s)
unfolding steps
drawn_start g run X Y f two [] a b = absurd (two (sym f.from ∙ ap₂ (spot g X Y) a b ∙ f.upto))
drawn_start g run X Y f two (hor ∷ s) a b = corners_start (spot g X Y 0 0) (spot g X Y 1 0) (draw_from g X Y 1 0 s) (inr refl)
drawn_start g run X Y f two (ver ∷ s) a b = corners_start (spot g X Y 0 0) (spot g X Y 0 1) (draw_from g X Y 0 1 s) (inl refl)

-- a step list that passes the whole frame, with the corners of a route
pub record SameTurns (g : Grid) (X Y : Lane) (route : Route) : Type 0 where
  pub list : List Dir
  pub complete : Complete X Y list
  pub same : corners (drawn g X Y list) ≡ corners route

-- every Manhattan route of a run between two points has one in the run's frame
pub to_turns : (g : Grid) (run : Run) (X Y : Lane) → Frame g run X Y → TwoPoints run → (route : Route) → Manhattan g run route → SameTurns g X Y route
to_turns g run X Y f two [] m = absurd m.starts
to_turns g run X Y f two (p ∷ []) m = absurd (two (sym m.starts ∙ m.ends))
to_turns g run X Y f two (p ∷ q ∷ l) m =
    let e : spot g X Y 0 0 ≡ p = f.from ∙ sym m.starts in
    let s = steps_from g X Y f.columns_fit f.rows_fit run.second f.upto 0 0 p (q ∷ l) e (omega arith) (omega arith) m.vertices m.straight (monotone p (q ∷ l) m) in
    record {
      list = s.list;
      complete = record { all_columns = omega (arith, s.all_columns); all_rows = omega (arith, s.all_rows) };
      same =
          drawn_start g run X Y f two s.list s.all_columns s.all_rows
          ∙ ap (λ (t : List Point). spot g X Y 0 0 ∷ t) (s.same (spot g X Y 0 0) (inl refl))
          ∙ ap (λ (o : Point). o ∷ corners_from o o (q ∷ l)) e
          ∙ sym (corners_start p q l m.straight.0);
    }
