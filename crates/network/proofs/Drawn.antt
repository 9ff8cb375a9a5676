-- Every complete step list of a run's frame is a Manhattan route of the run; and the sum along a route, for any weight of the edges, is the sum
-- over its steps.
use mathlib.Core.Path.{◌≡◌, refl, sym, ap, ap₂, ◌∙◌, subst}
use mathlib.Core.Logic.{inl, inr}
use mathlib.Core.List.{List, [], ◌∷◌}
use mathlib.Core.Bool.{true, cond}
use Prim.Native.Nat.{ℕ, suc, ◌+◌, ◌-◌, ◌≤◌}
use native.Mathlib.Omega.{arith}
use lib.ListN.{get_or}
use Rattle.network.specs.Lists.{sum, All}
use Rattle.network.specs.Plane.{Point, Run, ◌to◌, gap}
use Rattle.network.specs.Grid.{Grid, Edge, across, upward, across_at, upward_at}
use Rattle.network.specs.Route.{pieces_from, Route, Vertex, Straight, Manhattan, on, lies}
use Rattle.network.specs.Steps.{Dir, hor, ver, steps, Lane, extent, at, Fits, spot, Frame, Complete, draw_from, drawn}
use Rattle.network.proofs.Tests.{is_false, lies_true, true_lies}
use Rattle.network.proofs.Numbers.{gap_self, between_gap}
use Rattle.network.proofs.Rising.{one_index}
use Rattle.network.proofs.Edges.{OfGrid, across_of, upward_of, edges_cong, edges_one}
use Rattle.network.proofs.Monotone.{Towards, Monotone, manhattan_of}
use Rattle.network.proofs.Along.{selected, on_piece, along}
use Rattle.network.proofs.Lanes.{at_fits, low_fits, spot_vertex, lane_step, lane_only, lane_length}
use Rattle.network.proofs.Steps.{next_column, next_row, step_edge, draw_next, steps_next, next_le, spots_towards, to_steps}

-- the sum of w over the steps, from (i, j) on
abbrev pub step_sum : (Dir → ℕ → ℕ → ℕ) → ℕ → ℕ → List Dir → ℕ
step_sum w i j [] = 0
step_sum w i j (d ∷ s) = w d i j + step_sum w (next_column d i) (next_row d j) s

-- the length of an edge in the direction d: 0 if the edge goes the other way
abbrev pub len_in : Dir → Edge → ℕ
len_in hor (across x x' y) = x' - x
len_in hor (upward x y y') = 0
len_in ver (across x x' y) = 0
len_in ver (upward x y y') = y' - y

-- how far apart a run's points are in the direction d
abbrev pub gap_in : Dir → Run → ℕ
gap_in hor r = gap r.first.x r.second.x
gap_in ver r = gap r.first.y r.second.y

-- a point is not apart from itself
gap_in_self : (d : Dir) (p : Point) → gap_in d (p to p) ≡ 0
gap_in_self hor p = gap_self p.x
gap_in_self ver p = gap_self p.y

-- gaps in one direction add up on the way
gap_in_towards : (d : Dir) {p q z : Point} → Towards p q z → gap_in d (p to q) + gap_in d (q to z) ≡ gap_in d (p to z)
gap_in_towards hor t = between_gap t.in_x
gap_in_towards ver t = between_gap t.in_y

module _ (g : Grid) (X Y : Lane) (fx : Fits g.columns X) (fy : Fits g.rows Y) where
  -- ---- the route of a step list

  -- its points are vertices
  drawn_vertices : (i j : ℕ) (s : List Dir) → i + steps hor s ≤ extent X → j + steps ver s ≤ extent Y
      → All (Vertex g) (spot g X Y i j ∷ draw_from g X Y i j s)
  drawn_vertices i j [] h k = (spot_vertex g X Y fx fy i j (omega arith) (omega arith), tt)
  drawn_vertices i j (d ∷ s) h k =
      rw (draw_next g X Y d i j s)
      (spot_vertex g X Y fx fy i j (omega arith) (omega arith), drawn_vertices (next_column d i) (next_row d j) s (omega (arith, steps_next d i j s)) (omega (arith, steps_next d i j s)))

  -- its pieces are straight
  drawn_straight : (i j : ℕ) (s : List Dir) → All Straight (pieces_from (spot g X Y i j) (draw_from g X Y i j s))
  drawn_straight i j [] = tt
  drawn_straight i j (hor ∷ s) = (inr refl, drawn_straight (suc i) j s)
  drawn_straight i j (ver ∷ s) = (inl refl, drawn_straight i (suc j) s)

  -- it is monotone
  drawn_monotone : (i j : ℕ) (s : List Dir) → i + steps hor s ≡ extent X → j + steps ver s ≡ extent Y
      → Monotone (spot g X Y i j) (draw_from g X Y i j s) (spot g X Y (extent X) (extent Y))
  unfolding steps
  drawn_monotone i j [] h k =
      let a : i ≡ extent X = omega arith in
      let b : j ≡ extent Y = omega arith in
      ap₂ (λ m n. spot g X Y m n) a b
  drawn_monotone i j (d ∷ s) h k =
      let n = steps_next d i j s in
      rw (draw_next g X Y d i j s) (
        spots_towards g X Y fx fy i j (next_column d i) (next_row d j) (extent X) (extent Y) (next_le d i j).0 (next_le d i j).1
            (omega (arith, n)) (omega (arith, n)) (omega arith) (omega arith),
        drawn_monotone (next_column d i) (next_row d j) s (omega (arith, n)) (omega (arith, n)),
      )

  -- ---- one step

  -- the edge of a step is an edge of the grid
  step_of : (d : Dir) (i j : ℕ) → next_column d i ≤ extent X → next_row d j ≤ extent Y → OfGrid g (step_edge g X Y d i j)
  step_of hor i j h k = across_of _ _ (low_fits g.columns X fx i h) (at_fits g.rows Y fy j k)
  step_of ver i j h k = upward_of _ _ (at_fits g.columns X fx i h) (low_fits g.rows Y fy j k)

  -- the edge of a step lies on the step's piece, and no other edge of the grid does
  pub step_lies : (d : Dir) (i j : ℕ) → next_column d i ≤ extent X → next_row d j ≤ extent Y
      → lies (step_edge g X Y d i j) (spot g X Y i j to spot g X Y (next_column d i) (next_row d j)) ≡ true
  step_lies hor i j h k =
      true_lies (step_edge g X Y hor i j) (spot g X Y i j to spot g X Y (suc i) j)
      (record { first_at_lem = refl; second_at_lem = refl }, lane_step g.columns g.columns_rise X fx i h)
  step_lies ver i j h k =
      true_lies (step_edge g X Y ver i j) (spot g X Y i j to spot g X Y i (suc j))
      (record { first_at_lem = refl; second_at_lem = refl }, lane_step g.rows g.rows_rise Y fy j k)

  -- and it is the only one
  step_only : (d : Dir) (i j : ℕ) → next_column d i ≤ extent X → next_row d j ≤ extent Y → (e : Edge) → OfGrid g e
      → lies e (spot g X Y i j to spot g X Y (next_column d i) (next_row d j)) ≡ true → e ≡ step_edge g X Y d i j
  step_only hor i j h k e (across_of a b m n) t =
      let s = lies_true (across_at g a b) (spot g X Y i j to spot g X Y (suc i) j) t in
      ap₂ (across_at g) (lane_only g.columns g.columns_rise X fx i h a m s.1)
      (one_index g.rows g.rows_rise b (at Y j) n (at_fits g.rows Y fy j k) (sym s.0.first_at_lem))
  step_only hor i j h k e (upward_of a b m n) t =
      absurd (omega (arith, lies_true (upward_at g a b) (spot g X Y i j to spot g X Y (suc i) j) t, g.rows_rise b n))
  step_only ver i j h k e (across_of a b m n) t =
      absurd (omega (arith, lies_true (across_at g a b) (spot g X Y i j to spot g X Y i (suc j)) t, g.columns_rise a m))
  step_only ver i j h k e (upward_of a b m n) t =
      let s = lies_true (upward_at g a b) (spot g X Y i j to spot g X Y i (suc j)) t in
      ap₂ (upward_at g) (one_index g.columns g.columns_rise a (at X i) m (at_fits g.columns X fx i h) (sym s.0.first_at_lem))
      (lane_only g.rows g.rows_rise Y fy j k b n s.1)

  -- so a weight summed over the edges on the step's piece is the weight of the step's edge
  step_selects : (w : Edge → ℕ) (d : Dir) (i j : ℕ) → next_column d i ≤ extent X → next_row d j ≤ extent Y
      → on_piece g w (spot g X Y i j to spot g X Y (next_column d i) (next_row d j)) ≡ w (step_edge g X Y d i j)
  step_selects w d i j h k =
      let r = spot g X Y i j to spot g X Y (next_column d i) (next_row d j) in
      edges_one g (λ e. cond (lies e r) (w e) 0) (step_of d i j h k) (λ e o n. rw (is_false (lies e r) (λ t. n (step_only d i j h k e o t))))
      ∙ rw (step_lies d i j h k)

  -- its length in the direction e is how far it goes in that direction
  step_length : (e d : Dir) (i j : ℕ) → next_column d i ≤ extent X → next_row d j ≤ extent Y
      → len_in e (step_edge g X Y d i j) ≡ gap_in e (spot g X Y i j to spot g X Y (next_column d i) (next_row d j))
  step_length hor hor i j h k = lane_length g.columns g.columns_rise X fx i h
  step_length hor ver i j h k = sym (gap_self (get_or g.columns (at X i) 0))
  step_length ver hor i j h k = sym (gap_self (get_or g.rows (at Y j) 0))
  step_length ver ver i j h k = lane_length g.rows g.rows_rise Y fy j k

  -- ---- sums over the steps

  -- any weight sums over the pieces as over the steps
  drawn_sums : (w : Edge → ℕ) (i j : ℕ) (s : List Dir) → i + steps hor s ≤ extent X → j + steps ver s ≤ extent Y
      → sum (on_piece g w) (pieces_from (spot g X Y i j) (draw_from g X Y i j s)) ≡ step_sum (λ d a b. w (step_edge g X Y d a b)) i j s
  drawn_sums w i j [] h k = refl
  drawn_sums w i j (d ∷ s) h k =
      let n = steps_next d i j s in
      rw (draw_next g X Y d i j s)
      (ap₂ ◌+◌ (step_selects w d i j (omega (arith, n)) (omega (arith, n)))
      (drawn_sums w (next_column d i) (next_row d j) s (omega (arith, n)) (omega (arith, n))))

  -- the lengths of the steps in the direction e add up to the gap
  drawn_lengths : (e : Dir) (i j : ℕ) (s : List Dir) → i + steps hor s ≡ extent X → j + steps ver s ≡ extent Y
      → step_sum (λ d a b. len_in e (step_edge g X Y d a b)) i j s ≡ gap_in e (spot g X Y i j to spot g X Y (extent X) (extent Y))
  unfolding steps
  drawn_lengths e i j [] h k =
      let a : i ≡ extent X = omega arith in
      let b : j ≡ extent Y = omega arith in
      sym (gap_in_self e (spot g X Y i j)) ∙ ap₂ (λ m n. gap_in e (spot g X Y i j to spot g X Y m n)) a b
  drawn_lengths e i j (d ∷ s) h k =
      let n = steps_next d i j s in
      ap₂ ◌+◌ (step_length e d i j (omega (arith, n)) (omega (arith, n))) (drawn_lengths e (next_column d i) (next_row d j) s (omega (arith, n)) (omega (arith, n)))
      ∙ gap_in_towards e (spots_towards g X Y fx fy i j (next_column d i) (next_row d j) (extent X) (extent Y) (next_le d i j).0 (next_le d i j).1
      (omega (arith, n)) (omega (arith, n)) (omega arith) (omega arith))

-- ---- the laws

module _ (g : Grid) (run : Run) (X Y : Lane) (f : Frame g run X Y) where
  -- every complete step list is a Manhattan route
  pub from_steps : (s : List Dir) → Complete X Y s → Manhattan g run (drawn g X Y s)
  from_steps s c =
      let fx = f.columns_fit in
      let fy = f.rows_fit in
      subst (λ r. Manhattan g r (drawn g X Y s)) (ap₂ ◌to◌ f.from f.upto)
      (manhattan_of g (spot g X Y 0 0) (draw_from g X Y 0 0 s) (spot g X Y (extent X) (extent Y))
      (drawn_vertices g X Y fx fy 0 0 s (omega arith) (omega arith)) (drawn_straight g X Y fx fy 0 0 s) (drawn_monotone g X Y fx fy 0 0 s (omega arith) (omega arith)))

  -- the sum over the edges on it is the sum over its steps
  pub drawn_selected : (s : List Dir) → Complete X Y s → (w : Edge → ℕ)
      → selected g w (λ e. on e (drawn g X Y s)) ≡ step_sum (λ d i j. w (step_edge g X Y d i j)) 0 0 s
  drawn_selected s c w =
      along g w run (drawn g X Y s) (from_steps s c) ∙ drawn_sums g X Y f.columns_fit f.rows_fit w 0 0 s (omega arith) (omega arith)

  -- and so it is for every Manhattan route and its step list
  pub selected_steps : (route : Route) (m : Manhattan g run route) (w : Edge → ℕ)
      → selected g w (λ e. on e route) ≡ step_sum (λ d i j. w (step_edge g X Y d i j)) 0 0 (to_steps g run X Y f route m).list
  selected_steps route m w =
      let s = to_steps g run X Y f route m in
      edges_cong g _ _ (λ e o. ap (λ t. cond t (w e) 0) (s.same e o)) ∙ drawn_selected s.list s.complete w

  -- the edges on it that go in the direction e are together as long as the run's points are apart in that direction
  pub drawn_length : (e : Dir) (s : List Dir) → Complete X Y s → selected g (len_in e) (λ f. on f (drawn g X Y s)) ≡ gap_in e run
  drawn_length e s c =
      drawn_selected s c (len_in e) ∙ drawn_lengths g X Y f.columns_fit f.rows_fit e 0 0 s (omega arith) (omega arith)
      ∙ ap₂ (λ p q. gap_in e (p to q)) f.from f.upto
