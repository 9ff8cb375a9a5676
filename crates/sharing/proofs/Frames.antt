-- Any frame of a run, seen in the view: its lanes pass the lines between the run's points, in the run's order. So the edge of a step is known by its
-- direction and the lines of the view, and steps that pass an edge draw a route on it.
use mathlib.Core.Path.{◌≡◌, refl, sym, ap, ap₂, ◌∙◌, subst}
use mathlib.Core.Logic.{inl, inr}
use mathlib.Core.Bool.{Bool, true, false, cond}
use mathlib.Core.List.{List, [], ◌∷◌, ◌++◌}
use Prim.Native.Nat.{ℕ, suc, ◌+◌, ◌-◌, ◌≤◌, ◌<◌}
use native.Mathlib.Omega.{arith}
use borrow.Author.Tests.{leb-true, leb-false}
use lib.ListN.{length, get_or}
use Rattle.network.specs.Lists.{any}
use Rattle.network.specs.Plane.{Point, ◌to◌, gap}
use Rattle.network.specs.Grid.{across_at, upward_at}
use Rattle.network.specs.Route.{pieces_from, on, lies}
use Rattle.network.specs.Steps.{Dir, hor, ver, other, steps, Lane, forth, back, extent, at, low, Fits, spot, Frame, Complete, draw_from, drawn}
use Rattle.network.proofs.Tests.{or_join}
use Rattle.network.proofs.Numbers.{gap_rise, gap_fall}
use Rattle.network.proofs.Rising.{one_index}
use Rattle.network.proofs.Lanes.{at_fits}
use Rattle.network.proofs.Steps.{next_column, next_row, step_edge, draw_next, steps_next}
use Rattle.network.proofs.Drawn.{step_lies}
use Rattle.sharing.specs.Box.{Box}
use Rattle.sharing.specs.Leaf.{forward}
use Rattle.sharing.specs.View.{lines, View, index, lower, coordinate, shown, edge}
use Rattle.sharing.proofs.Steps.{coord}
use Rattle.network.proofs.StepCounts.{steps_append}
use Rattle.sharing.proofs.Leaf.{line_after, low_after, Passes}
use Rattle.sharing.proofs.View.{rises, Seen, index_fits}

-- the run goes along d to higher numbers, or to lower ones
abbrev Way : Bool → ℕ → ℕ → Type 0
Way true p q = p ≤ q
Way false p q = q < p

-- so it goes the way that `forward` says
goes : (b : Box) (d : Dir) (w : Bool) → forward b d ≡ w → Way w (b.first d) (b.second d)
unfolding forward
goes b d true e = leb-true (b.first d) (b.second d) e
goes b d false e = leb-false (b.first d) (b.second d) e

-- a lane of n lines from the line with the number p to the line with the number q, the way w: how long it is, and which lines and edges it passes
record Passing (f w : Bool) (n p q : ℕ) (L : Lane) : Type 0 where
  long : extent L ≡ gap p q
  line : (i : ℕ) → i ≤ extent L → at L i ≡ index f n (cond w (p + i) (p - i))
  edge_low : (i : ℕ) → i < extent L → low L i ≡ lower f n (cond w (p + i) (p - suc i))

-- a lane that fits the lines and has these ends is one
passing : (l : List ℕ) (f w : Bool) (p q : ℕ) (L : Lane) → Way w p q → p < length l → q < length l → Fits l L
    → at L 0 ≡ index f (length l) p → at L (extent L) ≡ index f (length l) q → Passing f w (length l) p q L
passing l false true p q (forth a m) o h k z s t = omega (arith, gap_rise p q o)
passing l false true p q (back a m) o h k z s t = omega (arith, gap_rise p q o)
passing l false false p q (forth a m) o h k z s t = absurd (omega arith)
passing l false false p q (back a m) o h k z s t = omega (arith, gap_fall p q (omega arith))
passing l true true p q (forth a m) o h k z s t = omega (arith, gap_rise p q o)
passing l true true p q (back a m) o h k z s t = omega (arith, gap_rise p q o)
passing l true false p q (forth a m) o h k z s t = omega (arith, gap_fall p q (omega arith))
passing l true false p q (back a m) o h k z s t = absurd (omega arith)

-- the lanes of a frame, by direction
abbrev pub lane_of : Lane → Lane → Dir → Lane
lane_of X Y hor = X
lane_of X Y ver = Y

module _ (v : View) (b : Box) (f : Seen v b) (X Y : Lane) (frame : Frame v.grid (shown v b) X Y) where
  -- each fits its lines
  lane_fits : (d : Dir) → Fits (lines v.grid d) (lane_of X Y d)
  lane_fits hor = frame.columns_fit
  lane_fits ver = frame.rows_fit

  -- each begins where the box begins
  start_at : (d : Dir) → get_or (lines v.grid d) (at (lane_of X Y d) 0) 0 ≡ coordinate v d (b.first d)
  start_at hor = ap (λ (p : Point). p.x) frame.from
  start_at ver = ap (λ (p : Point). p.y) frame.from

  -- and ends where it ends
  stop_at : (d : Dir) → get_or (lines v.grid d) (at (lane_of X Y d) (extent (lane_of X Y d))) 0 ≡ coordinate v d (b.second d)
  stop_at hor = ap (λ (p : Point). p.x) frame.upto
  stop_at ver = ap (λ (p : Point). p.y) frame.upto

  -- so each passes the lines between the box's ends
  passed : (d : Dir) → Passing (v.flip d) (forward b d) (length (lines v.grid d)) (b.first d) (b.second d) (lane_of X Y d)
  passed d =
      let l = lines v.grid d in
      let L = lane_of X Y d in
      passing l (v.flip d) (forward b d) (b.first d) (b.second d) L (goes b d (forward b d) refl) (f d).0 (f d).1 (lane_fits d)
      (one_index l (rises v.grid d) (at L 0) _ (at_fits l L (lane_fits d) 0 (omega arith)) (index_fits v d (b.first d) (f d).0) (start_at d))
      (one_index l (rises v.grid d) (at L (extent L)) _ (at_fits l L (lane_fits d) (extent L) (omega arith)) (index_fits v d (b.second d) (f d).1) (stop_at d))

  -- a frame has as many columns and rows as lie between the run's points
  pub frame_extent : (d : Dir) → extent (lane_of X Y d) ≡ gap (b.first d) (b.second d)
  frame_extent d = (passed d).long

  -- the edge of the step along d after i columns and j rows
  pub step_edge_lem : (d : Dir) (i j : ℕ) → next_column d i ≤ extent X → next_row d j ≤ extent Y
      → step_edge v.grid X Y d i j ≡ edge v d (low_after b d (coord d hor i j)) (line_after b (other d) (coord (other d) hor i j))
  step_edge_lem hor i j h k = ap₂ (across_at v.grid) ((passed hor).edge_low i h) ((passed ver).line j k)
  step_edge_lem ver i j h k = ap₂ (upward_at v.grid) ((passed hor).line i h) ((passed ver).edge_low j k)

  -- ---- steps that pass an edge

  -- steps that lead from the first point to the second pass the whole frame
  pub complete : (s : List Dir) → ((d : Dir) → steps d s ≡ gap (b.first d) (b.second d)) → Complete X Y s
  complete s h = record { all_columns = h hor ∙ sym (frame_extent hor); all_rows = h ver ∙ sym (frame_extent ver) }

  -- the edge of a step is on the route that the steps draw
  step_on : (pre : List Dir) (d : Dir) (post : List Dir) (i j : ℕ) → i + steps hor (pre ++ d ∷ post) ≤ extent X → j + steps ver (pre ++ d ∷ post) ≤ extent Y
      → any (lies (step_edge v.grid X Y d (i + steps hor pre) (j + steps ver pre)))
      (pieces_from (spot v.grid X Y i j) (draw_from v.grid X Y i j (pre ++ d ∷ post)))
      ≡ true
  unfolding steps
  step_on [] d post i j h k =
      let n = steps_next d i j post in
      let x : i + 0 ≡ i = omega arith in
      let y : j + 0 ≡ j = omega arith in
      rw (x, y, draw_next v.grid X Y d i j post)
      (or_join _ _ (inl (step_lies v.grid X Y frame.columns_fit frame.rows_fit d i j (omega (arith, n)) (omega (arith, n)))))
  step_on (c ∷ pre) d post i j h k =
      let n = steps_next c i j pre in
      let m = steps_next c i j (pre ++ d ∷ post) in
      rw (← n.0, ← n.1, draw_next v.grid X Y c i j (pre ++ d ∷ post))
      (or_join (lies (step_edge v.grid X Y d (next_column c i + steps hor pre) (next_row c j + steps ver pre))
      (spot v.grid X Y i j to spot v.grid X Y (next_column c i) (next_row c j))) _
      (inr (step_on pre d post (next_column c i) (next_row c j) (omega (arith, m)) (omega (arith, m)))))

  -- the route that the steps draw is on every edge that they pass
  pub passes_on : (s : List Dir) → ((e : Dir) → steps e s ≡ gap (b.first e) (b.second e)) → (d : Dir) (a c : ℕ) → Passes b s d a c
      → on (edge v d a c) (drawn v.grid X Y s) ≡ true
  passes_on s h d a c p =
      let i = steps hor p.pre in
      let j = steps ver p.pre in
      let x : 0 + i ≡ i = omega arith in
      let y : 0 + j ≡ j = omega arith in
      let whole : (e : Dir) → steps e (p.pre ++ d ∷ p.post) ≡ extent (lane_of X Y e) = λ e. ap (steps e) (sym p.whole) ∙ h e ∙ sym (frame_extent e) in
      let parts : (e : Dir) → steps e p.pre + steps e (d ∷ p.post) ≡ extent (lane_of X Y e) = λ e. sym (steps_append e p.pre (d ∷ p.post)) ∙ whole e in
      let n = steps_next d i j p.post in
      let there : on (step_edge v.grid X Y d i j) (drawn v.grid X Y s) ≡ true
      = rw p.whole (rw (x, y) at (step_on p.pre d p.post 0 0 (omega (arith, whole hor)) (omega (arith, whole ver)))) in
      let is : step_edge v.grid X Y d i j ≡ edge v d a c
      = step_edge_lem d i j (omega (arith, n, parts hor)) (omega (arith, n, parts ver))
      ∙ ap₂ (edge v d) (ap (low_after b d) (counted d p.pre) ∙ p.along) (ap (line_after b (other d)) (counted (other d) p.pre) ∙ p.across) in
      subst (λ e. on e (drawn v.grid X Y s) ≡ true) is there
    where
      counted : (e : Dir) (q : List Dir) → coord e hor (steps hor q) (steps ver q) ≡ steps e q
      counted hor q = refl
      counted ver q = refl
