-- T5 for routes: the routes drawn by the centre's traced moves and by its leaves' steps are Manhattan routes, and share what the table says.
--
-- Each shared move's edge is on the centre's route and on the route of the leaf that it is shared with. So it counts at least its length, and the lengths
-- of the shared moves together are what the table says.
use mathlib.Core.Path.{◌≡◌, refl, sym, ap, ◌∙◌, subst}
use mathlib.Core.Bool.{true, cond, ◌&&◌}
use mathlib.Core.List.{List, [], ◌∷◌, reverse, reverse_aux, reverse-reverse}
use Prim.Native.Nat.{ℕ, ◌+◌, ◌≤◌, ◌<◌}
use native.Mathlib.Omega.{arith}
use lib.ListN.{length}
use Rattle.network.specs.Plane.{Run, gap}
use Rattle.network.specs.Grid.{Edge, len}
use Rattle.network.specs.Route.{Route, Manhattan, on}
use Rattle.network.specs.Graph.{run_at, meets}
use Rattle.network.specs.Steps.{Dir, hor, ver, other, steps, Lane, extent, Frame, drawn}
use Rattle.network.proofs.Numbers.{gap_rise}
use Rattle.network.proofs.Sums.{sum_below, term_le}
use Rattle.network.proofs.Meeting.{meets_listed}
use Rattle.network.proofs.Along.{selected}
use Rattle.network.proofs.Steps.{step_edge}
use Rattle.network.proofs.Drawn.{step_sum, from_steps, drawn_selected}
use Rattle.sharing.specs.Box.{Box}
use Rattle.sharing.specs.Instance.{Instance}
use Rattle.sharing.specs.Table.{Table, figure}
use Rattle.sharing.specs.Trace.{Share, alone, with, Move}
use Rattle.sharing.specs.Walk.{dirs, moved, length_if, owned, sharing, Suits, Kept, Traced}
use Rattle.sharing.specs.Leaf.{leaf_steps}
use Rattle.sharing.specs.View.{View, shown, width}
use Rattle.sharing.specs.Star.{star_of, Centred, route_at, common}
use Rattle.sharing.proofs.Steps.{coord, steps_after, dirs_reverse, moved_reverse}
use Rattle.network.proofs.StepCounts.{steps_le}
use Rattle.sharing.proofs.Stretch.{mine_owner}
use Rattle.sharing.proofs.Leaf.{Passes, At, here, past, leaf_leads, leaf_passes}
use Rattle.sharing.proofs.View.{edge_length}
use Rattle.sharing.proofs.Frames.{lane_of, frame_extent, step_edge_lem, complete, passes_on}
use Rattle.sharing.proofs.Centre.{edge_from, seen, leaf_is, leaf_lies, separate}
use Rattle.sharing.proofs.Most.{figure_is, weight, common_is, rises_forward}

-- ---- the sum of w over the steps of a walk, the last step first

-- by recursion from the last step
back_sum : (Dir → ℕ → ℕ → ℕ) → List Dir → ℕ
back_sum w [] = 0
back_sum w (d ∷ p) = back_sum w p + w d (steps hor p) (steps ver p)

-- it is the sum over the steps in their order
back_steps : (w : Dir → ℕ → ℕ → ℕ) (p r : List Dir) → step_sum w 0 0 (reverse_aux p r) ≡ back_sum w p + step_sum w (steps hor p) (steps ver p) r
unfolding back_sum steps
back_steps w [] r = omega arith
back_steps w (hor ∷ p) r = omega (arith, back_steps w p (hor ∷ r))
back_steps w (ver ∷ p) r = omega (arith, back_steps w p (ver ∷ r))

-- a move of a walk goes no further than the walk
at_moved : {x : Move} {q p : List Move} (e : Dir) → At x q p → moved e (x ∷ q) ≤ moved e p
at_moved e here = omega arith
at_moved e (past {y} {p} i) = omega (arith, at_moved e i, steps_le e y.dir (dirs p))

module _ (v : View) (runs : List Run) (box : ℕ → Box) (c : ℕ) (C : Centred v runs box c) (T : Table) (moves : List Move)
    (traced : Traced (star_of v runs box c) T moves)
    (X Y : ℕ → Lane) (frames : (k : ℕ) → k < length runs → Frame v.grid (run_at runs k) (X k) (Y k)) where
  I : Instance
  I = star_of v runs box c

  -- the moves, the last one first
  p : List Move
  p = reverse moves

  -- the frame of run k shows its box
  frame : (k : ℕ) → k < length runs → Frame v.grid (shown v (box k)) (X k) (Y k)
  frame k h = rw (C.shows k h).same_run (frames k h)

  -- ---- they are Manhattan routes

  -- the centre's moves lead as far as its points are apart
  centre_leads : (d : Dir) → steps d (dirs moves) ≡ gap ((box c).first d) ((box c).second d)
  centre_leads d = omega (arith, traced.leads d, gap_rise ((box c).first d) ((box c).second d) (C.rises d))

  -- a leaf's steps lead as far as its points are apart
  leads : (k : ℕ) → meets v.grid runs c k ≡ true → (d : Dir) → steps d (leaf_steps I k moves) ≡ gap ((box k).first d) ((box k).second d)
  unfolding I
  leads k m d =
      rw reverse-reverse at (leaf_leads (star_of v runs box c) (separate v runs box c C) k (reverse moves) traced.kept d)
      ∙ ap (λ b. gap (b.first d) (b.second d)) (leaf_is v runs box c C k m)

  -- steps that lead so far are a Manhattan route
  goes_by : (k : ℕ) → k < length runs → (s : List Dir) → ((d : Dir) → steps d s ≡ gap ((box k).first d) ((box k).second d))
      → Manhattan v.grid (run_at runs k) (drawn v.grid (X k) (Y k) s)
  goes_by k h s l =
      from_steps v.grid (run_at runs k) (X k) (Y k) (frames k h) s (complete v (box k) (seen v runs box c C k h) (X k) (Y k) (frame k h) s l)

  -- the centre's route, and each leaf's, is a Manhattan route of its run
  pub centre_goes : Manhattan v.grid (run_at runs c) (drawn v.grid (X c) (Y c) (dirs moves))
  centre_goes = goes_by c C.listed (dirs moves) centre_leads

  -- a leaf's route is one too
  pub leaf_goes : (k : ℕ) → meets v.grid runs c k ≡ true
      → Manhattan v.grid (run_at runs k) (drawn v.grid (X k) (Y k) (leaf_steps (star_of v runs box c) k moves))
  unfolding I
  leaf_goes k m = goes_by k (meets_listed v.grid runs c k m) (leaf_steps (star_of v runs box c) k moves) (leads k m)

  -- ---- what they share

  module _ (routes : List Route) (centre_drawn : route_at routes c ≡ drawn v.grid (X c) (Y c) (dirs moves))
      (leaf_drawn : (k : ℕ) → meets v.grid runs c k ≡ true → route_at routes k ≡ drawn v.grid (X k) (Y k) (leaf_steps (star_of v runs box c) k moves)) where
    -- the edge of a shared move is on the leaf's route
    shared_on : (x : Move) (q : List Move) (k : ℕ) → At x q p → x.share ≡ with k → meets v.grid runs c k ≡ true
        → on (edge_from v (box c) x.dir (moved x.dir q) (moved (other x.dir) q)) (route_at routes k) ≡ true
    unfolding I p
    shared_on x q k i e m =
        let h = meets_listed v.grid runs c k m in
        let passes : Passes (box k) (leaf_steps (star_of v runs box c) k moves) x.dir ((box c).first x.dir + moved x.dir q) ((box c).first (other x.dir) + moved (other x.dir) q)
        = subst (λ b. Passes b (leaf_steps (star_of v runs box c) k moves) x.dir ((box c).first x.dir + moved x.dir q) ((box c).first (other x.dir) + moved (other x.dir) q))
        (leaf_is v runs box c C k m)
        (rw reverse-reverse at (leaf_passes (star_of v runs box c) (separate v runs box c C) k (reverse moves) traced.kept x q i e)) in
        rw (leaf_drawn k m)
        (passes_on v (box k) (seen v runs box c C k h) (X k) (Y k) (frame k h) (leaf_steps (star_of v runs box c) k moves) (leads k m) x.dir _ _ passes)

    -- the centre's steps pass its edges
    W : Dir → ℕ → ℕ → ℕ
    W d i j = weight v.grid runs c routes (step_edge v.grid (X c) (Y c) d i j)

    -- a move shares no more than its edge counts
    move_le : (x : Move) (q : List Move) → At x q p → Suits (owned I x q) x.share
        → length_if x.share (I.len x.dir (moved x.dir q)) ≤ W x.dir (moved hor q) (moved ver q)
    unfolding I p W
    move_le x q i f = go x.share refl
      where
        d : Dir
        d = x.dir

        e : Edge
        e = edge_from v (box c) d (moved d q) (moved (other d) q)

        is : step_edge v.grid (X c) (Y c) d (moved hor q) (moved ver q) ≡ e
        is =
            let b = box c in
            let g = seen v runs box c C c C.listed in
            let n = steps_after d (dirs q) in
            let long : (a : Dir) → moved a (x ∷ q) ≤ extent (lane_of (X c) (Y c) a)
            = λ a. omega (arith, at_moved a i, moved_reverse a moves, centre_leads a, frame_extent v b g (X c) (Y c) (frame c C.listed) a) in
            step_edge_lem v b g (X c) (Y c) (frame c C.listed) d (moved hor q) (moved ver q) (omega (arith, n, long hor)) (omega (arith, n, long ver))
            ∙ rw (rises_forward b d (C.rises d), rises_forward b (other d) (C.rises (other d))) (place d)
          where
            place : (d : Dir) → edge_from v (box c) d (coord d hor (moved hor q) (moved ver q)) (coord (other d) hor (moved hor q) (moved ver q))
                ≡ edge_from v (box c) d (moved d q) (moved (other d) q)
            place hor = refl
            place ver = refl

        go : (s : Share) → x.share ≡ s → length_if s (width v d ((box c).first d + moved d q)) ≤ weight v.grid runs c routes (step_edge v.grid (X c) (Y c) d (moved hor q) (moved ver q))
        go alone w = omega arith
        go (with k) w =
            let (m, l) = leaf_lies v runs box c C d k (moved d q) (moved (other d) q) (mine_owner (star_of v runs box c) k (separate v runs box c C) x q f w) in
            let term : ℕ → ℕ = λ j. cond (meets v.grid runs c j && on e (route_at routes j)) (len e) 0 in
            let one : term k ≡ len e = rw (m, shared_on x q k i w m) in
            rw is (omega (
              arith,
              edge_length v d ((box c).first d + moved d q) ((box c).first (other d) + moved (other d) q),
              one,
              term_le term (length runs) k (meets_listed v.grid runs c k m),
              sum_below term (length runs),
            ))

    -- so the moves share no more than their edges count
    sharing_le : (r : List Move) → Kept I r → ((x : Move) (q : List Move) → At x q r → At x q p) → sharing I r ≤ back_sum W (dirs r)
    unfolding sharing back_sum
    sharing_le [] k i = omega arith
    sharing_le (x ∷ r) k i = omega (arith, sharing_le r k.2 (λ y q a. i y q (past a)), move_le x r (i x r here) k.0)

    -- T5: the routes share what the table says
    pub common_attained : figure (star_of v runs box c) T ≤ common v.grid runs c routes
    unfolding I p W steps
    common_attained =
        let h = C.listed in
        let count : step_sum (λ d i j. weight v.grid runs c routes (step_edge v.grid (X c) (Y c) d i j)) 0 0 (dirs moves)
        ≡ back_sum (λ d i j. weight v.grid runs c routes (step_edge v.grid (X c) (Y c) d i j)) (dirs (reverse moves)) + 0
        = ap (step_sum _ 0 0) (sym (ap dirs (reverse-reverse moves)) ∙ dirs_reverse (reverse moves)) ∙ back_steps _ (dirs (reverse moves)) [] in
        omega (
          arith,
          figure_is (star_of v runs box c) T,
          common_is v.grid runs c routes,
          ap (λ r. selected v.grid (weight v.grid runs c routes) (λ e. on e r)) centre_drawn,
          drawn_selected v.grid (run_at runs c) (X c) (Y c) (frames c h) (dirs moves)
              (complete v (box c) (seen v runs box c C c h) (X c) (Y c) (frame c h) (dirs moves) centre_leads) (weight v.grid runs c routes),
          count,
          sharing_le (reverse moves) traced.kept (λ x q a. a),
          traced.shares,
        )
