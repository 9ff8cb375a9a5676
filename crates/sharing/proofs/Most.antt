-- T4 for routes: whatever Manhattan routes the runs take, the centre's route shares no more with its leaves' routes than the table says.
--
-- An edge of the centre's route that is on a leaf's route too lies in that leaf's box, so the leaf is its owner, and it is the only leaf whose route
-- is on it. A cross leaf shares edges of rows or edges of columns with the centre, never both, since the two slope opposite: that is the one
-- direction that T4 over numbers allows it.
use mathlib.Core.Path.{◌≡◌, refl, sym, ap, ◌∙◌}
use mathlib.Core.Bool.{Bool, true, false, cond, ◌&&◌, true≢false}
use mathlib.Core.List.{List}
use Prim.Native.Nat.{ℕ, pred, ◌+◌, ◌-◌, ◌≤◌, ◌<◌}
use native.Mathlib.Omega.{arith}
use native.Mathlib.Decide.{dec_lt}
use borrow.Author.Tests.{le-leb}
use lib.ListN.{length}
use Rattle.network.specs.Lists.{sum}
use Rattle.network.specs.Plane.{Run}
use Rattle.network.specs.Grid.{Grid, Edge, len, edges}
use Rattle.network.specs.Route.{Route, Manhattan, on}
use Rattle.network.specs.Graph.{run_at, meets, below}
use Rattle.network.specs.Excess.{shared}
use Rattle.network.specs.Steps.{Dir, hor, ver, other, Lane, extent}
use Rattle.network.proofs.Numbers.{gap_rise}
use Rattle.network.proofs.Sums.{sum_cong, sum_swap, cond_sum, sum_below, one_term}
use Rattle.network.proofs.Meeting.{meets_listed}
use Rattle.network.proofs.Edges.{OfGrid}
use Rattle.network.proofs.Along.{selected, on_route_inside}
use Rattle.network.proofs.Steps.{next_column, next_row, step_edge, to_steps}
use Rattle.network.proofs.Drawn.{selected_steps}
use Rattle.network.proofs.Slopes.{dir_of, one_direction}
use Rattle.network.proofs.Counting.{route_frame}
use Rattle.sharing.specs.Box.{Box, falls}
use Rattle.sharing.specs.Instance.{Instance, Inside, owner_if, owner}
use Rattle.sharing.specs.Table.{Table, all, Exact, figure}
use Rattle.sharing.specs.Leaf.{forward}
use Rattle.sharing.specs.View.{View, shown, edge, width}
use Rattle.sharing.specs.Star.{star_of, Centred, route_at, common}
use Rattle.sharing.proofs.Steps.{coord}
use Rattle.sharing.proofs.Bound.{pick, worth, bounded}
use Rattle.sharing.proofs.View.{Edges, edge_of, edge_length, inside_lies}
use Rattle.sharing.proofs.Frames.{lane_of, frame_extent, step_edge_lem}
use Rattle.sharing.proofs.Slopes.{slope, rises_sloped, falls_sloped}
use Rattle.sharing.proofs.Centre.{edge_from, LiesFrom, seen, separate, lies_leaf, leaf_owner_lem}

-- the figure is the last best word, less one
pub figure_is : (I : Instance) (T : Table) → figure I T ≡ pred (all T hor (I.size hor) (I.size ver))
unfolding figure
figure_is I T = refl

-- what an edge counts: its length for each leaf's route that is on it
abbrev pub weight : Grid → List Run → ℕ → List Route → Edge → ℕ
weight g runs c routes e = sum (λ k. cond (meets g runs c k && on e (route_at routes k)) (len e) 0) (below (length runs))

-- what the centre's route shares is what the edges on it count
pub common_is : (g : Grid) (runs : List Run) (c : ℕ) (routes : List Route)
    → common g runs c routes ≡ selected g (weight g runs c routes) (λ e. on e (route_at routes c))
unfolding common shared
common_is g runs c routes =
    let m = meets g runs c in
    let route = route_at routes in
    let es = edges g in
    sum_cong _ _ (below (length runs)) (λ k h. cond_sum (m k) (λ e. cond (on e (route c) && on e (route k)) (len e) 0) es)
    ∙ sum_swap (λ e k. cond (m k) (cond (on e (route c) && on e (route k)) (len e) 0) 0) es (below (length runs))
    ∙ sum_cong _ _ es (λ e h.
    sum_cong _ _ (below (length runs)) (λ k i. swap (m k) (on e (route c)) (on e (route k)) (len e))
    ∙ sym (cond_sum (on e (route c)) (λ k. cond (m k && on e (route k)) (len e) 0) (below (length runs))))
  where
    swap : (m p q : Bool) (n : ℕ) → cond m (cond (p && q) n 0) 0 ≡ cond p (cond (m && q) n 0) 0
    swap true true q n = refl
    swap true false q n = refl
    swap false true q n = refl
    swap false false q n = refl

-- a run that rises goes forward
pub rises_forward : (b : Box) (d : Dir) → b.first d ≤ b.second d → forward b d ≡ true
unfolding forward
rises_forward b d h = le-leb (b.first d) (b.second d) h

-- an edge along d has the direction d
edge_dir : (v : View) (d : Dir) (s t : ℕ) → dir_of (edge v d s t) ≡ d
edge_dir v hor s t = refl
edge_dir v ver s t = refl

-- the length along the direction itself
pick_same : (d : Dir) (l : ℕ) → pick d d l ≡ l
pick_same hor l = refl
pick_same ver l = refl

module _ (v : View) (runs : List Run) (box : ℕ → Box) (c : ℕ) (C : Centred v runs box c) (T : Table) (exact : Exact (star_of v runs box c) T)
    (routes : List Route) (goes : (k : ℕ) → k < length runs → Manhattan v.grid (run_at runs k) (route_at routes k)) where
  I : Instance
  I = star_of v runs box c

  -- the centre's route
  centre : Route
  centre = route_at routes c

  -- the edges of the centre's box are edges of the grid
  inside_edges : (d : Dir) (s t : ℕ) → Inside I d s t → Edges v d ((box c).first d + s) ((box c).first (other d) + t)
  unfolding I
  inside_edges d s t i =
      let f = seen v runs box c C c C.listed in
      (omega (arith, i.along, f d), omega (arith, i.across, f (other d), C.rises (other d)))

  -- a step in the centre's frame is on an edge of its box
  inside_column : (d : Dir) (i j : ℕ) (X Y : Lane) → extent X ≡ (box c).second hor - (box c).first hor → extent Y ≡ (box c).second ver - (box c).first ver
      → Inside I d (coord d hor i j) (coord (other d) hor i j) → (next_column d i ≤ extent X) × (next_row d j ≤ extent Y)
  unfolding I
  inside_column hor i j X Y e f h = omega (arith, h.along, h.across)
  inside_column ver i j X Y e f h = omega (arith, h.along, h.across)

  -- the routes are those of the runs that the boxes show
  shown_goes : (k : ℕ) → k < length runs → Manhattan v.grid (shown v (box k)) (route_at routes k)
  shown_goes k h = rw (C.shows k h).same_run (goes k h)

  -- a leaf that falls shares edges of one direction with the centre
  Mode : ℕ → Dir → Type 0
  Mode k d = (e : Edge) → OfGrid v.grid e → on e centre ≡ true → on e (route_at routes k) ≡ true → dir_of e ≡ d

  -- so it has a direction, if it is a leaf that falls
  mode : (k : ℕ) → Dec (k < length runs) → (f : Bool) → falls (box k) ≡ f → (d : Dir) × (k < length runs → falls (box k) ≡ true → Mode k d)
  unfolding Mode centre
  mode k (yes h) true f =
      let (d, m) = one_direction v.grid (slope v) (shown v (box c)) (shown v (box k)) centre (route_at routes k) (shown_goes c C.listed) (shown_goes k h)
      (rises_sloped v (box c) (seen v runs box c C c C.listed) C.rises) (falls_sloped v (box k) (seen v runs box c C k h) f) in
      (d, λ l g. m)
  mode k (yes h) false f = (hor, λ l g. absurd (true≢false (sym g ∙ f)))
  mode k (no n) t f = (hor, λ l g. absurd (n l))

  -- that direction, for each leaf
  modes : ℕ → Dir
  modes k = (mode k (dec_lt k (length runs)) (falls (box k)) refl).0

  -- an edge that both are on goes along it
  mode_is : (d : Dir) (k s t : ℕ) → k < length runs → falls (box k) ≡ true → OfGrid v.grid (edge v d s t)
      → on (edge v d s t) centre ≡ true → on (edge v d s t) (route_at routes k) ≡ true → modes k ≡ d
  unfolding Mode modes
  mode_is d k s t h f o i j = sym ((mode k (dec_lt k (length runs)) (falls (box k)) refl).1 h f (edge v d s t) o i j) ∙ edge_dir v d s t

  -- ---- one edge

  -- a length that counts where two tests hold, and is not 0
  cond_pos : (a b : Bool) (n : ℕ) → 0 < cond (a && b) n 0 → (a ≡ true) × (b ≡ true) × (cond (a && b) n 0 ≡ n)
  cond_pos true true n h = (refl, refl, refl)
  cond_pos true false n h = absurd (omega arith)
  cond_pos false b n h = absurd (omega arith)

  -- an edge on a leaf's route lies in the leaf's box
  route_lies : (d : Dir) (k s t : ℕ) → Inside I d s t → meets v.grid runs c k ≡ true → on (edge_from v (box c) d s t) (route_at routes k) ≡ true
      → LiesFrom (box c) (box k) d s t
  unfolding I
  route_lies d k s t i m o =
      let h = meets_listed v.grid runs c k m in
      inside_lies v (box k) (seen v runs box c C k h) d _ _ (inside_edges d s t i) (on_route_inside _ (shown v (box k)) (route_at routes k) (shown_goes k h) o)

  -- an edge of the centre's route counts no more than it is worth
  edge_le : (d : Dir) (s t : ℕ) → Inside I d s t → on (edge_from v (box c) d s t) centre ≡ true
      → weight v.grid runs c routes (edge_from v (box c) d s t) ≤ worth modes d (owner I d s t) (I.len d s)
  unfolding I worth
  edge_le d s t i o =
      rw (sum_below term (length runs)) (one_term term (worth modes d (owner I d s t) l) (length runs) (λ k h p. most k p) (λ j k h m p q. only j k p q))
    where
      e : Edge
      e = edge_from v (box c) d s t

      l : ℕ
      l = width v d ((box c).first d + s)

      term : ℕ → ℕ
      term k = cond (meets v.grid runs c k && on e (route_at routes k)) (len e) 0

      by : (k : ℕ) → on e (route_at routes k) ≡ true → k < length runs → (f : Bool) → falls (box k) ≡ f → l ≤ worth modes d (owner_if f k) l
      by k j h true f = omega (arith, pick_same d l, ap (λ x. pick d x l) (mode_is d k _ _ h f (edge_of v d _ _ (inside_edges d s t i)) o j))
      by k j h false f = omega arith

      most : (k : ℕ) → 0 < term k → term k ≤ worth modes d (owner I d s t) l
      most k p =
          let (m, j, n) = cond_pos (meets v.grid runs c k) (on e (route_at routes k)) (len e) p in
          omega (
            arith,
            n,
            edge_length v d ((box c).first d + s) ((box c).first (other d) + t),
            ap (λ x. worth modes d x l) (leaf_owner_lem v runs box c C d k s t m (route_lies d k s t i m j)),
            by k j (meets_listed v.grid runs c k m) (falls (box k)) refl,
          )

      only : (j k : ℕ) → 0 < term j → 0 < term k → j ≡ k
      only j k p q =
          let (m, x, a) = cond_pos (meets v.grid runs c j) (on e (route_at routes j)) (len e) p in
          let (n, y, b) = cond_pos (meets v.grid runs c k) (on e (route_at routes k)) (len e) q in
          (separate v runs box c C).one d j k s t (lies_leaf v runs box c C d j s t m (route_lies d j s t i m x))
          (lies_leaf v runs box c C d k s t n (route_lies d k s t i n y))

  -- ---- all edges of the centre's route

  -- the weight of the edges on the centre's route
  guarded : Edge → ℕ
  guarded e = cond (on e centre) (weight v.grid runs c routes e) 0

  -- it is at most what the edge is worth to the walk
  guarded_le : (d : Dir) (s t : ℕ) → Inside I d s t → guarded (edge_from v (box c) d s t) ≤ worth modes d (owner I d s t) (I.len d s)
  unfolding guarded
  guarded_le d s t i = go (on (edge_from v (box c) d s t) centre) refl
    where
      go : (b : Bool) → on (edge_from v (box c) d s t) centre ≡ b
          → cond b (weight v.grid runs c routes (edge_from v (box c) d s t)) 0 ≤ worth modes d (owner I d s t) (I.len d s)
      go true o = edge_le d s t i o
      go false o = omega arith

  -- on the centre's route the test for being on it changes nothing
  twice : selected v.grid (weight v.grid runs c routes) (λ e. on e centre) ≡ selected v.grid guarded (λ e. on e centre)
  unfolding guarded
  twice = sum_cong _ _ (edges v.grid) (λ e h. go (on e centre) (weight v.grid runs c routes e))
    where
      go : (b : Bool) (n : ℕ) → cond b n 0 ≡ cond b (cond b n 0) 0
      go true n = refl
      go false n = refl

  -- T4: no routes share more than the table says
  pub common_most : common v.grid runs c routes ≤ figure (star_of v runs box c) T
  unfolding I centre
  common_most =
      let b = box c in
      let f = seen v runs box c C c C.listed in
      let m = shown_goes c C.listed in
      let (X, Y, F) = route_frame v.grid (shown v b) centre m in
      let long : (d : Dir) → extent (lane_of X Y d) ≡ b.second d - b.first d
      = λ d. omega (arith, frame_extent v b f X Y F d, gap_rise (b.first d) (b.second d) (C.rises d)) in
      let forth : (d : Dir) → forward b d ≡ true = λ d. rises_forward b d (C.rises d) in
      let s = to_steps v.grid (shown v b) X Y F centre m in
      let step : (d : Dir) (i j : ℕ) → Inside (star_of v runs box c) d (coord d hor i j) (coord (other d) hor i j)
      → step_edge v.grid X Y d i j ≡ edge_from v b d (coord d hor i j) (coord (other d) hor i j)
      = λ d i j h. step_edge_lem v b f X Y F d i j (inside_column d i j X Y (long hor) (long ver) h).0 (inside_column d i j X Y (long hor) (long ver) h).1
      ∙ rw (forth d, forth (other d)) in
      let below = bounded (star_of v runs box c) T (separate v runs box c C) exact modes (λ d i j. guarded (step_edge v.grid X Y d i j))
      (λ d i j h. rw (step d i j h) (guarded_le d (coord d hor i j) (coord (other d) hor i j) h))
      s.list (s.complete.all_columns ∙ long hor) (s.complete.all_rows ∙ long ver) in
      omega (arith, figure_is (star_of v runs box c) T, common_is v.grid runs c routes, twice, selected_steps v.grid (shown v b) X Y F centre m guarded, below)
