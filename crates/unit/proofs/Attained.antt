-- Routes on a grid, walked in unit steps, have the same union: the bound of C-19 is attained, by the plan itself.
--
-- No shorter: Returned. No longer: a step of a walk is one of the unit steps into which the edges on the routes are cut, and these are as many as
-- the edges are long.
use mathlib.Core.Path.{◌≡◌, refl, sym, ap, ◌∙◌}
use mathlib.Core.Logic.{◌⊎◌, inl, inr}
use mathlib.Core.List.Memᴰ.{head as here}
use mathlib.Core.List.{List, [], ◌∷◌, map, flat_map}
use mathlib.Core.Bool.{Bool, true}
use Prim.Native.Nat.{ℕ, zero, suc, ◌+◌, ◌-◌, ◌≤◌, ◌<◌}
use native.Mathlib.Omega.{arith}
use lib.ListN.{length, get_or}
use Rattle.network.specs.Lists.{any, All, select, each}
use Rattle.network.specs.Plane.{Point, Run, ◌to◌, gap, distance}
use Rattle.network.specs.Grid.{Grid, Edge, len, across_at, upward_at, edges}
use Rattle.network.specs.Hanan.{hanan}
use Rattle.network.specs.Route.{Route, pieces_from, pieces, Vertex, Straight, Routes, lies, on, union_length, Least}
use Rattle.network.proofs.Tests.{or_join, Lies, true_lies}
use Rattle.network.proofs.Lists.{true_any, member_each, all_member, member_selected, any_flat_map, all_append, all_imp}
use Rattle.network.proofs.Numbers.{gap_self, between_same}
use Rattle.network.proofs.Sums.{sum_cong, sum_select, length_flat_map}
use Rattle.network.proofs.Lanes.{point_path}
use Rattle.network.proofs.Edges.{OfGrid, across_of, upward_of, of_edge}
use Rattle.network.proofs.Monotone.{Towards, towards_here, towards_trans}
use Rattle.network.proofs.Repeats.{unique_most}
use Rattle.unit.specs.Paths.{UnitStep, same_edge, unit_length, next, walk_to, walk_from, walked, LeastCut}
use Rattle.unit.proofs.Edges.{Same-ends, unit_kind, ends_same, same_both}
use Rattle.unit.proofs.Walks.{is_next, walk_pieces}
use Rattle.unit.proofs.Returned.{walked_paths, walked_no_shorter}
use Rattle.unit.proofs.Theorem.{no_saving}
use Rattle.unit.proofs.Units.{point, units_of, length_units, Upwards, step_gap}

-- ---- the edge of a step

-- a unit step on the way from p to q
record Within (p q : Point) (s : Run) : Type 0 where
  unit : UnitStep s
  from : Towards p s.first q
  upto : Towards p s.second q

-- the step is one of the unit steps of an edge of the grid that passes a test
record UnitOf (g : Grid) (t : Edge → Bool) (s : Run) : Type 0 where
  edge : Edge
  of_grid : OfGrid g edge
  passes : t edge ≡ true
  step : any (same_edge s) (units_of edge) ≡ true

unit_also : {g : Grid} {t u : Edge → Bool} {s : Run} → ((e : Edge) → t e ≡ true → u e ≡ true) → UnitOf g t s → UnitOf g u s
unit_also h c = record { edge = c.edge; of_grid = c.of_grid; passes = h c.edge c.passes; step = c.step }

module _ (g : Grid) (p q : Point) (v : Vertex g p) (w : Vertex g q) (s : Run) (h : Within p q s) where
  -- it is the k-th unit step of an edge
  unit_at : (e : Edge) (n : ℕ) (place : ℕ → Run) → units_of e ≡ each n (λ k. place k ∷ []) → OfGrid g e → Lies e (p to q)
      → (k : ℕ) → k < n → Same-ends s (place k) → UnitOf g (λ e. lies e (p to q)) s
  unit_at e n place u o l k b t =
      record {
        edge = e;
        of_grid = o;
        passes = true_lies e (p to q) l;
        step = rw u (true_any (same_edge s) (member_each n (λ k. place k ∷ []) k b (here refl)) (ends_same s (place k) t));
      }

  -- the points lo and lo + 1 of a line
  on_line : (line : ℕ → Point) {a b lo : ℕ} → s.first ≡ line a → s.second ≡ line b → Upwards a b lo → Same-ends s (line lo to line (suc lo))
  on_line line d e (inl u) = inl (d ∙ ap line u.0, e ∙ ap line u.1)
  on_line line d e (inr u) = inr (d ∙ ap line u.0, e ∙ ap line u.1)

  along_row : p.y ≡ q.y → gap s.first.x s.second.x ≡ 1 → UnitOf g (λ e. lies e (p to q)) s
  unfolding units_of
  along_row e o =
      let (i, m, t, (k, b, up)) = step_gap g.columns g.columns_rise p.x q.x s.first.x s.second.x v.column w.column h.from.in_x h.upto.in_x o in
      let (j, n, d) = w.row in
      let row : ℕ → Point = λ x. point x (get_or g.rows j 0) in
      unit_at (across_at g i j) (get_or g.columns (suc i) 0 - get_or g.columns i 0) (λ k. row (get_or g.columns i 0 + k) to row (suc (get_or g.columns i 0 + k))) refl
      (across_of i j m n) (record { first_at_lem = e ∙ sym d; second_at_lem = sym d }, t) k b
      (on_line row (point_path refl (between_same h.from.in_y e ∙ sym d)) (point_path refl (between_same h.upto.in_y e ∙ sym d)) up)

  along_column : p.x ≡ q.x → gap s.first.y s.second.y ≡ 1 → UnitOf g (λ e. lies e (p to q)) s
  unfolding units_of
  along_column e o =
      let (j, m, t, (k, b, up)) = step_gap g.rows g.rows_rise p.y q.y s.first.y s.second.y v.row w.row h.from.in_y h.upto.in_y o in
      let (i, n, d) = w.column in
      let column : ℕ → Point = λ y. point (get_or g.columns i 0) y in
      unit_at (upward_at g i j) (get_or g.rows (suc j) 0 - get_or g.rows j 0) (λ k. column (get_or g.rows j 0 + k) to column (suc (get_or g.rows j 0 + k))) refl
      (upward_of i j n m) (record { first_at_lem = e ∙ sym d; second_at_lem = sym d }, t) k b
      (on_line column (point_path (between_same h.from.in_x e ∙ sym d) refl) (point_path (between_same h.upto.in_x e ∙ sym d) refl) up)

  -- a unit step on a straight piece between vertices is one of the unit steps of an edge on the piece
  on_piece_lem : Straight (p to q) → UnitOf g (λ e. lies e (p to q)) s
  on_piece_lem t = go t (unit_kind s h.unit)
    where
      no_gap : (a b : ℕ) → a ≡ b → gap a b ≡ 1 → ⊥
      no_gap a b e o = omega (arith, gap_self b, ap (λ c. gap c b) e)

      go : Straight (p to q)
          → ((s.first.y ≡ s.second.y) × (gap s.first.x s.second.x ≡ 1)) ⊎ ((s.first.x ≡ s.second.x) × (gap s.first.y s.second.y ≡ 1))
          → UnitOf g (λ e. lies e (p to q)) s
      go (inr e) (inl k) = along_row e k.1
      go (inl e) (inr k) = along_column e k.1
      go (inl e) (inl k) = absurd (no_gap _ _ (between_same h.from.in_x e ∙ sym (between_same h.upto.in_x e)) k.1)
      go (inr e) (inr k) = absurd (no_gap _ _ (between_same h.from.in_y e ∙ sym (between_same h.upto.in_y e)) k.1)

-- ---- the steps of a walk

-- they are on the way
within : (p : Point) (n : ℕ) (o q : Point) → distance (o to q) ≡ n → Towards p o q → All (Within p q) (pieces_from o (walk_to n o q))
within p zero o q h t = tt
within p (suc n) o q h t =
    let k = is_next o q n h in
    let u = towards_trans t k.way in
    (record { unit = k.one; from = t; upto = u }, within p n (next o q) q k.left u)

module _ (g : Grid) where
  -- each is a unit step of an edge on the route
  from_units : (p : Point) (l : List Point) → All (Vertex g) (p ∷ l) → All Straight (pieces_from p l)
      → All (UnitOf g (λ e. any (lies e) (pieces_from p l))) (pieces_from p (walk_from p l))
  from_units p [] v t = tt
  from_units p (q ∷ l) v t =
      rw (walk_pieces p q l)
      (all_append (UnitOf g (λ e. any (lies e) (pieces_from p (q ∷ l)))) (pieces_from p (walk_to (distance (p to q)) p q)) (pieces_from q (walk_from q l))
      (all_imp (Within p q) (UnitOf g (λ e. any (lies e) (pieces_from p (q ∷ l))))
      (λ s h. unit_also (λ e i. or_join (lies e (p to q)) (any (lies e) (pieces_from q l)) (inl i)) (on_piece_lem g p q v.0 v.1.0 s h t.0))
      (pieces_from p (walk_to (distance (p to q)) p q)) (within p (distance (p to q)) p q refl (towards_here p q)))
      (all_imp (UnitOf g (λ e. any (lies e) (pieces_from q l))) (UnitOf g (λ e. any (lies e) (pieces_from p (q ∷ l))))
      (λ s. unit_also (λ e i. or_join (lies e (p to q)) (any (lies e) (pieces_from q l)) (inr i)))
      (pieces_from q (walk_from q l)) (from_units q l v.1 t.1)))

  route_units : (route : Route) → All (Vertex g) route → All Straight (pieces route) → All (UnitOf g (λ e. on e route)) (pieces (walked route))
  route_units [] v t = tt
  route_units (p ∷ l) v t = from_units p l v t

  routes_units : (runs : List Run) (routes : List Route) → Routes g runs routes → All (UnitOf g (λ e. any (on e) routes)) (flat_map pieces (map walked routes))
  unfolding flat_map
  routes_units [] (route ∷ routes) w = elim w [ ]
  routes_units (run ∷ runs) [] w = elim w [ ]
  routes_units [] [] w = tt
  routes_units (run ∷ runs) (route ∷ routes) w =
      all_append (UnitOf g (λ e. any (on e) (route ∷ routes))) (pieces (walked route)) (flat_map pieces (map walked routes))
      (all_imp (UnitOf g (λ e. on e route)) (UnitOf g (λ e. any (on e) (route ∷ routes)))
      (λ s. unit_also (λ e i. or_join (on e route) (any (on e) routes) (inl i)))
      (pieces (walked route)) (route_units route w.0.vertices w.0.straight))
      (all_imp (UnitOf g (λ e. any (on e) routes)) (UnitOf g (λ e. any (on e) (route ∷ routes)))
      (λ s. unit_also (λ e i. or_join (on e route) (any (on e) routes) (inr i)))
      (flat_map pieces (map walked routes)) (routes_units runs routes w.1))

-- ---- the union

walked_no_longer : (g : Grid) (runs : List Run) (routes : List Route) → Routes g runs routes → unit_length (map walked routes) ≤ union_length g routes
unfolding unit_length union_length
walked_no_longer g runs routes w =
    omega (
      arith,
      unique_most same_edge same_both steps (flat_map units_of dug) (λ s m. found s (all_member (UnitOf g used) (routes_units g runs routes w) m)),
      length_flat_map units_of dug,
      sum_cong (λ e. length (units_of e)) len dug (λ e m. length_units e),
      sum_select used len (edges g),
    )
  where
    used : Edge → Bool
    used e = any (on e) routes

    dug : List Edge
    dug = select used (edges g)

    steps : List Run
    steps = flat_map pieces (map walked routes)

    found : (s : Run) → UnitOf g used s → any (same_edge s) (flat_map units_of dug) ≡ true
    found s c =
        any_flat_map (same_edge s) units_of dug
        ∙ true_any (λ e. any (same_edge s) (units_of e)) (member_selected used (edges g) (of_edge g c.of_grid) c.passes) c.step

-- the union of routes on a grid is as long as the union of the same routes walked in unit steps
pub walked_union : (g : Grid) (runs : List Run) (routes : List Route) → Routes g runs routes → unit_length (map walked routes) ≡ union_length g routes
walked_union g runs routes w = omega (arith, walked_no_longer g runs routes w, walked_no_shorter g runs routes w)

-- C-19 both ways, for any runs: what least routes on the Hanan grid dig is the least of all cuts
pub least_cut : (runs : List Run) (routes : List Route) → Least (hanan runs) runs routes → LeastCut runs routes (union_length (hanan runs) routes)
least_cut runs routes l =
    record {
      no_saving = no_saving runs routes l;
      are_paths = walked_paths (hanan runs) runs routes l.are_routes;
      attained = walked_union (hanan runs) runs routes l.are_routes;
    }
