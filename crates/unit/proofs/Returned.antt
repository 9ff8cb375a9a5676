-- A Manhattan route walked in unit steps is a path of unit steps of its run. Rounded back to the grid it is on the edges on which it was: so walking does
-- not make the union shorter. The points between two vertices of a straight piece go to vertices between them, and these make the same piece.
use mathlib.Core.Path.{◌≡◌, refl, sym, ap, ap₂, ◌∙◌, subst}
use mathlib.Core.Logic.{inl, inr}
use mathlib.Core.List.{List, [], ◌∷◌, map}
use mathlib.Core.Bool.{cond, ◌||◌}
use Prim.Native.Nat.{ℕ, zero, suc, ◌≤◌}
use native.Mathlib.Omega.{arith}
use Rattle.network.specs.Lists.{any, All}
use Rattle.network.specs.Plane.{Point, Run, ◌to◌, distance}
use Rattle.network.specs.Grid.{Grid, Edge, len, edges}
use Rattle.network.specs.Route.{Route, pieces_from, pieces, Vertex, Straight, Manhattan, Routes, lies, on, union_length}
use Rattle.network.proofs.Lists.{any_append, any_map, paired_map}
use Rattle.network.proofs.Numbers.{between_same}
use Rattle.network.proofs.Sums.{sum_zero}
use Rattle.network.proofs.Edges.{OfGrid, edges_cong}
use Rattle.network.proofs.Joining.{On-line, lies_through, lies_nowhere}
use Rattle.network.proofs.Monotone.{Towards}
use Rattle.network.proofs.Moved.{moved_piece, pieces_moved}
use Rattle.unit.specs.Paths.{UnitPath, UnitPaths, unit_length, next, walk_to, walk_from, walked}
use Rattle.unit.proofs.Rounding.{all_unit, Rounds}
use Rattle.unit.proofs.Emptiest.{emptiest_union}
use Rattle.unit.proofs.Walks.{is_next, no_way, walk_pieces, from_last, from_unit, from_length}

-- ---- walked routes are paths of unit steps

walked_path : (g : Grid) (run : Run) (route : Route) → Manhattan g run route → UnitPath run (walked route)
walked_path g run [] m = absurd m.starts
walked_path g run (p ∷ l) m =
    record { starts = m.starts; ends = from_last p l ∙ m.ends; unit = from_unit p l; shortest = omega (arith, from_length p l, m.shortest) }

-- routes walked in unit steps are paths of unit steps, one for each run
pub walked_paths : (g : Grid) (runs : List Run) (routes : List Route) → Routes g runs routes → UnitPaths runs (map walked routes)
walked_paths g runs routes m = paired_map (Manhattan g) UnitPath walked runs routes (λ run route o. walked_path g run route) m

-- ---- rounded back

module _ (g : Grid) (f : Point → Point) (w : Rounds g f) (e : Edge) (o : OfGrid g e) where
  -- what is left of a piece, from p on
  piece_on : (n : ℕ) (p q : Point) → distance (p to q) ≡ n → Straight (p to q) → Vertex g q
      → any (λ r. lies e (moved_piece f r)) (pieces_from p (walk_to n p q)) ≡ lies e (f p to q)
  piece_on zero p q h s v =
      let same : f p ≡ q = ap f (no_way p q h) ∙ w.fixed q v in
      sym (ap (λ r. lies e (r to q)) same ∙ lies_nowhere g e q o)
  piece_on (suc n) p q h s v =
      let r = next p q in
      let k = is_next p q n h in
      let there : f q ≡ q = w.fixed q v in
      ap (λ t. lies e (f p to f r) || t) (piece_on n r q k.left (rest r k.way s) v)
      ∙ lies_through g e (f p) (f r) q o (w.vertex r) (subst (Towards (f p) (f r)) there (w.goes k.way)) (subst (On-line (f p) (f r)) there (line r k.way s))
    where
      rest : (r : Point) → Towards p r q → Straight (p to q) → Straight (r to q)
      rest r t (inl d) = inl (between_same t.in_x d)
      rest r t (inr d) = inr (between_same t.in_y d)

      line : (r : Point) → Towards p r q → Straight (p to q) → On-line (f p) (f r) (f q)
      line r t (inl d) = let b = between_same t.in_x d in inl (record { here = w.same_x_lem (d ∙ sym b); there = w.same_x_lem b })
      line r t (inr d) = let b = between_same t.in_y d in inr (record { here = w.same_y_lem (d ∙ sym b); there = w.same_y_lem b })

  from_on : (p : Point) (l : List Point) → All (Vertex g) (p ∷ l) → All Straight (pieces_from p l)
      → any (λ r. lies e (moved_piece f r)) (pieces_from p (walk_from p l)) ≡ any (lies e) (pieces_from p l)
  from_on p [] v s = refl
  from_on p (q ∷ l) v s =
      let there = pieces_from p (walk_to (distance (p to q)) p q) in
      let onward = pieces_from q (walk_from q l) in
      ap (any (λ r. lies e (moved_piece f r))) (walk_pieces p q l)
      ∙ any_append (λ r. lies e (moved_piece f r)) there onward
      ∙ ap₂ ◌||◌ (piece_on (distance (p to q)) p q refl s.0 v.1.0 ∙ ap (λ r. lies e (r to q)) (w.fixed p v.0)) (from_on q l v.1 s.1)

  route_on : (route : Route) → All (Vertex g) route → All Straight (pieces route) → on e (map f (walked route)) ≡ on e route
  route_on [] v s = refl
  route_on (p ∷ l) v s =
      ap (any (lies e)) (pieces_moved f (p ∷ walk_from p l)) ∙ any_map (lies e) (moved_piece f) (pieces_from p (walk_from p l)) ∙ from_on p l v s

  routes_on : (runs : List Run) (routes : List Route) → Routes g runs routes → any (on e) (map (map f) (map walked routes)) ≡ any (on e) routes
  routes_on [] (route ∷ routes) m = elim m [ ]
  routes_on (run ∷ runs) [] m = elim m [ ]
  routes_on [] [] m = refl
  routes_on (run ∷ runs) (route ∷ routes) m = ap₂ ◌||◌ (route_on route m.0.vertices m.0.straight) (routes_on runs routes m.1)

-- the union of routes, walked and rounded back
returned : (g : Grid) (f : Point → Point) → Rounds g f → (runs : List Run) (routes : List Route) → Routes g runs routes
    → union_length g (map (map f) (map walked routes)) ≡ union_length g routes
unfolding union_length
returned g f w runs routes m = edges_cong g _ _ (λ e o. ap (λ t. cond t (len e) 0) (routes_on g f w e o runs routes m))

-- routes walked in unit steps have no shorter a union
pub walked_no_shorter : (g : Grid) (runs : List Run) (routes : List Route) → Routes g runs routes → union_length g routes ≤ unit_length (map walked routes)
unfolding union_length unit_length
walked_no_shorter g [] (_ ∷ routes) m = elim m [ ]
walked_no_shorter g (run ∷ runs) [] m = elim m [ ]
walked_no_shorter g [] [] m = omega (arith, sum_zero (edges g))
walked_no_shorter g (run ∷ runs) ([] ∷ routes) m = absurd m.0.starts
walked_no_shorter g (run ∷ runs) ((p ∷ l) ∷ routes) m =
    let paths = map walked ((p ∷ l) ∷ routes) in
    let v : Vertex g p = m.0.vertices.0 in
    let (f, w, h) = emptiest_union g paths (all_unit (run ∷ runs) paths (walked_paths g (run ∷ runs) ((p ∷ l) ∷ routes) m))
    (omega (arith, v.column.1)) (omega (arith, v.row.1)) in
    omega (arith, returned g f w (run ∷ runs) ((p ∷ l) ∷ routes) m)
