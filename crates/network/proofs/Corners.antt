-- The points at which a route goes straight on may be left out: what is left is a Manhattan route on the same edges. So corners only, all
-- vertices, or anything between are one kind of thing.
use mathlib.Core.Path.{◌≡◌, refl, sym, ap, ap₂, ◌∙◌, subst}
use mathlib.Core.Logic.{⊎_map}
use mathlib.Core.List.{List, [], ◌∷◌, map}
use mathlib.Core.Bool.{Bool, true, false, cond, ◌&&◌, ◌||◌, or_assoc}
use Prim.Native.Nat.{pred, ◌+◌, ◌*◌, ◌≤◌, ◌<◌}
use native.Mathlib.Omega.{arith}
use borrow.Author.Tests.{eqb-true, eq-eqb}
use lib.Dec.{eqb}
use lib.ListN.{length}
use Rattle.network.specs.Lists.{any, count, All}
use Rattle.network.specs.Plane.{Point, Run, ◌to◌, same_point}
use Rattle.network.specs.Grid.{Grid, Edge, len}
use Rattle.network.specs.Route.{pieces_from, Route, Vertex, Straight, Manhattan, Routes, on, lies, union_length, Least}
use Rattle.network.specs.Excess.{excess}
use Rattle.network.specs.Corners.{straight_on, corners_from, corners}
use Rattle.network.proofs.Tests.{and_split, and_join, or_split, or_join}
use Rattle.network.proofs.Lists.{paired_map}
use Rattle.network.proofs.Edges.{OfGrid, edges_cong}
use Rattle.network.proofs.Monotone.{towards_trans, towards_first, Monotone, monotone, manhattan_of}
use Rattle.network.proofs.Counting.{counting}
use Rattle.network.proofs.Joining.{On-line, line_straight, lies_through}

-- ---- the tests

-- the tests as facts
pub point_true : (p q : Point) → same_point p q ≡ true → p ≡ q
unfolding same_point
point_true p q h =
    let k = and_split (eqb p.x q.x) (eqb p.y q.y) h in
    λ i. record { x = eqb-true p.x q.x k.0 i; y = eqb-true p.y q.y k.1 i }

-- and of the same point it holds
pub true_point : (p q : Point) → p ≡ q → same_point p q ≡ true
unfolding same_point
true_point p q e =
    and_join (eqb p.x q.x) (eqb p.y q.y) (eq-eqb p.x q.x (ap (λ (o : Point). o.x) e)) (eq-eqb p.y q.y (ap (λ (o : Point). o.y) e))

-- the test for three points on one line, as a fact
pub line_true : (p q r : Point) → straight_on p q r ≡ true → On-line p q r
unfolding straight_on
line_true p q r h =
    ⊎_map
    (λ m. let k = and_split (eqb p.x q.x) (eqb q.x r.x) m in
    record { here = eqb-true p.x q.x k.0; there = eqb-true q.x r.x k.1 })
    (λ m. let k = and_split (eqb p.y q.y) (eqb q.y r.y) m in
    record { here = eqb-true p.y q.y k.0; there = eqb-true q.y r.y k.1 })
    (or_split (eqb p.x q.x && eqb q.x r.x) (eqb p.y q.y && eqb q.y r.y) h)

-- and back
pub true_line : (p q r : Point) → On-line p q r → straight_on p q r ≡ true
unfolding straight_on
true_line p q r h =
    or_join (eqb p.x q.x && eqb q.x r.x) (eqb p.y q.y && eqb q.y r.y)
    (⊎_map
    (λ t. and_join (eqb p.x q.x) (eqb q.x r.x) (eq-eqb p.x q.x t.here) (eq-eqb q.x r.x t.there))
    (λ t. and_join (eqb p.y q.y) (eqb q.y r.y) (eq-eqb p.y q.y t.here) (eq-eqb q.y r.y t.there))
    h)

-- the next corner by the outcome of the test, where the route goes straight on
pub corner_on : (p q r : Point) (l : List Point) → straight_on p q r ≡ true → corners_from p q (r ∷ l) ≡ corners_from p r l
corner_on p q r l e = ap (λ t. elim t as (λ u. List Point) [ true ↦ corners_from p r l | false ↦ q ∷ corners_from q r l ]) e

-- where it turns
pub corner_at : (p q r : Point) (l : List Point) → straight_on p q r ≡ false → corners_from p q (r ∷ l) ≡ q ∷ corners_from q r l
corner_at p q r l e = ap (λ t. elim t as (λ u. List Point) [ true ↦ corners_from p r l | false ↦ q ∷ corners_from q r l ]) e

-- a run has two points
abbrev pub TwoPoints : Run → Type 0
TwoPoints run = run.first ≡ run.second → ⊥

-- a route has a corner behind its first point: its end is one
corners_end : (p q : Point) (l : List Point) → 0 < length (corners_from p q l)
corners_end p q [] = omega arith
corners_end p q (r ∷ l) = go (straight_on p q r) (corners_end p r l)
  where
    go : (b : Bool) → 0 < length (corners_from p r l)
        → 0 < length {A = Point} (elim b as (λ u. List Point) [ true ↦ corners_from p r l | false ↦ q ∷ corners_from q r l ])
    go true h = h
    go false h = omega arith

-- so a Manhattan route between two points has two corners or more
pub corners_two : (g : Grid) (run : Run) (route : Route) → TwoPoints run → Manhattan g run route → 2 ≤ length (corners route)
corners_two g run [] two m = absurd m.starts
corners_two g run (p ∷ []) two m = absurd (two (sym m.starts ∙ m.ends))
corners_two g run (p ∷ q ∷ l) two m = omega (arith, corners_end p q l)

-- ---- the corners of a walk

-- what a walk from p through the points of l to z has, and what another one keeps of it
record Walk (g : Grid) (p : Point) (l : List Point) (z : Point) : Type 0 where
  vertices : All (Vertex g) (p ∷ l)
  straight : All Straight (pieces_from p l)
  goes : Monotone p l z

record Kept (g : Grid) (p : Point) (l k : List Point) (z : Point) : Type 0 where
  walk : Walk g p k z
  same : (e : Edge) → OfGrid g e → any (lies e) (pieces_from p k) ≡ any (lies e) (pieces_from p l)

-- the walk without q
skip : (g : Grid) (p q r : Point) (l : List Point) (z : Point) → On-line p q r → Walk g p (q ∷ r ∷ l) z → Walk g p (r ∷ l) z
skip g p q r l z s w =
    record {
      vertices = (w.vertices.0, w.vertices.1.1);
      straight = (line_straight p q r s, w.straight.1.1);
      goes = (towards_trans w.goes.0 w.goes.1.0, w.goes.1.1);
    }

-- it is on the same edges
skip_same : (g : Grid) (p q r : Point) (l : List Point) (z : Point) → On-line p q r → Walk g p (q ∷ r ∷ l) z → (e : Edge) → OfGrid g e
    → any (lies e) (pieces_from p (r ∷ l)) ≡ any (lies e) (pieces_from p (q ∷ r ∷ l))
skip_same g p q r l z s w e o =
    ap (λ t. t || any (lies e) (pieces_from r l))
    (sym (lies_through g e p q r o w.vertices.1.0 (towards_first w.goes.0 w.goes.1.0) s))
    ∙ or_assoc (lies e (p to q)) (lies e (q to r)) (any (lies e) (pieces_from r l))

-- q is left out, or it stays and the corners after q are kept
left_out : (g : Grid) (p q r : Point) (l k : List Point) (z : Point) → On-line p q r → Walk g p (q ∷ r ∷ l) z → Kept g p (r ∷ l) k z
    → Kept g p (q ∷ r ∷ l) k z
left_out g p q r l k z s w h = record { walk = h.walk; same = λ e o. h.same e o ∙ skip_same g p q r l z s w e o }

-- it stays, and what is kept after it is kept
stays : (g : Grid) (p q r : Point) (l k : List Point) (z : Point) → Walk g p (q ∷ r ∷ l) z → Kept g q (r ∷ l) k z → Kept g p (q ∷ r ∷ l) (q ∷ k) z
stays g p q r l k z w h =
    record {
      walk = record {
        vertices = (w.vertices.0, h.walk.vertices);
        straight = (w.straight.0, h.walk.straight);
        goes = (w.goes.0, h.walk.goes);
      };
      same = λ e o. ap (λ t. lies e (p to q) || t) (h.same e o);
    }

-- the walk behind p
behind : (g : Grid) (p q : Point) (l : List Point) (z : Point) → Walk g p (q ∷ l) z → Walk g q l z
behind g p q l z w = record { vertices = w.vertices.1; straight = w.straight.1; goes = w.goes.1 }

-- the corners of a walk are a walk, on the same edges
corners_keep : (g : Grid) (p q : Point) (l : List Point) (z : Point) → Walk g p (q ∷ l) z → Kept g p (q ∷ l) (corners_from p q l) z
corners_keep g p q [] z w = record { walk = w; same = λ e o. refl }
corners_keep g p q (r ∷ l) z w = go (straight_on p q r) refl (corners_keep g p r l z) (corners_keep g q r l z (behind g p q (r ∷ l) z w))
  where
    go : (t : Bool) → straight_on p q r ≡ t → (Walk g p (r ∷ l) z → Kept g p (r ∷ l) (corners_from p r l) z) → Kept g q (r ∷ l) (corners_from q r l) z
        → Kept g p (q ∷ r ∷ l) (elim t as (λ u. List Point) [ true ↦ corners_from p r l | false ↦ q ∷ corners_from q r l ]) z
    go true e without after = left_out g p q r l (corners_from p r l) z (line_true p q r e) w (without (skip g p q r l z (line_true p q r e) w))
    go false e without after = stays g p q r l (corners_from q r l) z w after

-- the corners of a Manhattan route are one, on the same edges
pub corners_manhattan : (g : Grid) (run : Run) (route : Route) → Manhattan g run route → Manhattan g run (corners route)
corners_manhattan g run [] m = m
corners_manhattan g run (p ∷ []) m = m
corners_manhattan g run (p ∷ q ∷ l) m =
    let k = corners_keep g p q l run.second (record { vertices = m.vertices; straight = m.straight; goes = monotone p (q ∷ l) m }) in
    subst (λ o. Manhattan g (o to run.second) (corners (p ∷ q ∷ l))) m.starts
    (manhattan_of g p (corners_from p q l) run.second k.walk.vertices k.walk.straight k.walk.goes)

-- and it is on the same edges
pub corners_on : (g : Grid) (run : Run) (route : Route) → Manhattan g run route → (e : Edge) → OfGrid g e → on e (corners route) ≡ on e route
corners_on g run [] m e o = refl
corners_on g run (p ∷ []) m e o = refl
corners_on g run (p ∷ q ∷ l) m e o =
    (corners_keep g p q l run.second (record { vertices = m.vertices; straight = m.straight; goes = monotone p (q ∷ l) m })).same e o

-- so routes with the same corners are on the same edges, whatever other points they list
pub same_corners : (g : Grid) (run : Run) (p q : Route) → Manhattan g run p → Manhattan g run q → corners p ≡ corners q
    → (e : Edge) → OfGrid g e → on e p ≡ on e q
same_corners g run p q m n s e o = sym (corners_on g run p m e o) ∙ ap (on e) s ∙ corners_on g run q n e o

-- ---- the corners of all routes

-- they are Manhattan routes of the same runs
pub corners_routes : (g : Grid) (runs : List Run) (routes : List Route) → Routes g runs routes → Routes g runs (map corners routes)
corners_routes g runs routes m = paired_map (Manhattan g) (Manhattan g) corners runs routes (λ run route o. corners_manhattan g run route) m

-- as many of them are on an edge
corners_count : (g : Grid) (runs : List Run) (routes : List Route) → Routes g runs routes → (e : Edge) → OfGrid g e
    → count (on e) (map corners routes) ≡ count (on e) routes
corners_count g [] (route ∷ routes) m e o = elim m [ ]
corners_count g (run ∷ runs) [] m e o = elim m [ ]
corners_count g [] [] m e o = refl
corners_count g (run ∷ runs) (route ∷ routes) m e o =
    ap₂ ◌+◌ (ap (λ t. cond t 1 0) (corners_on g run route m.0 e o)) (corners_count g runs routes m.1 e o)

-- so their excess is the same, and with it the length of their union
corners_excess : (g : Grid) (runs : List Run) (routes : List Route) → Routes g runs routes → excess g (map corners routes) ≡ excess g routes
unfolding excess
corners_excess g runs routes m = edges_cong g _ _ (λ e o. ap (λ n. len e * pred n) (corners_count g runs routes m e o))

-- the length of their union
pub corners_union : (g : Grid) (runs : List Run) (routes : List Route) → Routes g runs routes
    → union_length g (map corners routes) ≡ union_length g routes
corners_union g runs routes m =
    omega (
      arith,
      counting g runs routes m,
      counting g runs (map corners routes) (corners_routes g runs routes m),
      corners_excess g runs routes m,
    )

-- so the corners of a least plan are one
pub corners_least : (g : Grid) (runs : List Run) (routes : List Route) → Least g runs routes → Least g runs (map corners routes)
corners_least g runs routes l =
    record {
      are_routes = corners_routes g runs routes l.are_routes;
      least = λ others n. omega (arith, corners_union g runs routes l.are_routes, l.least others n);
    }
