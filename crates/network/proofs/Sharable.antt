-- Lemma 3.1 of document 000: the longest sharable length of a leaf l and a stretch v = (p, q) between two vertices of l's box is
-- (1) the distance of p and q, where l slopes as v does;
-- (2) the greater of their x distance and their y distance, where l slopes the other way.
--
-- No more: what two routes share is on v's route, whose length is the distance of p and q. Where the slopes are opposite, the routes share no edge of
-- a row or no edge of a column; the edges of v's route in one direction are as long as p and q are apart in that direction.
-- So much: where the slopes are alike, p and q stand one behind the other on the way from l's first point to its second, so l's route can take in any
-- route of v. Where they are opposite, v's route goes straight from p to the level of q, and then to q. A straight stretch has both slopes, so
-- l's route can take in the first part. Both directions can be the first.
use mathlib.Core.Path.{◌≡◌, refl, sym, ◌∙◌}
use mathlib.Core.Logic.{◌⊎◌, inl, inr}
use mathlib.Core.List.{[], ◌∷◌, reverse}
use mathlib.Core.Bool.{Bool, true, false, cond, ◌&&◌, ◌||◌, or-false}
use Prim.Native.Nat.{ℕ, pred, ◌+◌, ◌*◌, ◌≤◌, ◌<◌, max}
use native.Mathlib.Omega.{arith}
use Rattle.network.specs.Plane.{Point, Run, ◌to◌, gap, distance}
use Rattle.network.specs.Grid.{Grid, Edge, across, upward, len, edges, spans}
use Rattle.network.specs.Route.{Route, Vertex, Straight, Manhattan, on, lies}
use Rattle.network.specs.Excess.{excess, shared}
use Rattle.network.specs.Steps.{Dir, hor, ver}
use Rattle.network.specs.Slopes.{Slope, opposite, slopes}
use Rattle.network.specs.Boxes.{within, Placed}
use Rattle.network.specs.Sharable.{Sharable}
use Rattle.network.proofs.Tests.{and_split, and_join, or_join, Spans, within_true}
use Rattle.network.proofs.Sums.{sum_cong, sum_le}
use Rattle.network.proofs.Numbers.{order, Between, rise, fall, gap_self}
use Rattle.network.proofs.Edges.{OfGrid, edge_of}
use Rattle.network.proofs.Monotone.{Towards}
use Rattle.network.proofs.Along.{selected}
use Rattle.network.proofs.Making.{bend, bent, bent_manhattan, end_to_end, end_to_end_lem, end_to_end_on}
use Rattle.network.proofs.Counting.{route_length, route_length_in}
use Rattle.network.proofs.Drawn.{len_in, gap_in}
use Rattle.network.proofs.Turned.{turned_manhattan, turned_on}
use Rattle.network.proofs.Slopes.{Sloped, right_up, left_down, right_down, left_up, slopes_true, straight_sloped, dir_of, one_direction}

-- ---- what two routes share

-- it is their excess
pub shared_excess : (g : Grid) (p q : Route) → shared g p q ≡ excess g (p ∷ q ∷ [])
unfolding shared excess
shared_excess g p q = sum_cong _ _ (edges g) (λ e m. both (on e p) (on e q) (len e))
  where
    both : (a b : Bool) (n : ℕ) → cond (a && b) n 0 ≡ n * pred (cond a 1 0 + (cond b 1 0 + 0))
    both true true n = omega arith
    both true false n = omega arith
    both false true n = omega arith
    both false false n = omega arith

-- no more than any weight of the second route's edges that counts the edges that are shared
shared_below : (g : Grid) (p q : Route) (w : Edge → ℕ) → ((e : Edge) → OfGrid g e → on e p ≡ true → on e q ≡ true → len e ≤ w e)
    → shared g p q ≤ selected g w (λ e. on e q)
unfolding shared
shared_below g p q w h = sum_le _ _ (edges g) (λ e m. both (on e p) (on e q) e (edge_of g m) refl refl)
  where
    both : (a : Bool) (b : Bool) (e : Edge) → OfGrid g e → on e p ≡ a → on e q ≡ b → cond (a && b) (len e) 0 ≤ cond b (w e) 0
    both true true e o i j = h e o i j
    both true false e o i j = omega arith
    both false b e o i j = omega arith

-- at least the length of the edges of a route that both are on
shared_above : (g : Grid) (p q r : Route) → ((e : Edge) → on e r ≡ true → on e p ≡ true) → ((e : Edge) → on e r ≡ true → on e q ≡ true)
    → selected g len (λ e. on e r) ≤ shared g p q
unfolding shared
shared_above g p q r h k = sum_le _ _ (edges g) (λ e m. all (on e r) e refl)
  where
    all : (t : Bool) (e : Edge) → on e r ≡ t → cond t (len e) 0 ≤ cond (on e p && on e q) (len e) 0
    all true e i = rw (h e i, k e i) (omega arith)
    all false e i = omega arith

-- ---- the way through a leaf's box

-- the way from a to z passes p, then q
way_up_lem : {a z p q : ℕ} → a ≤ z → Spans a z p p → Spans a z q q → p ≤ q → Between a p q × Between a q z
way_up_lem o s t h = (rise (omega arith) h, rise (omega arith) (omega arith))

-- on a way down
way_down : {a z p q : ℕ} → z ≤ a → Spans a z p p → Spans a z q q → q ≤ p → Between a p q × Between a q z
way_down o s t h = (fall h (omega arith), fall (omega arith) (omega arith))

-- l passes p, then q
abbrev Passes : Run → Point → Point → Type 0
Passes l p q = Towards l.first p q × Towards l.first q l.second

-- from the ways in x and in y
passes : {l : Run} {p q : Point} → Between l.first.x p.x q.x × Between l.first.x q.x l.second.x
    → Between l.first.y p.y q.y × Between l.first.y q.y l.second.y → Passes l p q
passes x y = (record { in_x = x.0; in_y = y.0 }, record { in_x = x.1; in_y = y.1 })

-- where the slopes are alike, l passes p and then q, or q and then p
ways : {s : Slope} {l : Run} {p q : Point} → Sloped s l → Sloped s (p to q)
    → Spans l.first.x l.second.x p.x p.x × Spans l.first.y l.second.y p.y p.y
    → Spans l.first.x l.second.x q.x q.x × Spans l.first.y l.second.y q.y q.y
    → Passes l p q ⊎ Passes l q p
ways (right_up a b) (right_up c d) i j = inl (passes (way_up_lem a i.0 j.0 c) (way_up_lem b i.1 j.1 d))
ways (right_up a b) (left_down c d) i j = inr (passes (way_up_lem a j.0 i.0 c) (way_up_lem b j.1 i.1 d))
ways (left_down a b) (right_up c d) i j = inr (passes (way_down a j.0 i.0 c) (way_down b j.1 i.1 d))
ways (left_down a b) (left_down c d) i j = inl (passes (way_down a i.0 j.0 c) (way_down b i.1 j.1 d))
ways (right_down a b) (right_down c d) i j = inl (passes (way_up_lem a i.0 j.0 c) (way_down b i.1 j.1 d))
ways (right_down a b) (left_up c d) i j = inr (passes (way_up_lem a j.0 i.0 c) (way_down b j.1 i.1 d))
ways (left_up a b) (right_down c d) i j = inr (passes (way_down a j.0 i.0 c) (way_up_lem b j.1 i.1 d))
ways (left_up a b) (left_up c d) i j = inl (passes (way_down a i.0 j.0 c) (way_up_lem b i.1 j.1 d))

-- a Manhattan route of l that is on all edges of a route
abbrev Takes : Grid → Run → Route → Type 0
Takes g l r = (p : Route) × Manhattan g l p × ((e : Edge) → on e r ≡ true → on e p ≡ true)

-- l's route: to p by one bend, along the route from p to q, and to l's end by one bend
through : (g : Grid) (l : Run) (p q : Point) → Placed g l → Vertex g p → Vertex g q → Passes l p q → (r : Route) → Manhattan g (p to q) r → Takes g l r
through g l p q u v w (s, t) r m =
    let a = bent l.first p in
    let b = end_to_end a r in
    let c = bent q l.second in
    let ma = bent_manhattan g l.first p u.first_vertex v in
    let mb = end_to_end_lem g l.first p q a r ma m s in
    let mc = bent_manhattan g q l.second w u.second_vertex in (
      end_to_end b c,
      end_to_end_lem g l.first q l.second b c mb mc t,
      λ e h. end_to_end_on l.first q l.second b c mb mc e
          ∙ or_join (on e b) (on e c) (inl (end_to_end_on l.first p q a r ma m e ∙ or_join (on e a) (on e r) (inr h))),
    )

-- l can take in any route of a stretch of its own slope
pub takes_in : (g : Grid) (s : Slope) (l : Run) (p q : Point) → Placed g l → Vertex g p → Vertex g q → within p l ≡ true → within q l ≡ true
    → Sloped s l → Sloped s (p to q) → (r : Route) → Manhattan g (p to q) r → Takes g l r
takes_in g s l p q u v w i j a b r m = go (ways a b (within_true p l i) (within_true q l j))
  where
    go : Passes l p q ⊎ Passes l q p → Takes g l r
    go (inl t) = through g l p q u v w t r m
    go (inr t) =
        let (o, n, k) = through g l q p u w v t (reverse r) (turned_manhattan g (p to q) r m) in
        (o, n, λ e h. k e (turned_on e r ∙ h))

-- ---- (1)

-- the slopes are alike: the distance of p and q
pub sharable_same : (g : Grid) (s : Slope) (l : Run) (p q : Point) → Placed g l → Vertex g p → Vertex g q → within p l ≡ true → within q l ≡ true
    → slopes s l ≡ true → slopes s (p to q) ≡ true → Sharable g l (p to q) (distance (p to q))
sharable_same g s l p q u v w i j a b =
    let r = bent p q in
    let m = bent_manhattan g p q v w in
    let (o, n, k) = takes_in g s l p q u v w i j (slopes_true s l a) (slopes_true s (p to q) b) r m in
    let most : (c d : Route) → Manhattan g (p to q) d → shared g c d ≤ distance (p to q)
    = λ c d h. omega (arith, shared_below g c d len (λ e f x y. omega arith), route_length g (p to q) d h) in
    record {
      most = λ c d x y. most c d y;
      leaf = o;
      centre = r;
      leaf_manhattan = n;
      centre_manhattan = m;
      attained = omega (arith, most o r m, shared_above g o r r k (λ e h. h), route_length g (p to q) r m);
    }

-- ---- (2)

-- the edges that are shared go in one direction, so they are no longer than the points are apart in that direction
len_in_lem : (d : Dir) (e : Edge) → dir_of e ≡ d → len e ≤ len_in d e
unfolding len
len_in_lem hor (across x x' y) k = omega arith
len_in_lem hor (upward x y y') k = let z : ◌≡◌ {A = ℕ} 0 1 = cc in absurd (omega arith)
len_in_lem ver (across x x' y) k = let z : ◌≡◌ {A = ℕ} 0 1 = cc in absurd (omega arith)
len_in_lem ver (upward x y y') k = omega arith

-- the distance in one direction is at most the greater one
gap_in_max : (d : Dir) (v : Run) → gap_in d v ≤ max (gap_in hor v) (gap_in ver v)
gap_in_max hor v = omega arith
gap_in_max ver v = omega arith

-- so what is shared is at most the greater one
opposite_below : (g : Grid) (s : Slope) (l v : Run) → Sloped (opposite s) l → Sloped s v → (p q : Route) → Manhattan g l p → Manhattan g v q
    → shared g p q ≤ max (gap_in hor v) (gap_in ver v)
opposite_below g s l v a b p q m n =
    let (d, h) = one_direction g s v l q p n m b a in
    omega (arith, shared_below g p q (len_in d) (λ e o i j. len_in_lem d e (h e o j i)), route_length_in d g v q n, gap_in_max d v)

-- the corner of a route in a box is in the box
within_bend : (p q : Point) (r : Run) → within p r ≡ true → within q r ≡ true → within (bend p q) r ≡ true
unfolding within
within_bend p q r h k =
    and_join (spans r.first.x r.second.x q.x q.x) (spans r.first.y r.second.y p.y p.y)
    (and_split (spans r.first.x r.second.x q.x q.x) (spans r.first.y r.second.y q.y q.y) k).0
    (and_split (spans r.first.x r.second.x p.x p.x) (spans r.first.y r.second.y p.y p.y) h).1

-- where v's route goes from p straight to c, and then to q, l's route can take in the first part
opposite_above : (g : Grid) (s : Slope) (l : Run) (p q c : Point) → Placed g l → Vertex g p → Vertex g c → within p l ≡ true → within c l ≡ true
    → Sloped s l → Straight (p to c) → (o : Route) × Manhattan g l o × (distance (p to c) ≤ shared g o (p ∷ c ∷ q ∷ []))
opposite_above g s l p q c u v w i j a k =
    let r : Route = p ∷ c ∷ [] in
    let m : Manhattan g (p to c) r
    = record { starts = refl; ends = refl; vertices = (v, (w, tt)); straight = (k, tt); shortest = omega arith } in
    let (o, n, t) = takes_in g s l p c u v w i j a (straight_sloped s (p to c) k) r m in (
      o,
      n,
      omega (
        arith,
        route_length g (p to c) r m,
        shared_above g o (p ∷ c ∷ q ∷ []) r t (λ e h. or_join (lies e (p to c)) (lies e (c to q) || false) (inl (sym (or-false (lies e (p to c))) ∙ h))),
      ),
    )

-- the slopes are opposite: the greater of the x distance and the y distance
pub sharable_opposite : (g : Grid) (s : Slope) (l : Run) (p q : Point) → Placed g l → Vertex g p → Vertex g q → within p l ≡ true → within q l ≡ true
    → slopes (opposite s) l ≡ true → slopes s (p to q) ≡ true → Sharable g l (p to q) (max (gap p.x q.x) (gap p.y q.y))
unfolding distance
sharable_opposite g s l p q u v w i j a b = go (order (gap p.y q.y) (gap p.x q.x))
  where
    n : ℕ
    n = max (gap p.x q.x) (gap p.y q.y)

    sl : Sloped (opposite s) l
    sl = slopes_true (opposite s) l a

    most : (c d : Route) → Manhattan g l c → Manhattan g (p to q) d → shared g c d ≤ n
    most c d x y = opposite_below g s l (p to q) sl (slopes_true s (p to q) b) c d x y

    found : (c : Point) → Manhattan g (p to q) (p ∷ c ∷ q ∷ []) → (o : Route) × Manhattan g l o × (n ≤ shared g o (p ∷ c ∷ q ∷ [])) → Sharable g l (p to q) n
    found c m (o, k, h) =
        record {
          most = most;
          leaf = o;
          centre = p ∷ c ∷ q ∷ [];
          leaf_manhattan = k;
          centre_manhattan = m;
          attained = omega (arith, most o (p ∷ c ∷ q ∷ []) k m);
        }

    go : (gap p.y q.y ≤ gap p.x q.x) ⊎ (gap p.x q.x < gap p.y q.y) → Sharable g l (p to q) n
    go (inl h) =
        let (o, k, t) = opposite_above g (opposite s) l p q (bend p q) u v (record { column = w.column; row = v.row }) i (within_bend p q l i j) sl (inr refl) in
        found (bend p q) (bent_manhattan g p q v w) (o, k, omega (arith, gap_self p.y))
    go (inr h) =
        let (o, k, t) = opposite_above g (opposite s) l p q (bend q p) u v (record { column = v.column; row = w.row }) i (within_bend q p l j i) sl (inl refl) in
        found (bend q p) (turned_manhattan g (q to p) (bent q p) (bent_manhattan g q p w v)) (o, k, omega (arith, gap_self p.x))
