-- All the ways to lay a job's routes, as a list that can be computed: so a law on every plan, or on every least plan, of a small job is one test.
--
-- A run's frame is computed from the indexes of its points' lines. A route has a step list in it with the same corners, and that list is one of the
-- ways to order so many steps along rows and so many along columns. So the corners of any routes are among the choices; and every choice is the
-- corners of routes. If no choice is shorter than n and one is as long, then n is the length of every least plan, and every least plan is a choice
-- of that length.
use mathlib.Core.Path.{◌≡◌, refl, sym, ap, ◌∙◌, subst₂}
use mathlib.Core.Logic.{◌⊎◌, inl, inr, ⊎_elim}
use mathlib.Core.List.Memᴰ
use mathlib.Core.List.Memᴰ.{head as here}
use mathlib.Core.List.Memᴰ.{tail as there}
use mathlib.Core.List.{List, [], ◌∷◌, ◌++◌, map, Memᴰ as Member}
use mathlib.Core.Bool.{Bool, true, false, cond, ◌&&◌, ◌||◌}
use Prim.Native.Nat.{ℕ, zero, suc, ◌+◌, ◌-◌, ◌≤◌, ◌<◌}
use native.Mathlib.Omega.{arith}
use borrow.Author.Tests.{ltb-true, leb-true, leb-false, eqb-true, eqb-false}
use lib.Dec.{eqb, leb, ltb}
use lib.ListN.{length, get_or}
use Rattle.network.specs.Lists.{any, every, All}
use Rattle.network.specs.Plane.{Run}
use Rattle.network.specs.Grid.{Grid}
use Rattle.network.specs.Route.{Route, Listed, Manhattan, Routes, union_length, Least}
use Rattle.network.specs.Steps.{Dir, hor, ver, steps, Lane, forth, back, extent, at, Fits, Frame, drawn}
use Rattle.network.specs.Corners.{corners}
use Rattle.network.specs.Boxes.{Placed}
use Rattle.network.proofs.Tests.{and_split, or_split}
use Rattle.network.proofs.Lists.{any_true, every_true}
use Rattle.network.proofs.Lanes.{point_path}
use Rattle.network.proofs.Drawn.{from_steps}
use Rattle.network.proofs.Corners.{TwoPoints, corners_manhattan, corners_union}
use Rattle.network.proofs.Turns.{to_turns}

-- ---- elements of a mapped list

-- an element goes to an element
member_map : {A B : Type 0} (f : A → B) {a : A} {l : List A} → Member a l → Member (f a) (map f l)
member_map f (here e) = here (ap f e)
member_map f (there m) = there (member_map f m)

-- and every element comes from one
map_member : {A B : Type 0} (f : A → B) {b : B} (l : List A) → Member b (map f l) → (a : A) × Member a l × (b ≡ f a)
map_member f [] m = absurd (Memᴰ.not-nil m)
map_member {A} f {b} (c ∷ l) m = go (Memᴰ.cases_cons m) (map_member f l)
  where
    go : (b ≡ f c) ⊎ Member b (map f l) → (Member b (map f l) → (a : A) × Member a l × (b ≡ f a)) → (a : A) × Member a (c ∷ l) × (b ≡ f a)
    go (inl e) rest = (c, here refl, e)
    go (inr k) rest = let (a, o, e) = rest k in (a, there o, e)

-- ---- the ways to order steps

-- all step lists with so many steps along rows, and so many along columns
unfoldable pub ways : (across up : ℕ) → List (List Dir)
ways zero zero = [] ∷ []
ways zero (suc b) = map (λ s. ver ∷ s) (ways zero b)
ways (suc a) zero = map (λ s. hor ∷ s) (ways a zero)
ways (suc a) (suc b) = map (λ s. hor ∷ s) (ways a (suc b)) ++ map (λ s. ver ∷ s) (ways (suc a) b)

-- a way with one more step along the row in front
way_hor : (a b : ℕ) {s : List Dir} → Member s (ways a b) → Member (hor ∷ s) (ways (suc a) b)
unfolding ways
way_hor a zero m = member_map (λ s. hor ∷ s) m
way_hor a (suc b) m = Memᴰ.append_left (map (λ s. ver ∷ s) (ways (suc a) b)) (member_map (λ s. hor ∷ s) m)

-- and with one more along the column
way_ver : (a b : ℕ) {s : List Dir} → Member s (ways a b) → Member (ver ∷ s) (ways a (suc b))
unfolding ways
way_ver zero b m = member_map (λ s. ver ∷ s) m
way_ver (suc a) b m = Memᴰ.append_right (map (λ s. hor ∷ s) (ways a (suc b))) (member_map (λ s. ver ∷ s) m)

-- every step list is one of the ways to order its steps
ways_complete : (s : List Dir) → Member s (ways (steps hor s) (steps ver s))
unfolding steps ways
ways_complete [] = here refl
ways_complete (hor ∷ s) = way_hor (steps hor s) (steps ver s) (ways_complete s)
ways_complete (ver ∷ s) = way_ver (steps hor s) (steps ver s) (ways_complete s)

-- and each way has these steps
record Has (a b : ℕ) (s : List Dir) : Type 0 where
  all_across : steps hor s ≡ a
  all_up : steps ver s ≡ b

-- one more step along the row
has_hor : (a b : ℕ) (l : List (List Dir)) → ((s : List Dir) → Member s l → Has a b s) → (s : List Dir) → Member s (map (λ s. hor ∷ s) l) → Has (suc a) b s
unfolding steps
has_hor a b l h s m =
    let (r, k, e) = map_member (λ s. hor ∷ s) l m in
    let q = h r k in
    rw e (record { all_across = ap suc q.all_across; all_up = q.all_up })

-- and one more along the column
has_ver : (a b : ℕ) (l : List (List Dir)) → ((s : List Dir) → Member s l → Has a b s) → (s : List Dir) → Member s (map (λ s. ver ∷ s) l) → Has a (suc b) s
unfolding steps
has_ver a b l h s m =
    let (r, k, e) = map_member (λ s. ver ∷ s) l m in
    let q = h r k in
    rw e (record { all_across = q.all_across; all_up = ap suc q.all_up })

-- so the ways are exactly the lists with these steps
ways_sound : (a b : ℕ) (s : List Dir) → Member s (ways a b) → Has a b s
unfolding steps ways
ways_sound zero zero s m = rw (Memᴰ.eq_of_singleton m) (record { all_across = refl; all_up = refl })
ways_sound zero (suc b) s m = has_ver zero b (ways zero b) (ways_sound zero b) s m
ways_sound (suc a) zero s m = has_hor a zero (ways a zero) (ways_sound a zero) s m
ways_sound (suc a) (suc b) s m =
    ⊎_elim (has_hor a (suc b) (ways a (suc b)) (ways_sound a (suc b)) s) (has_ver (suc a) b (ways (suc a) b) (ways_sound (suc a) b) s)
    (Memᴰ.append_cases (map (λ s. hor ∷ s) (ways a (suc b))) m)

-- ---- a run's frame, computed

-- the first index of a number
unfoldable pub index_in : List ℕ → ℕ → ℕ
index_in [] v = 0
index_in (a ∷ l) v = elim (eqb a v) [ true ↦ 0 | false ↦ suc (index_in l v) ]

-- a number that is listed stands at its index
index_listed : (l : List ℕ) (v : ℕ) → Listed l v → (index_in l v < length l) × (get_or l (index_in l v) 0 ≡ v)
unfolding index_in
index_listed [] v p = absurd (omega (arith, p.1))
index_listed (a ∷ l) v p = go (eqb a v) refl p.0 p.1 p.2 (index_listed l v)
  where
    go : (t : Bool) → eqb a v ≡ t → (i : ℕ) → i < suc (length l) → get_or (a ∷ l) i 0 ≡ v
        → (Listed l v → (index_in l v < length l) × (get_or l (index_in l v) 0 ≡ v))
        → (elim t as (λ u. ℕ) [ true ↦ 0 | false ↦ suc (index_in l v) ] < suc (length l))
        × (get_or (a ∷ l) (elim t as (λ u. ℕ) [ true ↦ 0 | false ↦ suc (index_in l v) ]) 0 ≡ v)
    go true d i o k rest = (omega arith, eqb-true a v d)
    go false d zero o k rest = absurd (eqb-false a v d k)
    go false d (suc i) o k rest = let (m, n) = rest (i, omega arith, k) in (omega arith, n)

-- the lane from one index to another
unfoldable pub lane_of : ℕ → ℕ → Lane
lane_of a b = cond (leb a b) (forth a (b - a)) (back a (a - b))

-- it goes from the one line to the other
record LaneOf (l : List ℕ) (u v : ℕ) (X : Lane) : Type 0 where
  fits : Fits l X
  from : get_or l (at X 0) 0 ≡ u
  upto : get_or l (at X (extent X)) 0 ≡ v

-- between two numbers of a list
lane_of_lem : (l : List ℕ) (u v : ℕ) → Listed l u → Listed l v → LaneOf l u v (lane_of (index_in l u) (index_in l v))
unfolding lane_of
lane_of_lem l u v p q = go (leb (index_in l u) (index_in l v)) refl (index_listed l u p) (index_listed l v q)
  where
    go : (t : Bool) → leb (index_in l u) (index_in l v) ≡ t → (index_in l u < length l) × (get_or l (index_in l u) 0 ≡ u)
        → (index_in l v < length l) × (get_or l (index_in l v) 0 ≡ v)
        → LaneOf l u v (cond t (forth (index_in l u) (index_in l v - index_in l u)) (back (index_in l u) (index_in l u - index_in l v)))
    go true e (h, a) (k, b) =
        let o = leb-true (index_in l u) (index_in l v) e in
        let s : index_in l u + 0 ≡ index_in l u = omega arith in
        let t : index_in l u + (index_in l v - index_in l u) ≡ index_in l v = omega arith in
        record { fits = omega arith; from = ap (λ i. get_or l i 0) s ∙ a; upto = ap (λ i. get_or l i 0) t ∙ b }
    go false e (h, a) (k, b) =
        let o = leb-false (index_in l u) (index_in l v) e in
        let s : index_in l u - 0 ≡ index_in l u = omega arith in
        let t : index_in l u - (index_in l u - index_in l v) ≡ index_in l v = omega arith in
        record { fits = omega arith; from = ap (λ i. get_or l i 0) s ∙ a; upto = ap (λ i. get_or l i 0) t ∙ b }

abbrev columns_of : Grid → Run → Lane
columns_of g r = lane_of (index_in g.columns r.first.x) (index_in g.columns r.second.x)

abbrev rows_of : Grid → Run → Lane
rows_of g r = lane_of (index_in g.rows r.first.y) (index_in g.rows r.second.y)

-- a run that is placed on the grid has this frame
frame_at : (g : Grid) (r : Run) → Placed g r → Frame g r (columns_of g r) (rows_of g r)
frame_at g r p =
    let x = lane_of_lem g.columns r.first.x r.second.x p.first_vertex.column p.second_vertex.column in
    let y = lane_of_lem g.rows r.first.y r.second.y p.first_vertex.row p.second_vertex.row in
    record { columns_fit = x.fits; rows_fit = y.fits; from = point_path x.from y.from; upto = point_path x.upto y.upto }

-- ---- the routes of a run

-- the corners of all of them
unfoldable pub routes_of : Grid → Run → List Route
routes_of g r = map (λ s. corners (drawn g (columns_of g r) (rows_of g r) s)) (ways (extent (columns_of g r)) (extent (rows_of g r)))

-- the corners of a route are among them
route_chosen : (g : Grid) (r : Run) → Placed g r → TwoPoints r → (route : Route) → Manhattan g r route → Member (corners route) (routes_of g r)
unfolding routes_of
route_chosen g r p two route m =
    let X = columns_of g r in
    let Y = rows_of g r in
    let s = to_turns g r X Y (frame_at g r p) two route m in
    Memᴰ.cast (sym s.same)
    (member_map (λ s. corners (drawn g X Y s)) (subst₂ (λ a b. Member s.list (ways a b)) s.complete.all_columns s.complete.all_rows (ways_complete s.list)))

-- and each of them is a route
chosen_route : (g : Grid) (r : Run) → Placed g r → (c : Route) → Member c (routes_of g r) → Manhattan g r c
unfolding routes_of
chosen_route g r p c m =
    let X = columns_of g r in
    let Y = rows_of g r in
    let (s, k, e) = map_member (λ s. corners (drawn g X Y s)) (ways (extent X) (extent Y)) m in
    let h = ways_sound (extent X) (extent Y) s k in
    rw e (corners_manhattan g r (drawn g X Y s) (from_steps g r X Y (frame_at g r p) s (record { all_columns = h.all_across; all_rows = h.all_up })))

-- ---- the routes of a job

-- each of some routes in front of each of some lists
unfoldable pub in_front : List Route → List (List Route) → List (List Route)
in_front [] ls = []
in_front (c ∷ cs) ls = map (λ l. c ∷ l) ls ++ in_front cs ls

-- a route in front of a list
member_front : {c : Route} {cs : List Route} {l : List Route} {ls : List (List Route)} → Member c cs → Member l ls → Member (c ∷ l) (in_front cs ls)
unfolding in_front
member_front {c} {cs} {l} {ls} (here {x} {xs} e) m = Memᴰ.append_left (in_front xs ls) (Memᴰ.cast (ap (λ (d : Route). d ∷ l) e) (member_map (λ l. x ∷ l) m))
member_front {c} {cs} {l} {ls} (there {x} {xs} k) m = Memᴰ.append_right (map (λ l. x ∷ l) ls) (member_front k m)

-- and back
front_member : {d : List Route} (cs : List Route) (ls : List (List Route)) → Member d (in_front cs ls)
    → (c : Route) × (l : List Route) × Member c cs × Member l ls × (d ≡ c ∷ l)
unfolding in_front
front_member [] ls m = absurd (Memᴰ.not-nil m)
front_member {d} (b ∷ cs) ls m = go (Memᴰ.append_cases (map (λ l. b ∷ l) ls) m) (front_member cs ls)
  where
    go : Member d (map (λ l. b ∷ l) ls) ⊎ Member d (in_front cs ls)
        → (Member d (in_front cs ls) → (c : Route) × (l : List Route) × Member c cs × Member l ls × (d ≡ c ∷ l))
        → (c : Route) × (l : List Route) × Member c (b ∷ cs) × Member l ls × (d ≡ c ∷ l)
    go (inl k) rest = let (l, o, e) = map_member (λ l. b ∷ l) ls k in (b, l, here refl, o, e)
    go (inr k) rest = let (c, l, o, q, e) = rest k in (c, l, there o, q, e)

-- all the ways to lay routes of the runs, each by its corners
unfoldable pub choices : Grid → List Run → List (List Route)
choices g [] = [] ∷ []
choices g (r ∷ runs) = in_front (routes_of g r) (choices g runs)

-- the corners of any routes are a choice
pub choices_complete : (g : Grid) (runs : List Run) → All (Placed g) runs → All TwoPoints runs → (routes : List Route) → Routes g runs routes
    → Member (map corners routes) (choices g runs)
unfolding choices
choices_complete g [] p two (route ∷ routes) m = elim m [ ]
choices_complete g (r ∷ runs) p two [] m = elim m [ ]
choices_complete g [] p two [] m = here refl
choices_complete g (r ∷ runs) p two (route ∷ routes) m =
    member_front (route_chosen g r p.0 two.0 route m.0) (choices_complete g runs p.1 two.1 routes m.1)

-- and every choice is routes of the runs
pub choices_sound : (g : Grid) (runs : List Run) → All (Placed g) runs → (c : List Route) → Member c (choices g runs) → Routes g runs c
unfolding choices
choices_sound g [] p c m = rw (Memᴰ.eq_of_singleton m) tt
choices_sound g (r ∷ runs) p c m =
    let (a, l, h, k, e) = front_member (routes_of g r) (choices g runs) m in
    rw e (chosen_route g r p.0 a h, choices_sound g runs p.1 l k)

-- ---- the least of them

-- n is the length of every least plan, and every least plan passes a test of its corners
pub record LeastAre (g : Grid) (runs : List Run) (n : ℕ) (t : List Route → Bool) : Type 0 where
  pub some : (routes : List Route) × Least g runs routes
  pub union_is : (routes : List Route) → Least g runs routes → union_length g (map corners routes) ≡ n
  pub passes : (routes : List Route) → Least g runs routes → t (map corners routes) ≡ true

-- no choice is shorter than n, those of length n pass the test, and there is one of length n
unfoldable pub least_test : Grid → List Run → ℕ → (List Route → Bool) → Bool
least_test g runs n t =
    every (λ c. ltb n (union_length g c) || eqb (union_length g c) n && t c) (choices g runs)
    && any (λ c. eqb (union_length g c) n) (choices g runs)

-- what is computed over all choices holds of all least plans
pub least_tested : (g : Grid) (runs : List Run) → All (Placed g) runs → All TwoPoints runs → (n : ℕ) (t : List Route → Bool) → least_test g runs n t ≡ true → LeastAre g runs n t
unfolding least_test
least_tested g runs p two n t h =
    let (a, b) = and_split _ _ h in
    let (c, m, e) = any_true (λ c. eqb (union_length g c) n) (choices g runs) b in
    go a c (choices_sound g runs p c m) (eqb-true (union_length g c) n e)
  where
    longer : (c : List Route) → (ltb n (union_length g c) ≡ true) ⊎ (eqb (union_length g c) n && t c ≡ true) → (n < union_length g c) ⊎ ((union_length g c ≡ n) × (t c ≡ true))
    longer c (inl k) = inl (ltb-true n (union_length g c) k)
    longer c (inr k) = let (a, b) = and_split _ _ k in inr (eqb-true (union_length g c) n a, b)

    least_only : (c : List Route) → union_length g c ≤ n → (n < union_length g c) ⊎ ((union_length g c ≡ n) × (t c ≡ true)) → (union_length g c ≡ n) × (t c ≡ true)
    least_only c k (inl l) = absurd (omega arith)
    least_only c k (inr l) = l

    at_least : (c : List Route) → (n < union_length g c) ⊎ ((union_length g c ≡ n) × (t c ≡ true)) → n ≤ union_length g c
    at_least c (inl l) = omega arith
    at_least c (inr l) = omega arith

    go : every (λ c. ltb n (union_length g c) || eqb (union_length g c) n && t c) (choices g runs) ≡ true
        → (c : List Route) → Routes g runs c → union_length g c ≡ n → LeastAre g runs n t
    go a c m e =
        let all : (routes : List Route) → Routes g runs routes
        → (n < union_length g (map corners routes)) ⊎ ((union_length g (map corners routes) ≡ n) × (t (map corners routes) ≡ true))
        = λ routes o. longer (map corners routes) (or_split _ _ (every_true (λ c. ltb n (union_length g c) || eqb (union_length g c) n && t c) a (choices_complete g runs p two routes o))) in
        let one : (routes : List Route) → Least g runs routes → (union_length g (map corners routes) ≡ n) × (t (map corners routes) ≡ true)
        = λ routes l. least_only (map corners routes) (omega (arith, l.least c m, corners_union g runs routes l.are_routes)) (all routes l.are_routes) in
        record {
          some = (c, record { are_routes = m; least = λ others o. omega (arith, at_least (map corners others) (all others o), corners_union g runs others o) });
          union_is = λ routes l. (one routes l).0;
          passes = λ routes l. (one routes l).1;
        }
