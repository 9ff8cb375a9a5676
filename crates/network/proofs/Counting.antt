-- Union length and excess add up to the runs' distances, for any Manhattan routes of any runs. So the least union is the most excess.
--
-- Edge by edge: an edge that k routes are on counts once in the union and k - 1 times in the excess, together k times its length. Summed over
-- the edges and taken route by route, that is for each route the length of the edges on it, which is its run's distance.
use mathlib.Core.Path.{◌≡◌, refl, ap, ap₂, ◌∙◌, subst}
use mathlib.Core.List.{List, [], ◌∷◌}
use mathlib.Core.Bool.{Bool, true, false, cond, ◌||◌}
use Prim.Native.Nat.{ℕ, suc, pred, ◌+◌, ◌*◌, ◌≤◌}
use native.Mathlib.Nat.{zero-add, add_comm}
use native.Mathlib.Numerals.{add-one}
use native.Mathlib.Omega.{arith}
use lib.ListN.{length}
use Rattle.network.specs.Lists.{sum, any, count, All}
use Rattle.network.specs.Plane.{Point, Run, distance}
use Rattle.network.specs.Grid.{Grid, Edge, across, upward, len, edges}
use Rattle.network.specs.Route.{Route, last_from, Vertex, Manhattan, Routes, on, union_length, Least}
use Rattle.network.specs.Excess.{excess}
use Rattle.network.specs.Steps.{hor, ver, Dir, Lane, Frame}
use Rattle.network.proofs.Sums.{sum_add, sum_cong, sum_swap}
use Rattle.network.proofs.Edges.{edges_cong}
use Rattle.network.proofs.Along.{selected}
use Rattle.network.proofs.Lanes.{frame_of}
use Rattle.network.proofs.Steps.{to_steps}
use Rattle.network.proofs.Drawn.{len_in, gap_in, drawn_length}

-- ---- a Manhattan route is as long as its run's distance

-- what holds of every point of a walk holds of its last
last_of : (P : Point → Type 0) (p : Point) (l : List Point) → All P (p ∷ l) → P (last_from p l)
last_of P p [] h = h.0
last_of P p (q ∷ l) h = last_of P q l h.1

-- a run that has a Manhattan route has a frame
pub route_frame : (g : Grid) (run : Run) (route : Route) → Manhattan g run route → (X : Lane) × (Y : Lane) × Frame g run X Y
route_frame g run [] m = absurd m.starts
route_frame g run (p ∷ l) m =
    frame_of g run (subst (Vertex g) m.starts m.vertices.0) (subst (Vertex g) m.ends (last_of (Vertex g) p l m.vertices))

-- the edges on it that go in one direction are together as long as the run's points are apart in that direction
pub route_length_in : (d : Dir) (g : Grid) (run : Run) (route : Route) → Manhattan g run route → selected g (len_in d) (λ e. on e route) ≡ gap_in d run
route_length_in d g run route m =
    let (X, Y, f) = route_frame g run route m in
    let s = to_steps g run X Y f route m in
    edges_cong g _ _ (λ e o. ap (λ t. cond t (len_in d e) 0) (s.same e o)) ∙ drawn_length g run X Y f d s.list s.complete

-- the length of an edge is that of its own direction
cond_len : (t : Bool) (e : Edge) → cond t (len e) 0 ≡ cond t (len_in hor e) 0 + cond t (len_in ver e) 0
unfolding len
cond_len true (across x x' y) = omega arith
cond_len true (upward x y y') = omega arith
cond_len false e = omega arith

-- so all edges on it are together as long as the run's distance
pub route_length : (g : Grid) (run : Run) (route : Route) → Manhattan g run route → selected g len (λ e. on e route) ≡ distance run
unfolding distance
route_length g run route m =
    sum_cong _ _ (edges g) (λ e k. cond_len (on e route) e)
    ∙ sum_add (λ e. cond (on e route) (len_in hor e) 0) (λ e. cond (on e route) (len_in ver e) 0) (edges g)
    ∙ ap₂ ◌+◌ (route_length_in hor g run route m) (route_length_in ver g run route m)

-- and those of all routes as long as the distances of all runs
routes_sum : (g : Grid) (runs : List Run) (routes : List Route) → Routes g runs routes
    → sum (λ route. selected g len (λ e. on e route)) routes ≡ sum distance runs
routes_sum g [] (route ∷ routes) m = elim m [ ]
routes_sum g (run ∷ runs) [] m = elim m [ ]
routes_sum g [] [] m = refl
routes_sum g (run ∷ runs) (route ∷ routes) m = ap₂ ◌+◌ (route_length g run route m.0) (routes_sum g runs routes m.1)

-- there are as many routes as runs
pub routes_length : (g : Grid) (runs : List Run) (routes : List Route) → Routes g runs routes → length routes ≡ length runs
routes_length g [] (route ∷ routes) m = elim m [ ]
routes_length g (run ∷ runs) [] m = elim m [ ]
routes_length g [] [] m = refl
routes_length g (run ∷ runs) (route ∷ routes) m = ap suc (routes_length g runs routes m.1)

-- ---- one edge

-- a length for each element that passes a test
pub count_times : {A : Type 0} (t : A → Bool) (n : ℕ) (l : List A) → sum (λ a. cond (t a) n 0) l ≡ n * count t l
count_times t n [] = omega arith
count_times t n (a ∷ l) = go (t a) (count_times t n l)
  where
    go : (b : Bool) → sum (λ c. cond (t c) n 0) l ≡ n * count t l → cond b n 0 + sum (λ c. cond (t c) n 0) l ≡ n * (cond b 1 0 + count t l)
    go true h = omega arith
    go false h = omega arith

-- an edge's length once if any route is on it, and once more for each further route
once_and_more : {A : Type 0} (t : A → Bool) (n : ℕ) (l : List A) → cond (any t l) n 0 + n * pred (count t l) ≡ n * count t l
once_and_more t n [] = omega arith
once_and_more t n (a ∷ l) = go (t a) (once_and_more t n l)
  where
    more : (c : ℕ) → n + n * pred (1 + c) ≡ n * (1 + c)
    more c = rw (add_comm 1 c, add-one c) (omega arith)

    go : (b : Bool) → cond (any t l) n 0 + n * pred (count t l) ≡ n * count t l
        → cond (b || any t l) n 0 + n * pred (cond b 1 0 + count t l) ≡ n * (cond b 1 0 + count t l)
    go true h = more (count t l)
    go false h = rw (zero-add (count t l)) h

-- ---- all edges

-- union length and excess add up to the runs' distances
pub counting : (g : Grid) (runs : List Run) (routes : List Route) → Routes g runs routes
    → union_length g routes + excess g routes ≡ sum distance runs
unfolding union_length excess
counting g runs routes m =
    omega (
      arith,
      sum_add (λ e. cond (any (on e) routes) (len e) 0) (λ e. len e * pred (count (on e) routes)) (edges g),
      sum_cong _ _ (edges g) (λ e m. once_and_more (on e) (len e) routes),
      sum_cong _ _ (edges g) (λ e m. count_times (on e) (len e) routes),
      sum_swap (λ route e. cond (on e route) (len e) 0) routes (edges g),
      routes_sum g runs routes m,
    )

-- so routes with the most excess are a least plan
pub least_of_most : (g : Grid) (runs : List Run) (routes : List Route) → Routes g runs routes
    → ((others : List Route) → Routes g runs others → excess g others ≤ excess g routes) → Least g runs routes
least_of_most g runs routes m h =
    record {
      are_routes = m;
      least = λ others n. omega (arith, counting g runs routes m, counting g runs others n, h others n);
    }

-- and a least plan has the most excess
pub most_of_least : (g : Grid) (runs : List Run) (routes : List Route) → Least g runs routes
    → (others : List Route) → Routes g runs others → excess g others ≤ excess g routes
most_of_least g runs routes l others n =
    omega (arith, counting g runs routes l.are_routes, counting g runs others n, l.least others n)
