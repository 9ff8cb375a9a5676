-- Every Manhattan route is monotone, and stays in its run's box.
--
-- Let a walk go from p through the points of a list to z. By the triangle inequality no walk is shorter than the distance of its ends. Where
-- the walk is not longer either, its first piece (to q) and the distance from q to z add up to the distance from p to z; the two coordinates
-- cannot make up for each other, so in each of them q lies between p and z. The rest of the walk is again as short as it can be: by induction
-- every step goes towards z, and what is between p and z stays between them.
use mathlib.Core.Path.{◌≡◌, refl, sym, ap, ap₂, ◌∙◌}
use mathlib.Core.List.{List, [], ◌∷◌}
use Prim.Native.Nat.{◌+◌, ◌≤◌}
use native.Mathlib.Omega.{arith}
use Rattle.network.specs.Lists.{sum, All}
use Rattle.network.specs.Plane.{Point, Run, ◌to◌, distance}
use Rattle.network.specs.Grid.{Grid}
use Rattle.network.specs.Route.{Route, pieces_from, last_from, Vertex, Straight, Manhattan}
use Rattle.network.proofs.Numbers.{Between, between_here, between_first, between_trans, gap_self, gap_triangle, gap_between, between_gap}

-- ---- points

-- a step from p to q goes towards z
pub record Towards (p q z : Point) : Type 0 where
  pub in_x : Between p.x q.x z.x
  pub in_y : Between p.y q.y z.y

-- standing still is towards every point
pub towards_here : (p z : Point) → Towards p p z
towards_here p z = record { in_x = between_here p.x z.x; in_y = between_here p.y z.y }

-- of the points p, q, r of a walk to z, q is on the way from p to r, and r on the way from p to z
pub towards_first : {p q r z : Point} → Towards p q z → Towards q r z → Towards p q r
towards_first t u = record { in_x = between_first t.in_x u.in_x; in_y = between_first t.in_y u.in_y }

-- r is on the way from p to z
pub towards_trans : {p q r z : Point} → Towards p q z → Towards q r z → Towards p r z
towards_trans t u = record { in_x = between_trans t.in_x u.in_x; in_y = between_trans t.in_y u.in_y }

-- the triangle inequality, which is an equation exactly if q is on the way
pub distance_self : (p : Point) → distance (p to p) ≡ 0
unfolding distance
distance_self p = omega (arith, gap_self p.x, gap_self p.y)

-- no way over q is shorter
triangle : (p q z : Point) → distance (p to z) ≤ distance (p to q) + distance (q to z)
unfolding distance
triangle p q z = omega (arith, gap_triangle p.x q.x z.x, gap_triangle p.y q.y z.y)

-- where it is no longer, q is on the way
towards : (p q z : Point) → distance (p to q) + distance (q to z) ≤ distance (p to z) → Towards p q z
unfolding distance
towards p q z h =
    record {
      in_x = gap_between p.x q.x z.x (omega (arith, gap_triangle p.y q.y z.y));
      in_y = gap_between p.y q.y z.y (omega (arith, gap_triangle p.x q.x z.x));
    }

-- and where q is on the way, it is as long
towards_distance : (p q z : Point) → Towards p q z → distance (p to q) + distance (q to z) ≡ distance (p to z)
unfolding distance
towards_distance p q z t = omega (arith, between_gap t.in_x, between_gap t.in_y)

-- ---- walks

-- from p through the points of l, each step is towards z
abbrev pub Monotone : Point → List Point → Point → Type 0
Monotone p [] z = p ≡ z
Monotone p (q ∷ l) z = Towards p q z × Monotone q l z

-- no walk is shorter than the distance of its ends
no_shorter : (p : Point) (l : List Point) → distance (p to last_from p l) ≤ sum distance (pieces_from p l)
no_shorter p [] = omega (arith, distance_self p)
no_shorter p (q ∷ l) = omega (arith, triangle p q (last_from q l), no_shorter q l)

-- a walk that is not longer either is monotone
pub monotone_from : (p : Point) (l : List Point) → sum distance (pieces_from p l) ≤ distance (p to last_from p l) → Monotone p l (last_from p l)
monotone_from p [] h = refl
monotone_from p (q ∷ l) h =
    let t : distance (p to q) + distance (q to last_from q l) ≤ distance (p to last_from q l) = omega (arith, no_shorter q l) in
    let s : sum distance (pieces_from q l) ≤ distance (q to last_from q l) = omega (arith, triangle p q (last_from q l)) in
    (towards p q (last_from q l) t, monotone_from q l s)

-- every Manhattan route is monotone
pub monotone : {g : Grid} {run : Run} (p : Point) (l : List Point) → Manhattan g run (p ∷ l) → Monotone p l run.second
monotone {run} p l m =
    let e : distance (p to last_from p l) ≡ distance run = ap₂ (λ a b. distance (a to b)) m.starts m.ends in
    rw m.ends at (monotone_from p l (omega (arith, m.shortest)))

-- and back: a monotone walk is as long as the distance of its ends
monotone_shortest : (p : Point) (l : List Point) (z : Point) → Monotone p l z → sum distance (pieces_from p l) ≡ distance (p to z)
monotone_shortest p [] z m = sym (distance_self p) ∙ ap (λ q. distance (p to q)) m
monotone_shortest p (q ∷ l) z m = omega (arith, monotone_shortest q l z m.1, towards_distance p q z m.0)

-- and it ends at z
monotone_last : (p : Point) (l : List Point) (z : Point) → Monotone p l z → last_from p l ≡ z
monotone_last p [] z m = m
monotone_last p (q ∷ l) z m = monotone_last q l z m.1

-- a monotone walk between vertices, of straight pieces, is a Manhattan route
pub manhattan_of : (g : Grid) (p : Point) (l : List Point) (z : Point) → All (Vertex g) (p ∷ l) → All Straight (pieces_from p l) → Monotone p l z
    → Manhattan g (p to z) (p ∷ l)
manhattan_of g p l z v s m =
    record { starts = refl; ends = monotone_last p l z m; vertices = v; straight = s; shortest = monotone_shortest p l z m }

-- ---- boxes

-- the points of a monotone walk are in the box of its ends
in_box_from : {o : Point} (p : Point) (l : List Point) (z : Point) → Towards o p z → Monotone p l z → All (λ r. Towards o r z) (p ∷ l)
in_box_from p [] z t m = (t, tt)
in_box_from p (q ∷ l) z t m = (t, in_box_from q l z (towards_trans t m.0) m.1)

-- all of them, with the first
pub in_box : (p : Point) (l : List Point) (z : Point) → Monotone p l z → All (λ r. Towards p r z) (p ∷ l)
in_box p l z m = in_box_from p l z (towards_here p z) m

-- every point of a Manhattan route is in its run's box
pub route_in_box : {g : Grid} {run : Run} (route : Route) → Manhattan g run route → All (λ r. Towards run.first r run.second) route
route_in_box [] m = tt
route_in_box {run} (p ∷ l) m = in_box_from p l run.second (rw m.starts (towards_here run.first run.second)) (monotone p l m)
