-- The routes part by part: where runs that meet are in one part, what all routes save is what the routes of each part save.
--
-- Two routes on an edge have it in both boxes, so their runs meet: all routes on an edge are of one part, and the other parts save nothing there.
use mathlib.Core.Path.{◌≡◌, refl, sym, ap, ◌∙◌}
use mathlib.Core.Bool.{Bool, true, false, cond, true≢false}
use mathlib.Core.List.{List, []}
use Prim.Native.Nat.{ℕ, pred, ◌*◌, ◌≤◌, ◌<◌}
use native.Mathlib.Omega.{arith}
use native.Mathlib.Decide.{ℕ_discrete}
use lib.Dec.{eqb}
use borrow.Author.Tests.{eqb-true, eq-eqb}
use lib.ListN.{length}
use Rattle.network.specs.Lists.{sum, any, count}
use Rattle.network.specs.Plane.{Run}
use Rattle.network.specs.Grid.{Grid, Edge, len, edges}
use Rattle.network.specs.Route.{Route, Routes, on}
use Rattle.network.specs.Graph.{run_at, meets, below}
use Rattle.network.specs.Excess.{excess}
use Rattle.network.proofs.Tests.{is_false}
use Rattle.network.proofs.Sums.{sum_cong, sum_zero, sum_swap, sum_times, sum_select, sum_map, sum_below, sum_one, sum_at, sum_to}
use Rattle.network.proofs.Lists.{any_true, true_any}
use Rattle.network.proofs.Edges.{OfGrid, edges_cong}
use Rattle.network.proofs.Along.{on_route_inside}
use Rattle.network.proofs.Meeting.{edge_overlap, true_meets}
use Rattle.network.proofs.Counting.{counting, least_of_most, routes_length}
use Rattle.network.proofs.Leaves.{below_member, member_below}
use Rattle.sharing.specs.Star.{route_at, Best}
use Rattle.sharing.proofs.Numbered.{routes_at}
use Rattle.groups.specs.Groups.{heads}
use Rattle.groups.proofs.Parts.{part_of, part_sum, cond_zero}
use Rattle.lease.specs.Lease.{routes_in}

-- where no routes save more than n, and these do, these are best
pub best_of_lem : (g : Grid) (runs : List Run) (n : ℕ) → ((others : List Route) → Routes g runs others → excess g others ≤ n)
    → (routes : List Route) → Routes g runs routes → n ≤ excess g routes → Best g runs routes n
best_of_lem g runs n most routes m h =
    let saves : excess g routes ≡ n = omega (arith, most routes m) in
    record {
      most = most;
      saves = saves;
      least = least_of_most g runs routes m (λ others o. omega (arith, most others o));
      trench = omega (arith, counting g runs routes m);
    }

module _ (g : Grid) (runs : List Run) (routes : List Route) (m : Routes g runs routes) (e : Edge) (o : OfGrid g e) where
  -- runs whose routes are on an edge meet
  pub on_meet : (j k : ℕ) → j < length runs → k < length runs → on e (route_at routes j) ≡ true → on e (route_at routes k) ≡ true → ¬ (j ≡ k) → meets g runs j k ≡ true
  on_meet j k h i p q d =
      true_meets g runs j k d
      (edge_overlap g (run_at runs j) (run_at runs k) e o (on_route_inside e (run_at runs j) (route_at routes j) (routes_at g runs routes m j h) p)
      (on_route_inside e (run_at runs k) (route_at routes k) (routes_at g runs routes m k i) q))

-- ---- parts

module _ (g : Grid) (runs : List Run) (rep : ℕ → ℕ) (listed : (k : ℕ) → k < length runs → rep k < length runs) (own : (k : ℕ) → k < length runs → rep (rep k) ≡ rep k)
    (together : (j k : ℕ) → j < length runs → k < length runs → meets g runs j k ≡ true → rep j ≡ rep k) (routes : List Route) (m : Routes g runs routes) where
  module _ (e : Edge) (o : OfGrid g e) where
    -- the route of k is on the edge; as a number
    abbrev on_at : ℕ → Bool
    on_at k = on e (route_at routes k)

    abbrev here : ℕ → ℕ
    here k = cond (on_at k) 1 0

    -- how many routes of the part of r are
    abbrev those : ℕ → ℕ
    those r = sum (λ k. cond (eqb (rep k) r) (here k) 0) (below (length runs))

    zeros : (h : ℕ → ℕ) → ((k : ℕ) → k < length runs → h k ≡ 0) → sum h (below (length runs)) ≡ 0
    zeros h z = sum_cong h (λ k. 0) (below (length runs)) (λ k i. z k (below_member (length runs) k i)) ∙ sum_zero (below (length runs))

    -- a part of which no route is on the edge
    no_term : (r : ℕ) → those r ≡ 0 → cond (eqb (rep r) r) (pred (those r)) 0 ≡ 0
    no_term r z = ap (λ n. cond (eqb (rep r) r) (pred n) 0) z ∙ cond_zero (eqb (rep r) r)

    -- runs whose routes are on it are of one part
    one_part : (j k : ℕ) → j < length runs → k < length runs → on_at j ≡ true → on_at k ≡ true → rep k ≡ rep j
    one_part j k h i p q = go (ℕ_discrete j k)
      where
        go : Dec (j ≡ k) → rep k ≡ rep j
        go (yes d) = ap rep (sym d)
        go (no d) = sym (together j k h i (on_meet g runs routes m e o j k h i p q d))

    -- no route is on it
    none : any on_at (below (length runs)) ≡ false → pred (sum here (below (length runs))) ≡ sum (λ r. cond (eqb (rep r) r) (pred (those r)) 0) (below (length runs))
    none f =
        ap pred (zeros here (λ k h. rw (off k h)))
        ∙ sym (zeros _ (λ r l. no_term r (zeros (λ k. cond (eqb (rep k) r) (here k) 0) (λ k h. rw (off k h) (cond_zero (eqb (rep k) r))))))
      where
        off : (k : ℕ) → k < length runs → on_at k ≡ false
        off k h = is_false (on_at k) (λ t. true≢false (sym (true_any on_at (member_below (length runs) k h) t) ∙ f))

    -- some route is on it, that of j
    some : (j : ℕ) → j < length runs → on_at j ≡ true → pred (sum here (below (length runs))) ≡ sum (λ r. cond (eqb (rep r) r) (pred (those r)) 0) (below (length runs))
    some j h p =
        ap pred (sum_cong here (λ k. cond (eqb (rep k) (rep j)) (here k) 0) (below (length runs)) (λ k i. mine k (below_member (length runs) k i) (on_at k) refl))
        ∙ sym (sum_one (λ r. cond (eqb (rep r) r) (pred (those r)) 0) (length runs) (rep j) (listed j h)
        (λ r l d. no_term r (zeros _ (λ k i. theirs r k d i _ refl _ refl))) ∙ rw (eq-eqb (rep (rep j)) (rep j) (own j h)))
      where
        mine : (k : ℕ) → k < length runs → (b : Bool) → on_at k ≡ b → ◌≡◌ {A = ℕ} (cond b 1 0) (cond (eqb (rep k) (rep j)) (cond b 1 0) 0)
        mine k l true q = rw (eq-eqb (rep k) (rep j) (one_part j k h l p q))
        mine k l false q = sym (cond_zero (eqb (rep k) (rep j)))

        theirs : (r k : ℕ) → (r ≡ rep j → ⊥) → k < length runs → (b : Bool) → on_at k ≡ b → (a : Bool) → eqb (rep k) r ≡ a → ◌≡◌ {A = ℕ} (cond a (cond b 1 0) 0) 0
        theirs r k d l true q true z = absurd (d (sym (eqb-true (rep k) r z) ∙ one_part j k h l p q))
        theirs r k d l false q true z = refl
        theirs r k d l b q false z = refl

    -- the routes on an edge after the first, part by part
    edge_parts : pred (count (on e) routes) ≡ sum (λ r. pred (count (on e) (routes_in routes (part_of rep (length runs) r)))) (heads rep (length runs))
    unfolding heads
    edge_parts =
        ap pred
        (sum_at (λ r. cond (on e r) 1 0) routes [] ∙ ap (λ n. sum_to n here) (routes_length g runs routes m) ∙ sym (sum_below here (length runs)))
        ∙ go (any on_at (below (length runs))) refl
        ∙ sym (sum_select (λ r. eqb (rep r) r) (λ r. pred (those r)) (below (length runs)))
        ∙ sum_cong _ _ (heads rep (length runs)) (λ r i.
        ap pred (sym (sum_map (λ p. cond (on e p) 1 0) (route_at routes) (part_of rep (length runs) r) ∙ part_sum rep (length runs) r here)))
      where
        go : (b : Bool) → any on_at (below (length runs)) ≡ b
            → pred (sum here (below (length runs))) ≡ sum (λ r. cond (eqb (rep r) r) (pred (those r)) 0) (below (length runs))
        go true t = let (j, i, p) = any_true on_at (below (length runs)) t in some j (below_member (length runs) j i) p
        go false f = none f

  -- LAW: what all routes save is what the routes of each part save
  pub excess_parts : excess g routes ≡ sum (λ r. excess g (routes_in routes (part_of rep (length runs) r))) (heads rep (length runs))
  unfolding excess
  excess_parts =
      edges_cong g _ _ (λ e o. ap (λ n. len e * n) (edge_parts e o)
      ∙ sum_times (len e) (λ r. pred (count (on e) (routes_in routes (part_of rep (length runs) r)))) (heads rep (length runs)))
      ∙ sum_swap (λ r e. len e * pred (count (on e) (routes_in routes (part_of rep (length runs) r)))) (heads rep (length runs)) (edges g)
