-- T3: what the routes of a star save is what the centre's route shares with the leaves' routes, whatever else is on the lease.
-- So what the routes of a lease of stars save is what its centres' routes share with their leaves'.
--
-- Of two runs of the group that meet one is the centre, so besides the centre's at most one route of the group is on an edge.
use mathlib.Core.Path.{◌≡◌, refl, sym, ap, ap₂, ◌∙◌}
use mathlib.Core.Logic.{◌⊎◌, inl, inr}
use mathlib.Core.Bool.{Bool, true, false, cond, ◌&&◌, ◌||◌, true≢false}
use mathlib.Core.List.{List, Memᴰ as Member}
use Prim.Native.Nat.{ℕ, pred, ◌+◌, ◌*◌, ◌≤◌, ◌<◌}
use native.Mathlib.Nat.{mul-zero}
use native.Mathlib.Omega.{arith}
use native.Mathlib.Decide.{ℕ_discrete}
use lib.Dec.{eqb}
use borrow.Author.Tests.{eqb-true, eq-eqb, ne_eqb}
use lib.ListN.{length}
use Rattle.network.specs.Lists.{sum, count, select}
use Rattle.network.specs.Plane.{Run}
use Rattle.network.specs.Grid.{Rising, Grid, Edge, len}
use Rattle.network.specs.Route.{Route, Routes, on}
use Rattle.network.specs.Graph.{meets, below}
use Rattle.network.specs.Entries.{below_rises}
use Rattle.network.specs.Excess.{excess}
use Rattle.network.proofs.Tests.{and_split, or_split, or_join, is_false, cond_or}
use Rattle.network.proofs.Sums.{sum_cong, sum_add, sum_select, sum_map, sum_below, sum_one, one_term}
use Rattle.network.proofs.Lists.{selected_member, member_selected}
use Rattle.network.proofs.Edges.{OfGrid, edges_cong}
use Rattle.network.proofs.Hanan.{rising_unique}
use Rattle.network.proofs.Meeting.{meets_true, meets_listed}
use Rattle.network.proofs.Centres.{IsCentre}
use Rattle.network.proofs.Counting.{count_times}
use Rattle.network.proofs.Leaves.{member_below}
use Rattle.sharing.specs.Star.{route_at, common}
use Rattle.sharing.proofs.Most.{weight, common_is}
use Rattle.groups.specs.Groups.{heads}
use Rattle.groups.proofs.Parts.{part_of, select_rises, head_of, part_of_lem, of_part, part_rises}
use Rattle.groups.proofs.Stars.{Stars}
use Rattle.lease.specs.Lease.{routes_in}
use Rattle.lease.proofs.Apart.{on_meet, excess_parts}

-- ---- counting

-- a test counts one at most
small : (b : Bool) → cond {A = ℕ} b 1 0 ≤ 1
small true = omega arith
small false = omega arith

passes : (b : Bool) → 0 < cond {A = ℕ} b 1 0 → b ≡ true
passes true h = refl
passes false h = absurd (omega arith)

-- of one route and at most one more, those after the first
one_more : (b : Bool) (n k : ℕ) → k ≤ 1 → n * pred (cond b 1 0 + k) ≡ cond b (n * k) 0
one_more true n k h = let e : pred (1 + k) ≡ k = omega arith in ap (λ i. n * i) e
one_more false n k h = let e : pred (0 + k) ≡ 0 = omega arith in ap (λ i. n * i) e ∙ mul-zero n

both : (a b : Bool) → cond {A = ℕ} a (cond b 1 0) 0 ≡ cond (a && b) 1 0
both true b = refl
both false b = refl

-- ---- one star among the runs

module _ (g : Grid) (runs : List Run) (group : List ℕ) (c : ℕ) (star : IsCentre (meets g runs) group c) (rises : Rising group)
    (listed : (k : ℕ) → Member k group → k < length runs) (closed : (k : ℕ) → meets g runs c k ≡ true → Member k group)
    (routes : List Route) (m : Routes g runs routes) where
  -- the group is the centre and its leaves
  group_star : group ≡ select (λ k. eqb k c || meets g runs c k) (below (length runs))
  group_star =
      rising_unique group (select test (below (length runs))) rises (select_rises test (below (length runs)) (below_rises (length runs)))
      (λ v i. member_selected test (below (length runs)) (member_below (length runs) v (listed v i)) (or_join (eqb v c) (meets g runs c v) (there v i (ℕ_discrete v c))))
      (λ v i. back v (or_split (eqb v c) (meets g runs c v) (selected_member test (below (length runs)) i).1))
    where
      test : ℕ → Bool
      test k = eqb k c || meets g runs c k

      there : (v : ℕ) → Member v group → Dec (v ≡ c) → (eqb v c ≡ true) ⊎ (meets g runs c v ≡ true)
      there v i (yes e) = inl (eq-eqb v c e)
      there v i (no d) = inr (star.joins v i d)

      back : (v : ℕ) → (eqb v c ≡ true) ⊎ (meets g runs c v ≡ true) → Member v group
      back v (inl t) = rw (eqb-true v c t) star.member
      back v (inr t) = closed v t

  module _ (e : Edge) (o : OfGrid g e) where
    abbrev on_at : ℕ → Bool
    on_at k = on e (route_at routes k)

    -- the leaves whose routes are on the edge
    abbrev leaf_on : ℕ → Bool
    leaf_on k = meets g runs c k && on_at k

    leaves_one : count leaf_on (below (length runs)) ≤ 1
    leaves_one =
        rw (sum_below (λ k. cond (leaf_on k) 1 0) (length runs))
        (one_term (λ k. cond (leaf_on k) 1 0) 1 (length runs) (λ k h p. small (leaf_on k)) (λ a b h i p q. only a b h i (passes (leaf_on a) p) (passes (leaf_on b) q) (ℕ_discrete a b)))
      where
        leaf : (a : ℕ) → meets g runs c a ≡ true → ¬ (a ≡ c)
        leaf a t z = (meets_true g runs c a t).0 (sym z)

        only : (a b : ℕ) → a < length runs → b < length runs → leaf_on a ≡ true → leaf_on b ≡ true → Dec (a ≡ b) → a ≡ b
        only a b h i p q (yes d) = d
        only a b h i p q (no d) =
            let (x, s) = and_split (meets g runs c a) (on_at a) p in
            let (y, t) = and_split (meets g runs c b) (on_at b) q in
            absurd (true≢false (sym (on_meet g runs routes m e o a b h i s t d) ∙ star.leaves a b (closed a x) (closed b y) (leaf a x) (leaf b y)))

    -- of the group's routes on it one is the centre's, the others are leaves'
    count_split : count (on e) (routes_in routes group) ≡ cond (on_at c) 1 0 + count leaf_on (below (length runs))
    count_split =
        sum_map (λ p. cond (on e p) 1 0) (route_at routes) group
        ∙ ap (λ l. sum (λ k. cond (on_at k) 1 0) l) group_star
        ∙ sum_select (λ k. eqb k c || meets g runs c k) (λ k. cond (on_at k) 1 0) (below (length runs))
        ∙ sum_cong _ _ (below (length runs)) (λ k i. cond_or (eqb k c) (meets g runs c k) (cond (on_at k) 1 0) (λ p q. (meets_true g runs c k q).0 (sym (eqb-true k c p))))
        ∙ sum_add (λ k. cond (eqb k c) (cond (on_at k) 1 0) 0) (λ k. cond (meets g runs c k) (cond (on_at k) 1 0) 0) (below (length runs))
        ∙ ap₂ ◌+◌ itself (sum_cong _ _ (below (length runs)) (λ k i. both (meets g runs c k) (on_at k)))
      where
        itself : sum (λ k. cond (eqb k c) (cond (on_at k) 1 0) 0) (below (length runs)) ≡ cond (on_at c) 1 0
        itself =
            sum_one (λ k. cond (eqb k c) (cond (on_at k) 1 0) 0) (length runs) c (listed c star.member) (λ k h d. rw (ne_eqb k c d)) ∙ rw (eq-eqb c c refl)

  -- LAW: what the routes of the group save is what the centre's route shares
  pub star_excess : excess g (routes_in routes group) ≡ common g runs c routes
  unfolding excess
  star_excess = edges_cong g _ _ same ∙ sym (common_is g runs c routes)
    where
      same : (e : Edge) → OfGrid g e → len e * pred (count (on e) (routes_in routes group)) ≡ cond (on e (route_at routes c)) (weight g runs c routes e) 0
      same e o =
          ap (λ n. len e * pred n) (count_split e o)
          ∙ one_more (on e (route_at routes c)) (len e) (count (leaf_on e o) (below (length runs))) (leaves_one e o)
          ∙ ap (λ n. cond (on e (route_at routes c)) n 0) (sym (count_times (leaf_on e o) (len e) (below (length runs))))

-- ---- all stars of a lease

module _ (g : Grid) (runs : List Run) (centre : ℕ → ℕ) (S : Stars (meets g runs) (length runs) centre) where
  -- a run that c meets has the centre c, and is not c
  pub leaf_of : (c k : ℕ) → c < length runs → centre c ≡ c → meets g runs c k ≡ true → (k < length runs) × (centre k ≡ c) × ¬ (k ≡ centre k)
  leaf_of c k h e t =
      let l = meets_listed g runs c k t in
      let z : centre k ≡ c = sym (S.together c k h l t) ∙ e in
      (l, z, λ q. (meets_true g runs c k t).0 (sym (q ∙ z)))

  -- the runs with the centre c are a star
  pub part_star : (c : ℕ) → c < length runs → centre c ≡ c → IsCentre (meets g runs) (part_of centre (length runs) c) c
  part_star c h e =
      record {
        member = of_part centre (length runs) c c h e;
        joins = λ i p d. let (l, z) = part_of_lem centre (length runs) c i p in ap (λ b. meets g runs b i) (sym z) ∙ S.leaf i l (λ q. d (q ∙ z));
        leaves = λ i j p q d f. let (l, z) = part_of_lem centre (length runs) c i p in
            let (k, y) = part_of_lem centre (length runs) c j q in
            is_false (meets g runs i j) (λ t. S.apart i j l k (λ u. d (u ∙ z)) (λ u. f (u ∙ y)) t);
      }

  -- LAW: what the routes save is what the centres' routes share with their leaves'
  pub excess_centres : (routes : List Route) → Routes g runs routes → excess g routes ≡ sum (λ c. common g runs c routes) (heads centre (length runs))
  excess_centres routes m =
      excess_parts g runs centre S.listed S.own S.together routes m
      ∙ sum_cong _ _ (heads centre (length runs)) (λ c i. let (h, e) = head_of centre (length runs) c i in
      star_excess g runs (part_of centre (length runs) c) c (part_star c h e) (part_rises centre (length runs) c) (λ k p. (part_of_lem centre (length runs) c k p).0)
      (λ k t. let (l, z, n) = leaf_of c k h e t in of_part centre (length runs) c k l z) routes m)

  -- no two runs that a centre meets do
  pub leaves_apart : (c : ℕ) → c < length runs → centre c ≡ c → (j k : ℕ) → meets g runs c j ≡ true → meets g runs c k ≡ true → meets g runs j k ≡ false
  leaves_apart c h e j k p q =
      let (a, x, u) = leaf_of c j h e p in
      let (b, y, w) = leaf_of c k h e q in
      is_false (meets g runs j k) (λ t. S.apart j k a b u w t)
