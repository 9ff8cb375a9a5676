-- Demand 3 for a lease (T6): where for each centre no routes share more with its leaves' routes than these, the routes are best, all groups together.
-- `lease_best` is what a planner cites that lays out group after group; one star is the case of one group.
use mathlib.Core.Path.{◌≡◌, refl}
use mathlib.Core.Logic.{◌⊎◌, inl, inr}
use mathlib.Core.Bool.{true}
use mathlib.Core.List.{List}
use Prim.Native.Nat.{ℕ, ◌≤◌, ◌<◌}
use native.Mathlib.Omega.{arith}
use native.Mathlib.Decide.{ℕ_discrete}
use lib.ListN.{length}
use Rattle.network.specs.Lists.{sum}
use Rattle.network.specs.Plane.{Run}
use Rattle.network.specs.Grid.{Grid}
use Rattle.network.specs.Route.{Route, Manhattan, Routes}
use Rattle.network.specs.Graph.{run_at, meets}
use Rattle.network.specs.Steps.{Lane, Frame}
use Rattle.network.proofs.Sums.{sum_le}
use Rattle.sharing.specs.Star.{route_at, common, Best}
use Rattle.sharing.proofs.Numbered.{routes_of_lem}
use Rattle.sharing.proofs.Theorem.{group_most, group_saves, group_goes}
use Rattle.groups.specs.Groups.{heads}
use Rattle.groups.proofs.Parts.{head_of}
use Rattle.groups.proofs.Stars.{Stars}
use Rattle.lease.specs.Lease.{Sheet, view_by, GroupDrawn}
use Rattle.lease.proofs.Apart.{best_of_lem}
use Rattle.lease.proofs.Excess.{leaf_of, excess_centres}

module _ (g : Grid) (runs : List Run) (centre : ℕ → ℕ) (S : Stars (meets g runs) (length runs) centre) where
  -- ---- from each group to all

  -- THEOREM: where for each centre c no routes share more with its leaves' routes than size c, and these routes do, these are best
  pub best_together : (size : ℕ → ℕ)
      → ((c : ℕ) → c < length runs → centre c ≡ c → (others : List Route) → Routes g runs others → common g runs c others ≤ size c)
      → (routes : List Route) → Routes g runs routes → ((c : ℕ) → c < length runs → centre c ≡ c → size c ≤ common g runs c routes)
      → Best g runs routes (sum size (heads centre (length runs)))
  best_together size bound routes m attained =
      let all = heads centre (length runs) in
      best_of_lem g runs (sum size all)
      (λ others o. omega (
        arith,
        excess_centres g runs centre S others o,
        sum_le (λ c. common g runs c others) size all (λ c i. let (h, e) = head_of centre (length runs) c i in bound c h e others o),
      ))
      routes m
      (omega (
        arith,
        excess_centres g runs centre S routes m,
        sum_le size (λ c. common g runs c routes) all (λ c i. let (h, e) = head_of centre (length runs) c i in attained c h e),
      ))

  -- ---- what is laid, group after group

  module _ (X Y : ℕ → Lane) (frames : (k : ℕ) → k < length runs → Frame g (run_at runs k) (X k) (Y k)) (routes : List Route) (count : length routes ≡ length runs)
      (size : ℕ → ℕ) (all : (c : ℕ) → c < length runs → centre c ≡ c → (s : Sheet) × GroupDrawn g runs centre X Y routes c (size c) s) where
    -- each is a Manhattan route
    lease_goes : (k : ℕ) → k < length runs → Manhattan g (run_at runs k) (route_at routes k)
    lease_goes k h =
        let c = centre k in
        let (s, D) = all c (S.listed k h) (S.own k h) in
        group_goes (view_by g runs s) runs s.box c D.centred s.table s.moves D.traced X Y frames routes k (part (ℕ_discrete k c))
        (D.drawn_by k h refl)
      where
        part : Dec (k ≡ centre k) → (k ≡ centre k) ⊎ (meets g runs (centre k) k ≡ true)
        part (yes e) = inl e
        part (no d) = inr (S.leaf k h d)

    -- THEOREM: where each group is drawn by a sheet of its centre, the routes save what the sheets say together, and no routes save more
    pub lease_best : Best g runs routes (sum size (heads centre (length runs)))
    lease_best =
        best_together size
        (λ c h e others o. let (s, D) = all c h e in
        rw (← D.says) (group_most (view_by g runs s) runs s.box c D.centred s.table D.exact others o))
        routes (routes_of_lem g runs routes count lease_goes)
        (λ c h e. let (s, D) = all c h e in
        rw (← D.says) (group_saves (view_by g runs s) runs s.box c D.centred s.table s.moves D.traced X Y frames routes (D.drawn_by c h e)
        (λ k t. let (l, z, n) = leaf_of g runs centre S c k h e t in D.drawn_by k l z)))
