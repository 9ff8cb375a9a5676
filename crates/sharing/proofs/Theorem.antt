-- The joined statement for a centre and its leaves (T4 and T5): what the table says is the most that the centre's route shares with its leaves' routes, whatever
-- Manhattan routes the runs take, and the routes drawn by the traced moves and by the leaves' steps share it.
--
-- The routes are given by their numbers, each drawn by its steps in any frame of its run. What follows for all groups of a job, crate `lease` says.
use mathlib.Core.Path.{◌≡◌, refl, sym, subst}
use mathlib.Core.Logic.{◌⊎◌, inl, inr}
use mathlib.Core.Bool.{true}
use mathlib.Core.List.{List}
use Prim.Native.Nat.{ℕ, ◌≤◌, ◌<◌}
use borrow.Author.Tests.{eq-eqb, ne_eqb}
use lib.ListN.{length}
use Rattle.network.specs.Plane.{Run}
use Rattle.network.specs.Route.{Route, Manhattan, Routes}
use Rattle.network.specs.Graph.{run_at, meets}
use Rattle.network.specs.Steps.{Lane, Frame, drawn}
use Rattle.network.proofs.Meeting.{meets_true}
use Rattle.sharing.specs.Box.{Box}
use Rattle.sharing.specs.Table.{Table, Exact, figure}
use Rattle.sharing.specs.Trace.{Move}
use Rattle.sharing.specs.Walk.{dirs, Traced}
use Rattle.sharing.specs.Leaf.{leaf_steps}
use Rattle.sharing.specs.View.{View}
use Rattle.sharing.specs.Star.{star_of, Centred, steps_of, route_at, common}
use Rattle.sharing.proofs.Numbered.{routes_at}
use Rattle.sharing.proofs.Most.{common_most}
use Rattle.sharing.proofs.Attained.{centre_goes, leaf_goes, common_attained}

module _ (v : View) (runs : List Run) (box : ℕ → Box) (c : ℕ) where
  -- whatever routes the runs take, the route of c shares no more with its leaves' routes than the table says
  pub group_most : Centred v runs box c → (T : Table) → Exact (star_of v runs box c) T
      → (routes : List Route) → Routes v.grid runs routes → common v.grid runs c routes ≤ figure (star_of v runs box c) T
  group_most C T exact routes m = common_most v runs box c C T exact routes (routes_at v.grid runs routes m)

  module _ (C : Centred v runs box c) (T : Table) (moves : List Move) (traced : Traced (star_of v runs box c) T moves)
      (X Y : ℕ → Lane) (frames : (k : ℕ) → k < length runs → Frame v.grid (run_at runs k) (X k) (Y k)) (routes : List Route) where
    -- run k's route is drawn by its steps
    abbrev pub DrawnAt : ℕ → Type 0
    DrawnAt k = route_at routes k ≡ drawn v.grid (X k) (Y k) (steps_of (star_of v runs box c) c moves k)

    -- the centre's by its moves
    centre_drawn : DrawnAt c → route_at routes c ≡ drawn v.grid (X c) (Y c) (dirs moves)
    centre_drawn e = rw (eq-eqb c c refl) at e

    -- a leaf's by its steps
    leaf_drawn : (k : ℕ) → ¬ (k ≡ c) → DrawnAt k → route_at routes k ≡ drawn v.grid (X k) (Y k) (leaf_steps (star_of v runs box c) k moves)
    leaf_drawn k n e = rw (ne_eqb k c n) at e

    -- a run that the centre meets is not the centre
    not_centre : (k : ℕ) → meets v.grid runs c k ≡ true → ¬ (k ≡ c)
    not_centre k m e = (meets_true v.grid runs c k m).0 (sym e)

    -- the routes of c and its leaves share no less than the table says
    pub group_saves : DrawnAt c → ((k : ℕ) → meets v.grid runs c k ≡ true → DrawnAt k) → figure (star_of v runs box c) T ≤ common v.grid runs c routes
    group_saves d l =
        common_attained v runs box c C T moves traced X Y frames routes (centre_drawn d) (λ k m. leaf_drawn k (not_centre k m) (l k m))

    -- and are Manhattan routes
    pub group_goes : (k : ℕ) → (k ≡ c) ⊎ (meets v.grid runs c k ≡ true) → DrawnAt k → Manhattan v.grid (run_at runs k) (route_at routes k)
    group_goes k (inl e) d =
        subst (λ k. DrawnAt k → Manhattan v.grid (run_at runs k) (route_at routes k)) (sym e)
        (λ d. rw (centre_drawn d) (centre_goes v runs box c C T moves traced X Y frames)) d
    group_goes k (inr m) d = rw (leaf_drawn k (not_centre k m) d) (leaf_goes v runs box c C T moves traced X Y frames k m)
