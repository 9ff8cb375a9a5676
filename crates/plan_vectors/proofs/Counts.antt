-- Counting a route's steps along the row says whether the route stays on the grid: the other steps go along the column.
use mathlib.Core.Path.{◌≡◌, ap, ◌∙◌}
use mathlib.Core.List.{List, [], ◌∷◌}
use Prim.Native.Nat.{ℕ, ◌+◌, ◌-◌, ◌/◌, ◌≤◌, ◌<◌}
use native.Mathlib.Omega.{arith}
use native.Mathlib.Numerals.{add-one}
use borrow.Author.Tests.{eq-eqb, ne_eqb}
use lib.ListN.{length, get_or, take, replicate, length-replicate}
use lib.Seq.{take_all}
use Rattle.network.specs.Lists.{All}
use Rattle.network.specs.Graph.{below}
use Rattle.network.specs.Entries.{length_below}
use Rattle.network.specs.Steps.{hor, ver, steps, Fits}
use Rattle.route.specs.declared.Track.{Track}
use Rattle.route.specs.Stored.{routes_in}
use Rattle.route.specs.Route.{Route, steps_of, lane, OnGrid, numbered, indexed}
use Rattle.network.proofs.StepCounts.{steps_all, step_along, step_across}
use Rattle.network.proofs.Lists.{all_append}
use Rattle.route.proofs.Corners.{on_marks}
use Rattle.route.proofs.Stored.{route_in}
use Rattle.route.proofs.Walk.{steps_length, taken_next}

module _ (r : Route) (held : r.count ≤ length r.steps) where
  module _ (i : ℕ) (h : i < r.count) where
    pub across_more : get_or r.steps i 0 ≡ 0 → steps hor (take (i + 1) (steps_of r)) ≡ steps hor (take i (steps_of r)) + 1
    across_more e = rw (add-one i, taken_next r held i h, eq-eqb _ _ e) (step_along hor (take i (steps_of r)) ∙ omega arith)

    pub across_same : (get_or r.steps i 0 ≡ 0 → ⊥) → steps hor (take (i + 1) (steps_of r)) ≡ steps hor (take i (steps_of r))
    across_same e = rw (add-one i, taken_next r held i h, ne_eqb _ _ e) (step_across hor (take i (steps_of r)))

  pub on_grid : (across : ℕ) → across ≡ steps hor (take r.count (steps_of r)) → Fits (below 64) (lane r.right r.start.column across)
      → Fits (below 64) (lane r.up r.start.row (r.count - across)) → OnGrid numbered r
  unfolding indexed
  on_grid across e x y =
      let n = steps_length r held in
      let a : across ≡ steps hor (steps_of r) = e ∙ ap (steps hor) (take_all r.count (steps_of r) (omega arith)) in
      let b : r.count - across ≡ steps ver (steps_of r) = omega (arith, steps_all (steps_of r)) in
      record { held = held; columns_fit = rw a at x; rows_fit = rw b at y }

-- one route more
pub routes_more : (steps : List ℕ) (stride : ℕ) (tracks : ℕ → Track) (k : ℕ) → All (OnGrid numbered) (routes_in steps stride tracks k)
    → OnGrid numbered (route_in steps stride tracks k) → All (OnGrid numbered) (routes_in steps stride tracks (k + 1))
unfolding routes_in
routes_more steps stride tracks k a p = rw (add-one k) (all_append (OnGrid numbered) (routes_in steps stride tracks k) (route_in steps stride tracks k ∷ []) a (p, tt))

-- routes on 64 columns and 64 rows have their marks among 4096
pub marks_suffice : (l : List Route) → All (OnGrid numbered) l → All (OnGrid (indexed 64 (length (replicate {A = ℕ} 4096 0) / 64))) l
unfolding indexed
marks_suffice = on_marks 64 64 (length (replicate {A = ℕ} 4096 0)) numbered (omega (arith, length_below 64)) (omega (arith, length_below 64)) (omega (arith, length-replicate {A = ℕ} 4096 0))
