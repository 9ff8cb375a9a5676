-- The sum of the distances of a job's runs, run after run.
use mathlib.Core.Path.{◌≡◌, refl, ap, ◌∙◌}
use mathlib.Core.List.{List, [], ◌∷◌}
use Prim.Native.Nat.{ℕ, ◌+◌}
use native.Mathlib.Numerals.{add-one}
use native.Mathlib.Omega.{arith}
use Rattle.network.specs.Lists.{sum}
use Rattle.network.specs.Plane.{distance}
use Rattle.network.proofs.Sums.{sum_append}
use Rattle.grid.specs.Tables.{table}
use Rattle.grid.specs.Runs.{run_held, runs_held}

module _ (x1 y1 x2 y2 : List ℕ) where
  -- no runs, no distance
  pub distances_none : sum distance (runs_held x1 y1 x2 y2 0) ≡ 0
  unfolding runs_held
  distances_none = refl

  -- one run more
  pub distances_more : (n : ℕ) → sum distance (runs_held x1 y1 x2 y2 (n + 1)) ≡ sum distance (runs_held x1 y1 x2 y2 n) + distance (run_held x1 y1 x2 y2 n)
  unfolding runs_held
  distances_more n =
      ap (λ (k : ℕ). sum distance (runs_held x1 y1 x2 y2 k)) (add-one n)
      ∙ sum_append distance (table (run_held x1 y1 x2 y2) n) (run_held x1 y1 x2 y2 n ∷ []) ∙ omega arith
