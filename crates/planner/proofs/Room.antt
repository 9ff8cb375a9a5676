-- The forecast's numbers: no job needs more than 16,384 words and 36,886 bytes, no job of a few runs more than they have lines for, and no plan is longer than the
-- forecast bytes.
use mathlib.Core.Path.{◌≡◌, refl, subst}
use mathlib.Core.Bool.{true}
use mathlib.Core.List.{List, [], ◌∷◌, map}
use Prim.Native.Nat.{ℕ, suc, ◌+◌, ◌-◌, ◌*◌, ◌≤◌}
use native.Mathlib.Nat.{mul-le-mul, mul-le-mul_right}
use native.Mathlib.Omega.{arith}
use lib.ListN.{length, get_or, length-map}
use Rattle.network.specs.Lists.{sum, All}
use Rattle.network.specs.Plane.{Run}
use Rattle.network.specs.Grid.{Grid}
use Rattle.network.specs.Hanan.{hanan}
use Rattle.network.specs.Route.{Route, Routes}
use Rattle.network.specs.Corners.{corners}
use Rattle.network.proofs.Counting.{routes_length}
use Rattle.network.proofs.Corners.{TwoPoints}
use Rattle.plan.specs.Records.{route_size}
use Rattle.plan.specs.Plan.{entries_from, head_of, meets_of, centre_figure, drawn_bytes, plan_bytes, total_corners}
use Rattle.plan.proofs.Length.{book_length, runs_length, entries_length}
use Rattle.job.specs.declared.Run.{Run as Read}
use Rattle.job.specs.Parse.{Parsed, accepted, refused, parse}
use Rattle.job.specs.Written.{Bytes}
use Rattle.job.proofs.Accepted.{accepted_well_formed}
use Rattle.std.specs.Prelude.{Ok}
use Rattle.planner.specs.declared.Needs.{Needs}
use Rattle.planner.specs.Call.{run_of, runs_of, numbers_of, plan_of}
use Rattle.planner.specs.Forecast.{lines_at, words_for, bytes_for, needs_of}
use Rattle.planner.specs.Verdict.{foretold_by, forecast_of}
use Rattle.planner.proofs.Fits.{lines_most, few_lines}
use Rattle.planner.proofs.Touching.{touching_most, corners_touching}

-- ---- the most

-- for at most m runs, which have at most 2 m columns and 2 m rows
pub words_few : (l : List Read) (m : ℕ) → length l ≤ m → words_for (runs_of l) ≤ (m + m) * (m + m) * 4
words_few l m h =
    let (c, r) = lines_most l in
    let w : length (hanan (runs_of l)).columns ≤ m + m = omega arith in
    let t : length (hanan (runs_of l)).rows ≤ m + m = omega arith in
    mul-le-mul_right 4 (mul-le-mul w t)

pub words_most : (l : List Read) → length l ≤ 32 → words_for (runs_of l) ≤ 16384
words_most l h = words_few l 32 h

pub bytes_most : (l : List Read) → length l ≤ 32 → bytes_for (runs_of l) ≤ 36886
bytes_most l h =
    let g = hanan (runs_of l) in
    let (c, r) = few_lines l h in
    omega (arith, go g c r (runs_of l), length-map l run_of)
  where
    go : (g : Grid) → length g.columns ≤ 64 → length g.rows ≤ 64 → (runs : List Run) → sum (λ r. 9 + 9 * (lines_at g r - 1)) runs ≤ 1152 * length runs
    go g c r [] = omega arith
    go g c r (run ∷ runs) =
        omega (arith, go g c r runs, touching_most g.columns run.first.x run.second.x, touching_most g.rows run.first.y run.second.y)

-- ---- no plan is longer

corners_within : (number meets centre : ℕ → ℕ) (g : Grid) (runs : List Run) (routes : List Route) (i : ℕ) → All TwoPoints runs → Routes g runs routes
    → 9 * length runs + 9 * total_corners (entries_from number meets centre i (map corners routes)) ≤ sum (λ r. 9 + 9 * (lines_at g r - 1)) runs
corners_within number meets centre g [] (route ∷ routes) i two m = elim m [ ]
corners_within number meets centre g (run ∷ runs) [] i two m = elim m [ ]
corners_within number meets centre g [] [] i two m = omega arith
corners_within number meets centre g (run ∷ runs) (route ∷ routes) i two m =
    omega (arith, corners_within number meets centre g runs routes (suc i) two.1 m.1, corners_touching g run route two.0 m.0)

pub plan_within : (number : ℕ) (runs : List Read) (routes : List Route) → All TwoPoints (runs_of runs) → Routes (hanan (runs_of runs)) (runs_of runs) routes
    → length (plan_of number runs routes) ≤ bytes_for (runs_of runs)
unfolding plan_bytes drawn_bytes route_size
plan_within number runs routes two m =
    let g = hanan (runs_of runs) in
    let own = map corners routes in
    let number_of : ℕ → ℕ = λ i. get_or (numbers_of runs) i 0 in
    let es = entries_from number_of (meets_of (runs_of runs)) (centre_figure (numbers_of runs) (runs_of runs)) 0 own in
    omega (
      arith,
      book_length (head_of number (runs_of runs) own) es,
      runs_length true es,
      entries_length number_of (meets_of (runs_of runs)) (centre_figure (numbers_of runs) (runs_of runs)) 0 own,
      length-map routes corners,
      routes_length g (runs_of runs) routes m,
      corners_within number_of (meets_of (runs_of runs)) (centre_figure (numbers_of runs) (runs_of runs)) g (runs_of runs) routes 0 two m,
    )

-- what a forecast tells is small
pub needs_most : (job : List ℕ) (needs : Needs) → Bytes job → forecast_of job ≡ Ok needs → (needs.words ≤ 16384) × (needs.bytes ≤ 36886)
needs_most job needs b e = go (parse job) refl e
  where
    go : (p : Parsed) → parse job ≡ p → foretold_by p ≡ Ok needs → (needs.words ≤ 16384) × (needs.bytes ≤ 36886)
    go (accepted number runs) q f =
        let l = (accepted_well_formed job number runs b q).most in
        let m : needs_of (runs_of runs) ≡ needs = cc in
        subst (λ (k : Needs). (k.words ≤ 16384) × (k.bytes ≤ 36886)) m (words_most runs l, bytes_most runs l)
    go (refused x) q f = absurd (let z : ◌≡◌ {A = ℕ} 0 1 = cc in omega arith)
