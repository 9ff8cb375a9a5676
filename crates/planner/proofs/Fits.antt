-- The figures and the corners of a well-formed job's plans fit their fields, so that a plan's bytes determine them.
use mathlib.Core.Path.{◌≡◌, refl, ap}
use mathlib.Core.List.{List, [], ◌∷◌, map}
use Prim.Native.Nat.{ℕ, zero, suc, ◌+◌, ◌*◌, ◌≤◌, ◌<◌}
use native.Mathlib.Omega.{arith}
use lib.ListN.{length, get_or, length-map}
use Rattle.network.specs.Lists.{sum, All}
use Rattle.network.specs.Plane.{Point, gap, distance}
use Rattle.network.specs.Hanan.{xs, ys, hanan}
use Rattle.network.specs.Route.{Route, Vertex, Routes}
use Rattle.network.specs.Graph.{meets, degree}
use Rattle.groups.proofs.Groups.{groups_most}
use Rattle.network.specs.Corners.{corners}
use Rattle.network.proofs.Counting.{counting}
use Rattle.network.proofs.Corners.{TwoPoints}
use Rattle.network.proofs.Corners.{corners_routes}
use Rattle.network.proofs.Hanan.{distinct_listed}
use Rattle.grid.proofs.Insert.{length_distinct}
use Rattle.network.proofs.Sums.{count_le}
use Rattle.network.specs.Pits.{pits_of}
use Rattle.network.proofs.Pits.{routes_vertices, pits_few}
use Rattle.job.specs.declared.Run.{Run as Read}
use Rattle.job.specs.Written.{no_run, InRange, Coincide, WellFormed}
use Rattle.plan.specs.Plan.{head_of, meets_of}
use Rattle.plan.specs.Fits.{PointIn, HeadFits}
use Rattle.planner.specs.Call.{run_of, runs_of, numbers_of}

-- each run is in range
abbrev pub AllIn : List Read → Type 0
AllIn l = (k : ℕ) → k < length l → InRange (get_or l k no_run)

tail_in : (r : Read) (l : List Read) → AllIn (r ∷ l) → AllIn l
tail_in r l h k i = h (suc k) (omega arith)

-- each run has two points
pub runs_apart : (l : List Read) → ((k : ℕ) → k < length l → Coincide (get_or l k no_run) → ⊥) → All TwoPoints (runs_of l)
runs_apart [] h = tt
runs_apart (r ∷ l) h = (λ e. h 0 (omega arith) (ap (λ p. p.x) e, ap (λ p. p.y) e), runs_apart l (λ k i. h (suc k) (omega arith)))

-- ---- lines

x_bounded : (l : List Read) → AllIn l → (i : ℕ) → i < length (xs (runs_of l)) → get_or (xs (runs_of l)) i 0 ≤ 2000000
x_bounded [] h i k = absurd (omega arith)
x_bounded (r ∷ l) h zero k = (h 0 (omega arith)).x1_in
x_bounded (r ∷ l) h (suc zero) k = (h 0 (omega arith)).x2_in
x_bounded (r ∷ l) h (suc (suc i)) k = x_bounded l (tail_in r l h) i (omega arith)

y_bounded : (l : List Read) → AllIn l → (i : ℕ) → i < length (ys (runs_of l)) → get_or (ys (runs_of l)) i 0 ≤ 2000000
y_bounded [] h i k = absurd (omega arith)
y_bounded (r ∷ l) h zero k = (h 0 (omega arith)).y1_in
y_bounded (r ∷ l) h (suc zero) k = (h 0 (omega arith)).y2_in
y_bounded (r ∷ l) h (suc (suc i)) k = y_bounded l (tail_in r l h) i (omega arith)

-- a vertex of the job's grid is in range
pub vertex_in : (l : List Read) → AllIn l → (p : Point) → Vertex (hanan (runs_of l)) p → PointIn p
vertex_in l h p v =
    let (i, a, e) = distinct_listed (xs (runs_of l)) p.x v.column in
    let (j, b, d) = distinct_listed (ys (runs_of l)) p.y v.row in
    record { x_in = omega (arith, x_bounded l h i a); y_in = omega (arith, y_bounded l h j b) }

x_count : (l : List Read) → (length (xs (runs_of l)) ≡ length l + length l) × (length (ys (runs_of l)) ≡ length l + length l)
x_count [] = (refl, refl)
x_count (r ∷ l) = omega (arith, x_count l)

-- a job has at most two columns and two rows a run
pub lines_most : (l : List Read) → (length (hanan (runs_of l)).columns ≤ length l + length l) × (length (hanan (runs_of l)).rows ≤ length l + length l)
lines_most l = omega (arith, x_count l, length_distinct (xs (runs_of l)), length_distinct (ys (runs_of l)))

-- so at most 64 columns and 64 rows
pub few_lines : (l : List Read) → length l ≤ 32 → (length (hanan (runs_of l)).columns ≤ 64) × (length (hanan (runs_of l)).rows ≤ 64)
few_lines l h = omega (arith, lines_most l)

-- ---- corners

all_in : (l : List Read) → AllIn l → (p : List Point) → All (Vertex (hanan (runs_of l))) p → All PointIn p
all_in l h [] v = tt
all_in l h (p ∷ ps) v = (vertex_in l h p v.0, all_in l h ps v.1)

routes_in_lem : (l : List Read) → AllIn l → (routes : List Route) → All (All (Vertex (hanan (runs_of l)))) routes → All (All PointIn) routes
routes_in_lem l h [] v = tt
routes_in_lem l h (route ∷ routes) v = (all_in l h route v.0, routes_in_lem l h routes v.1)

-- the corners of a plan are in range
pub corners_in_lem : (l : List Read) → AllIn l → (routes : List Route) → Routes (hanan (runs_of l)) (runs_of l) routes
    → All (All PointIn) (map corners routes)
corners_in_lem l h routes m =
    let g = hanan (runs_of l) in
    routes_in_lem l h (map corners routes) (routes_vertices g (runs_of l) (map corners routes) (corners_routes g (runs_of l) routes m))

-- ---- figures

pub distances_bounded : (l : List Read) → AllIn l → sum distance (runs_of l) ≤ 4000000 * length l
unfolding distance gap
distances_bounded [] h = omega arith
distances_bounded (r ∷ l) h = omega (arith, distances_bounded l (tail_in r l h), h 0 (omega arith))

-- a run's number has at most four digits
pub number_bounded : (l : List Read) → AllIn l → (i : ℕ) → get_or (numbers_of l) i 0 ≤ 9999
number_bounded [] h i = omega arith
number_bounded (r ∷ l) h zero = (h 0 (omega arith)).most
number_bounded (r ∷ l) h (suc i) = number_bounded l (tail_in r l h) i

-- a run meets no more runs than there are
pub meets_most : (l : List Read) (i : ℕ) → meets_of (runs_of l) i ≤ length l
unfolding degree
meets_most l i = omega (arith, count_le (meets (hanan (runs_of l)) (runs_of l) i) (length (runs_of l)), length-map l run_of)

-- on at most 64 columns and 64 rows there are at most 4,096 pits
pub pits_bounded : (l : List Read) → length l ≤ 32 → (routes : List Route) → Routes (hanan (runs_of l)) (runs_of l) routes → pits_of (map corners routes) ≤ 4096
pits_bounded l h routes m =
    let g = hanan (runs_of l) in
    omega (arith, few_lines l h, pits_few g 64 (few_lines l h).1 (runs_of l) (map corners routes) (corners_routes g (runs_of l) routes m))

-- the figures of a plan fit their fields
pub head_fits : (number : ℕ) (l : List Read) → WellFormed number l → (routes : List Route) → Routes (hanan (runs_of l)) (runs_of l) routes
    → HeadFits (head_of number (runs_of l) (map corners routes))
head_fits number l w routes m =
    let g = hanan (runs_of l) in
    let d = distances_bounded l w.in_range in
    let c = counting g (runs_of l) (map corners routes) (corners_routes g (runs_of l) routes m) in
    record {
      job_fits = w.fits;
      runs_fits = omega (arith, w.most, length-map l run_of);
      trench_fits = omega (arith, w.most);
      saved_fits = omega (arith, w.most);
      pits_fits = omega (arith, pits_bounded l w.most routes m);
      last_fits = omega (arith, groups_most (meets g (runs_of l)) (length (runs_of l)), w.most, length-map l run_of);
    }
