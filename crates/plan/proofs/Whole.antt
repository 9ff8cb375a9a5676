-- The plan of a job's routes: what the code writes is `plan_bytes` of the routes that its steps draw, none of them has more than 127 corners, and its bytes
-- determine its corners.
use mathlib.Core.Path.{◌≡◌, refl, sym, ap, ◌∙◌}
use mathlib.Core.List.{List, [], ◌∷◌, map, map-map}
use Prim.Native.Nat.{ℕ, suc, ◌+◌, ◌≤◌, ◌<◌}
use native.Mathlib.Omega.{arith}
use lib.ListN.{length, get_or, length-map}
use Rattle.network.specs.Lists.{All}
use Rattle.network.specs.Plane.{Run}
use Rattle.network.specs.Grid.{Grid}
use Rattle.network.specs.Hanan.{hanan}
use Rattle.network.specs.Route.{Route, Routes}
use Rattle.network.specs.Corners.{corners}
use Rattle.network.proofs.Corners.{TwoPoints}
use Rattle.route.specs.Route.{Route as Steps, OnGrid, drawn_of, corners_of, placed, Tables}
use Rattle.route.proofs.Lists.{map_cong}
use Rattle.route.proofs.Corners.{corners_placed}
use Rattle.route.proofs.Few.{manhattan_few}
use Rattle.plan.specs.declared.Head.{Head}
use Rattle.plan.specs.Plan.{Entry, book_bytes, entries_from, head_of, meets_of, centre_figure, drawn_bytes, plan_bytes}
use Rattle.plan.specs.Writers.{entries_at}
use Rattle.plan.proofs.Determined.{book_corners, book_head}
use Rattle.plan.specs.Fits.{PointIn, HeadFits}

-- ---- the bytes determine the corners

-- the corners of the entries are those that they were made of
pub entries_corners : (number meets centre : ℕ → ℕ) (i : ℕ) (own : List Route) → map (λ e. e.corners) (entries_from number meets centre i own) ≡ own
entries_corners number meets centre i [] = refl
entries_corners number meets centre i (c ∷ own) = ap (λ l. c ∷ l) (entries_corners number meets centre (suc i) own)

-- Two plans with the same bytes, of whatever jobs, draw the same routes.
pub drawn_same : (j k : ℕ) (ns ms : List ℕ) (runs others : List Run) (own theirs : List Route) → All (All PointIn) own → All (All PointIn) theirs
    → drawn_bytes j ns runs own ≡ drawn_bytes k ms others theirs → own ≡ theirs
unfolding drawn_bytes
drawn_same j k ns ms runs others own theirs a b e =
    let p = entries_corners (λ i. get_or ns i 0) (meets_of runs) (centre_figure ns runs) 0 own in
    let q = entries_corners (λ i. get_or ms i 0) (meets_of others) (centre_figure ms others) 0 theirs in
    sym p ∙ book_corners (head_of j runs own) (head_of k others theirs) _ _ (rw p a) (rw q b) e ∙ q

-- Two plans with the same bytes, of whatever jobs, have the same corners.
pub plan_same : (j k : ℕ) (ns ms : List ℕ) (runs others : List Run) (routes theirs : List Route)
    → All (All PointIn) (map corners routes) → All (All PointIn) (map corners theirs)
    → plan_bytes j ns runs routes ≡ plan_bytes k ms others theirs → map corners routes ≡ map corners theirs
unfolding plan_bytes
plan_same j k ns ms runs others routes theirs = drawn_same j k ns ms runs others (map corners routes) (map corners theirs)

-- Two plans with the same bytes have the same figures, where these fit their fields.
pub plan_figures : (j k : ℕ) (ns ms : List ℕ) (runs others : List Run) (routes theirs : List Route) → HeadFits (head_of j runs (map corners routes))
    → HeadFits (head_of k others (map corners theirs)) → plan_bytes j ns runs routes ≡ plan_bytes k ms others theirs
    → head_of j runs (map corners routes) ≡ head_of k others (map corners theirs)
unfolding plan_bytes drawn_bytes
plan_figures j k ns ms runs others routes theirs = book_head (head_of j runs (map corners routes)) (head_of k others (map corners theirs)) _ _

-- ---- what the code writes

-- the same entries from figures that are the same at each run
entries_cong : (n m c n' m' c' : ℕ → ℕ) (i : ℕ) (own : List Route) → ((k : ℕ) → k < i + length own → (n k ≡ n' k) × (m k ≡ m' k) × (c k ≡ c' k))
    → entries_from n m c i own ≡ entries_from n' m' c' i own
entries_cong n m c n' m' c' i [] h = refl
entries_cong n m c n' m' c' i (o ∷ own) h =
    let t = h i (omega arith) in
    let e : ◌≡◌ {A = Entry} (record { number = n i; meets = m i; centre = c i; corners = o }) (record { number = n' i; meets = m' i; centre = c' i; corners = o }) =
    λ k. record { number = t.0 k; meets = t.1 k; centre = t.2 k; corners = o } in
    cc (e, entries_cong n m c n' m' c' (suc i) own (λ k f. h k (omega arith)))

-- The bytes that `write_plan` writes are the plan of the routes that the steps draw on the job's grid, where the head's figures are those of the
-- routes, and the tables hold the grid's lines, the runs' numbers, their meets figures and the run numbers of their groups' centres.
pub plan_written : (job : ℕ) (numbers : List ℕ) (runs : List Run) (columns rows ns ms cs : List ℕ) (routes : List Steps) (head : Head)
    → length (hanan runs).columns ≤ 64 → length (hanan runs).rows ≤ 64 → Tables (hanan runs) columns rows → All (OnGrid (hanan runs)) routes
    → head ≡ head_of job runs (map (λ r. corners (drawn_of (hanan runs) r)) routes)
    → ((i : ℕ) → i < length routes → (get_or ns i 0 ≡ get_or numbers i 0) × (get_or ms i 0 ≡ meets_of runs i) × (get_or cs i 0 ≡ centre_figure numbers runs i))
    → book_bytes head (entries_at columns rows ns ms cs routes) ≡ plan_bytes job numbers runs (map (drawn_of (hanan runs)) routes)
unfolding plan_bytes drawn_bytes entries_at
plan_written job numbers runs columns rows ns ms cs routes head fc fr t a h f =
    let g = hanan runs in
    let p : map (λ r. map (placed columns rows) (corners_of r)) routes ≡ map (λ r. corners (drawn_of g r)) routes =
    map_cong (OnGrid g) (λ r. map (placed columns rows) (corners_of r)) (λ r. corners (drawn_of g r)) (corners_placed g fc fr columns rows t) routes a in
    let own = map (λ r. corners (drawn_of g r)) routes in
    let n : length own ≡ length routes = length-map routes (λ r. corners (drawn_of g r)) in
    rw (map-map corners (drawn_of g) routes, h, p)
    (ap (book_bytes (head_of job runs own))
    (entries_cong (λ i. get_or ns i 0) (λ i. get_or ms i 0) (λ i. get_or cs i 0) (λ i. get_or numbers i 0) (meets_of runs) (centre_figure numbers runs) 0 own
    (λ k l. f k (omega arith))))

-- ---- no route is long

-- Manhattan routes have at most 127 corners each
pub routes_few : (g : Grid) → length g.columns ≤ 64 → length g.rows ≤ 64 → (runs : List Run) (routes : List Route) → All TwoPoints runs
    → Routes g runs routes → All (λ c. length c ≤ 127) (map corners routes)
routes_few g h k [] (route ∷ routes) two m = elim m [ ]
routes_few g h k (run ∷ runs) [] two m = elim m [ ]
routes_few g h k [] [] two m = tt
routes_few g h k (run ∷ runs) (route ∷ routes) two m = (omega (arith, manhattan_few g run route two.0 m.0), routes_few g h k runs routes two.1 m.1)
