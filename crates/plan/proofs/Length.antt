-- How long a plan is: 22 bytes, 9 a route (7 an older one) and 9 a corner. So no plan of at most 32 routes on at most 64 columns and rows exceeds 36,886
-- bytes.
use mathlib.Core.Path.{◌≡◌, refl, ap, ◌∙◌}
use mathlib.Core.Bool.{Bool, true, false}
use mathlib.Core.List.{List, [], ◌∷◌, ◌++◌, map, flat_map}
use Prim.Native.Nat.{ℕ, suc, ◌+◌, ◌*◌, ◌≤◌}
use native.Mathlib.Nat.{mul-le-mul_right}
use native.Mathlib.Omega.{arith}
use lib.ListN.{length, drop, length-append, length-map}
use Rattle.network.specs.Lists.{All}
use Rattle.network.specs.Route.{Route}
use Rattle.network.proofs.Lists.{all_map}
use Rattle.route.specs.Route.{Route as Steps, OnGrid, numbered, corners_of, placed}
use Rattle.route.proofs.Corners.{corners_few}
use Rattle.plan.specs.declared.Head.{Head}
use Rattle.plan.specs.Records.{head_record, route_record, route_size, corner_record, end_record}
use Rattle.plan.specs.Plan.{Entry, entry_bytes, total_corners, book_bytes, entries_from}
use Rattle.plan.proofs.Corners.{records_length}

-- the length of a route record
pub route_length : (g : Bool) (number meets corners centre : ℕ) → length (route_record g number meets corners centre) ≡ route_size g
unfolding route_size
route_length true number meets corners centre = refl
route_length false number meets corners centre = refl

-- 7 bytes or 9
pub route_size_lem : (g : Bool) → (7 ≤ route_size g) × (route_size g ≤ 9)
unfolding route_size
route_size_lem true = omega arith
route_size_lem false = omega arith

-- what stands behind a route record
pub behind_route : (g : Bool) (number meets corners centre : ℕ) (b : List ℕ) → drop (route_size g) (route_record g number meets corners centre ++ b) ≡ b
unfolding route_size
behind_route true number meets corners centre b = refl
behind_route false number meets corners centre b = refl

-- the length of an entry
pub entry_length : (g : Bool) (e : Entry) → length (entry_bytes g e) ≡ route_size g + 9 * length e.corners
entry_length g e =
    length-append (route_record g e.number e.meets (length e.corners) e.centre) (flat_map corner_record e.corners)
    ∙ omega (arith, route_length g e.number e.meets (length e.corners) e.centre, records_length e.corners)

-- the length of all entries
pub runs_length : (g : Bool) (es : List Entry) → length (flat_map (entry_bytes g) es) ≡ route_size g * length es + 9 * total_corners es
unfolding flat_map
runs_length g [] = omega arith
runs_length g (e ∷ es) = length-append (entry_bytes g e) (flat_map (entry_bytes g) es) ∙ omega (arith, entry_length g e, runs_length g es)

-- and of the whole plan
pub book_length : (head : Head) (es : List Entry) → length (book_bytes head es) ≡ 22 + length (flat_map (entry_bytes head.grouped) es)
unfolding book_bytes
book_length head es =
    let runs = flat_map (entry_bytes head.grouped) es in
    length-append (head_record head) (runs ++ end_record (total_corners es)) ∙ omega (arith, length-append runs (end_record (total_corners es)))

-- a plan of the new kinds: the head, the runs and the end
pub book_room : (head : Head) (es : List Entry) → head.grouped ≡ true → length (book_bytes head es) ≡ 22 + length (flat_map (entry_bytes true) es)
book_room head es g = omega (arith, book_length head es, ap (λ k. length (flat_map (entry_bytes k) es)) g)

-- at most 127 corners a route
pub total_few : (es : List Entry) → All (λ e. length e.corners ≤ 127) es → total_corners es ≤ 127 * length es
total_few [] a = omega arith
total_few (e ∷ es) a = omega (arith, a.0, total_few es a.1)

-- A plan of at most 32 routes with at most 127 corners each has at most 36,886 bytes.
pub book_most : (head : Head) (es : List Entry) → length es ≤ 32 → All (λ e. length e.corners ≤ 127) es → length (book_bytes head es) ≤ 36886
book_most head es h a =
    let g = head.grouped in
    omega (arith, book_length head es, runs_length g es, mul-le-mul_right (length es) (route_size_lem g).1, total_few es a)

-- ---- the entries of routes

-- one entry a route, with the route's corners
pub entries_length : (number meets centre : ℕ → ℕ) (i : ℕ) (own : List Route) → length (entries_from number meets centre i own) ≡ length own
entries_length number meets centre i [] = refl
entries_length number meets centre i (c ∷ own) = ap suc (entries_length number meets centre (suc i) own)

-- what holds of all routes holds of the corners of all entries
pub entries_all : (P : Route → Type 0) (number meets centre : ℕ → ℕ) (i : ℕ) (own : List Route) → All P own → All (λ e. P e.corners) (entries_from number meets centre i own)
entries_all P number meets centre i [] a = tt
entries_all P number meets centre i (c ∷ own) a = (a.0, entries_all P number meets centre (suc i) own a.1)

-- routes on at most 64 columns and 64 rows have at most 127 corners
pub placed_few : (columns rows : List ℕ) (routes : List Steps) → All (OnGrid numbered) routes
    → All (λ c. length c ≤ 127) (map (λ r. map (placed columns rows) (corners_of r)) routes)
placed_few columns rows =
    all_map (OnGrid numbered) (λ c. length c ≤ 127) (λ r. map (placed columns rows) (corners_of r))
    (λ r g. omega (arith, length-map (corners_of r) (placed columns rows), corners_few r g))
