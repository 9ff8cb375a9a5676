-- What the writers' contracts speak of, and no demand: the entries of the routes that the code holds.
use Rattle.std.specs.Prelude.{◌≡◌, true, ℕ, ◌≤◌, get_or, take}
use mathlib.Core.List.{List, map, flat_map}
use Rattle.route.specs.declared.Routes.{Routes}
use Rattle.route.specs.Route.{Route as Steps, corners_of, corner_count, placed}
use Rattle.route.specs.Stored.{route_of, routes_of}
use Rattle.plan.specs.declared.Figures.{Figures}
use Rattle.plan.specs.declared.Written.{Written}
use Rattle.fields.specs.Bytes.{Wrote}
use Rattle.plan.specs.Plan.{Entry, entry_bytes, total_corners, entries_from}

-- the entry of a run whose route is held in line indexes, with tables of the columns and the rows
abbrev pub entry_at : (columns rows : List ℕ) (number meets centre : ℕ) → Steps → Entry
entry_at columns rows number meets centre r =
    record { number = number; meets = meets; centre = centre; corners = map (placed columns rows) (corners_of r) }

-- the entries of all runs, whose numbers, meets figures and centres stand in tables too
unfoldable pub entries_at : (columns rows numbers meets centres : List ℕ) → List Steps → List Entry
entries_at columns rows numbers meets centres routes =
    entries_from (λ i. get_or numbers i 0) (λ i. get_or meets i 0) (λ i. get_or centres i 0) 0 (map (λ r. map (placed columns rows) (corners_of r)) routes)

-- the entry of run k, and the entries of all runs
abbrev pub entry_in : (columns rows : List ℕ) → Figures → Routes → ℕ → Entry
entry_in columns rows f r k = entry_at columns rows (get_or f.numbers.now k 0) (get_or f.meets.now k 0) (get_or f.centres.now k 0) (route_of r k)

abbrev pub entries_in : (columns rows : List ℕ) → Figures → Routes → List Entry
entries_in columns rows f r = entries_at columns rows f.numbers.now f.meets.now f.centres.now (routes_of r)

-- the figures tell how many corners the routes have
abbrev pub AreCounted : Figures → Routes → Type 0
AreCounted f r = take r.count f.corners.now ≡ map corner_count (routes_of r)

-- what the writer of the runs makes of xs
pub record WroteRuns (es : List Entry) (xs ys : List ℕ) (w : Written) : Type 0 where
  pub wrote : Wrote (flat_map (entry_bytes true) es) xs ys w.bytes
  pub total : w.corners ≡ total_corners es
  pub few : w.corners ≤ 4064
