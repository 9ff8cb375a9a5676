-- The routes of several runs, whose steps stand in one list of bytes and whose ends stand in tables.
use Rattle.std.specs.Prelude.{List, [], ◌∷◌, ℕ, ◌+◌, ◌*◌, ◌≤◌, length, get_or, drop, leb}
use Rattle.network.specs.Lists.{All, each}
use Rattle.network.specs.Plane.{gap}
use Rattle.route.specs.declared.Track.{Track}
use Rattle.route.specs.declared.Routes.{Routes}
use Rattle.route.specs.Route.{Route, route_by, OnGrid, numbered}

-- the track from (x1, y1) to (x2, y2)
abbrev pub track_of : (x1 y1 x2 y2 : ℕ) → Track
track_of x1 y1 x2 y2 = record { count = gap x1 x2 + gap y1 y2; start = record { column = x1; row = y1 }; right = leb x1 x2; up = leb y1 y2 }

-- track k of tables of the ends
abbrev pub tracks_of : (x1 y1 x2 y2 : List ℕ) → ℕ → Track
tracks_of x1 y1 x2 y2 k = track_of (get_or x1 k 0) (get_or y1 k 0) (get_or x2 k 0) (get_or y2 k 0)

-- the first `count` routes: the steps of route k stand from k * stride on
unfoldable pub routes_in : (steps : List ℕ) (stride : ℕ) (tracks : ℕ → Track) (count : ℕ) → List Route
routes_in steps stride tracks count = each count (λ k. route_by (drop (k * stride) steps) (tracks k) ∷ [])

-- at most 32 routes, on at most 64 columns and 64 rows
pub record Stored (steps : List ℕ) (stride : ℕ) (tracks : ℕ → Track) (count : ℕ) : Type 0 where
  pub few : count ≤ 32
  pub room : count * stride ≤ length steps
  pub on_grid : All (OnGrid numbered) (routes_in steps stride tracks count)

-- ---- held in a struct

-- the tracks
abbrev pub tracks_in : Routes → ℕ → Track
tracks_in r = tracks_of r.x.now.first r.y.now.first r.x.now.second r.y.now.second

-- route k
abbrev pub route_of : Routes → ℕ → Route
route_of r k = route_by (drop (k * r.stride) r.steps.now) (tracks_in r k)

-- all routes
abbrev pub routes_of : Routes → List Route
routes_of r = routes_in r.steps.now r.stride (tracks_in r) r.count

-- they are on the grid, and have room
abbrev pub AreStored : Routes → Type 0
AreStored r = Stored r.steps.now r.stride (tracks_in r) r.count
