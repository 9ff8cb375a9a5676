-- What reading a plan book gives, and the queries: "a written plan's figures, each route by index and each corner by its index in its route (none past the
-- last)" (document 02, C-12).
-- Assumes nothing.
use Rattle.std.specs.Prelude.{Bool, cond, ◌&&◌, List, [], ◌∷◌, ◌++◌, ℕ, zero, suc, ◌+◌, ◌-◌, ◌*◌, ltb, length, get_or, drop, replicate, Option, Some, None, Result, Ok, Err}
use Rattle.std.specs.Int.{w32}
use Rattle.std.proofs.Common.{to_z}
use Rattle.network.specs.Plane.{Point}
use Rattle.job.specs.Fields.{decimetres}
use Rattle.plan.specs.declared.Head.{Head}
use Rattle.plan.specs.Records.{route_size}
use Rattle.plan.specs.Plan.{Entry}
use Rattle.records.specs.declared.Record.{Record}
use Rattle.records.specs.declared.Record.TheVariants as rec
use Rattle.records.specs.Records.{record_of}
use Rattle.refusal.specs.declared.Refusal.{Refusal}
use Rattle.book.specs.declared.Reading.{Reading}
use Rattle.book.specs.declared.Route.{Route}
use Rattle.book.specs.declared.Spot.{Spot}
use Rattle.book.specs.Parse.{is_grouped, behind, Parsed, accepted, refused}

-- ---- the queries, of what was read

-- the figures; a book that is refused has none
abbrev pub figures_of : Parsed → Option Head
figures_of (accepted h es) = Some h
figures_of (refused x) = None

-- route i: its run number, its meets figure, how many corners it has, and the run number of its group's centre
abbrev pub route_in : List Entry → ℕ → Option Route
route_in [] i = None
route_in (e ∷ es) zero = Some (record { number = e.number; meets = e.meets; corners = length e.corners; centre = e.centre })
route_in (e ∷ es) (suc i) = route_in es i

abbrev pub route_of : Parsed → ℕ → Option Route
route_of (accepted h es) i = route_in es i
route_of (refused x) i = None

-- the corner with an index among some corners, in decimetres
abbrev pub spot_in : List Point → ℕ → Option Spot
spot_in [] j = None
spot_in (p ∷ ps) zero = Some (record { x = decimetres p.x; y = decimetres p.y })
spot_in (p ∷ ps) (suc j) = spot_in ps j

-- corner j of route i
abbrev pub corner_in : List Entry → (i j : ℕ) → Option Spot
corner_in [] i j = None
corner_in (e ∷ es) zero j = spot_in e.corners j
corner_in (e ∷ es) (suc i) j = corner_in es i j

abbrev pub corner_of : Parsed → (i j : ℕ) → Option Spot
corner_of (accepted h es) i j = corner_in es i j
corner_of (refused x) i j = None

-- ---- what reading gives, by value

-- the places of routes, the first of which stands at a place, and of the end behind them
abbrev pub places : (grouped : Bool) (at : ℕ) → List Entry → List ℕ
places grouped at [] = at ∷ []
places grouped at (e ∷ es) = at ∷ places grouped (behind grouped at e) es

-- 33 of them, 0 after the last
abbrev pub padded : List ℕ → List ℕ
padded l = l ++ replicate (33 - length l) 0

-- the places of a book; a book that is refused has none
abbrev pub places_of : Parsed → List ℕ
places_of (accepted h es) = padded (places h.grouped 19 es)
places_of (refused x) = padded []

-- the head and the places, or the refusal
unfoldable pub reading_of : Parsed → Result Reading Refusal
reading_of (accepted h es) = Ok (record { head = h; places = places_of (accepted h es) })
reading_of (refused x) = Err x

-- ---- the queries by places: for any book and any list of places, also of another book
-- Where they are the book's own, these are the queries above (`route_by_places`, `corner_by_places`).

-- a record that is a route
abbrev pub as_route : Record → Option Route
as_route (rec.Route grouped number meets corners centre) = Some (record { number = number; meets = meets; corners = corners; centre = centre })
as_route (rec.Head h) = None
as_route (rec.Corner x y) = None
as_route (rec.End total) = None
as_route rec.Other = None

-- the record at the place of route i, if the next place is behind it; a place after the last is 0
abbrev pub route_by : (book places : List ℕ) (i : ℕ) → Option Route
route_by book places i =
    cond (ltb (get_or places i 0) (get_or places (i + 1) 0)) (as_route (record_of (drop (get_or places i 0) book))) None

-- a record that is a corner, its words read as two's complement
abbrev pub as_spot : Record → Option Spot
as_spot (rec.Corner x y) = Some (record { x = to_z w32 x; y = to_z w32 y })
as_spot (rec.Head h) = None
as_spot (rec.Route grouped number meets corners centre) = None
as_spot (rec.End total) = None
as_spot rec.Other = None

-- the place of corner j of the route at a place
abbrev pub corner_place : (grouped : Bool) (at j : ℕ) → ℕ
corner_place grouped at j = at + route_size grouped + 9 * j

-- the record at the place of corner j of route i, if the next route's place is behind it; no route has a corner 127
abbrev pub corner_by : (book places : List ℕ) (i j : ℕ) → Option Spot
corner_by book places i j =
    cond (ltb j 127 && ltb (corner_place (is_grouped book) (get_or places i 0) j) (get_or places (i + 1) 0))
    (as_spot (record_of (drop (corner_place (is_grouped book) (get_or places i 0) j) book))) None
