-- Reading a plan book (document 02, C-12): "Records are checked front to back; counts are compared only after the last record, in the book's order." It "takes
-- either set of kinds; a book with both is refused with 12" (C-16). Which books are accepted, and as what, `Right` says without reading (by `accepted_iff`).
-- Assumes nothing.
use Rattle.std.specs.Prelude.{Bool, false, cond, not, ◌&&◌, ◌||◌, List, [], ◌∷◌, map, ℕ, zero, suc, ◌+◌, ◌*◌, leb, ltb, eqb, length, get_or, drop, Result, Ok, Err}
use Rattle.network.specs.Plane.{Point}
use Rattle.refusal.specs.declared.Refusal.{Refusal}
use Rattle.refusal.specs.declared.Refusal.TheVariants.{OutOfRange, NotWhole, NoTurn, Miscounted}
use Rattle.job.specs.Fields.{biased_of}
use Rattle.plan.specs.declared.Head.{Head}
use Rattle.plan.specs.Records.{route_size}
use Rattle.plan.specs.Plan.{Entry, total_corners}
use Rattle.records.specs.declared.Record.{Record}
use Rattle.records.specs.declared.Record.TheVariants as rec
use Rattle.records.specs.Records.{record_of}
use Rattle.book.specs.declared.Corner.{Corner}
use Rattle.book.specs.declared.Route.{Route}
use Rattle.book.specs.declared.Walk.{Walk}
use Rattle.book.specs.declared.Step.{Step}
use Rattle.book.specs.declared.Step.TheVariants as step

-- what the bytes of a plan book say: its head and its entries, or the refusal
pub data Parsed : Type 0 where
  accepted : Head → List Entry → Parsed
  refused : Refusal → Parsed

-- ---- one record

-- a corner's coordinates are held with 1,000,000 added to them
abbrev pub point_of : Corner → Point
point_of c = record { x = c.x; y = c.y }

-- What is known where a record is looked at: the set of kinds, the routes begun, the corners of the last of them, the last of these corners, and whether the
-- one before it is on its column; if not, it is on its row.
abbrev pub start : (grouped : Bool) → Walk
start grouped = record { grouped = grouped; routes = 0; corners = 0; last = record { x = 0; y = 0 }; upright = false }

-- one more route
abbrev pub begun : Walk → Walk
begun w = record { grouped = w.grouped; routes = w.routes + 1; corners = 0; last = w.last; upright = false }

-- one more corner of the route
abbrev pub passed : Walk → Corner → Walk
passed w c =
    record { grouped = w.grouped; routes = w.routes; corners = w.corners + 1; last = c; upright = eqb w.last.x c.x }

-- 8: a corner's coordinate outside its range
abbrev pub in_range : Corner → Bool
in_range c = leb c.x 2000000 && leb c.y 2000000

-- 13: "a corner equal to the one before it in its route, or sharing neither its x nor its y, or on one row or column with both of the two before it"
abbrev pub no_turn : Walk → Corner → Bool
no_turn w c =
    let same_x = eqb w.last.x c.x in
    let same_y = eqb w.last.y c.y in
    leb 1 w.corners && (same_x && same_y || not same_x && not same_y) || leb 2 w.corners && (w.upright && same_x || not w.upright && same_y)

-- "Within a record the order is 12, 8, 13": a corner before any route and "a 128th corner of one route" are 12
unfoldable pub corner_step : (at : ℕ) → Walk → Corner → Result Step Refusal
corner_step at w c =
    cond (eqb w.routes 0 || leb 127 w.corners) (Err (NotWhole at))
    (cond (not (in_range c)) (Err (OutOfRange at))
    (cond (no_turn w c) (Err (NoTurn at)) (Ok (step.Corner c))))

-- 12: "a book with both" sets of kinds
abbrev pub mixed : Bool → Bool → Bool
mixed a b = a && not b || not a && b

-- The record that stands at a place, with so many bytes from there on. 12: "bytes that are not whole records in the order head, routes with their corners,
-- end" (no whole record of a kind, or a second head), a route of the other set, "a 33rd route", and at its own place "a byte after the end".
unfoldable pub step_by : (at : ℕ) → Walk → (left : ℕ) → Record → Result Step Refusal
step_by at w left (rec.Head h) = Err (NotWhole at)
step_by at w left (rec.Route grouped number meets corners centre) =
    cond (mixed grouped w.grouped || leb 32 w.routes) (Err (NotWhole at)) (Ok (step.Route (record { number = number; meets = meets; corners = corners; centre = centre })))
step_by at w left (rec.Corner x y) = corner_step at w (record { x = biased_of x; y = biased_of y })
step_by at w left (rec.End total) = cond (ltb 3 left) (Err (NotWhole (at + 3))) (Ok (step.End total))
step_by at w left rec.Other = Err (NotWhole at)

abbrev pub step_of : (at : ℕ) → Walk → List ℕ → Result Step Refusal
step_of at w bytes = step_by at w (length bytes) (record_of bytes)

-- ---- all records

-- a route as read: what it says, and the corners that stand behind it
pub record Told : Type 0 where
  pub said : ℕ
  pub entry : Entry

abbrev pub told : Route → List Point → Told
told r cs = record { said = r.corners; entry = record { number = r.number; meets = r.meets; centre = r.centre; corners = cs } }

-- the rest of a book: the corners that are left of the route at hand, the routes behind it, and the end's total
pub data Rest : Type 0 where
  rest : List Point → List Told → ℕ → Rest
  stopped : Refusal → Rest

abbrev pub with_corner : Corner → Rest → Rest
with_corner c (rest cs ts total) = rest (point_of c ∷ cs) ts total
with_corner c (stopped x) = stopped x

abbrev pub with_route : Route → Rest → Rest
with_route r (rest cs ts total) = rest [] (told r cs ∷ ts) total
with_route r (stopped x) = stopped x

abbrev pub proceed : (later : ℕ → Walk → List ℕ → Rest) → (at : ℕ) → Walk → List ℕ → Result Step Refusal → Rest
proceed later at w bytes (Ok (step.Route r)) = with_route r (later (at + route_size w.grouped) (begun w) (drop (route_size w.grouped) bytes))
proceed later at w bytes (Ok (step.Corner c)) = with_corner c (later (at + 9) (passed w c) (drop 9 bytes))
proceed later at w bytes (Ok (step.End total)) = rest [] [] total
proceed later at w bytes (Err x) = stopped x

-- the records from a place on, at most so many of them
unfoldable pub rest_from : (records : ℕ) → (at : ℕ) → Walk → List ℕ → Rest
rest_from zero at w bytes = stopped (NotWhole at)
rest_from (suc records) at w bytes = proceed (rest_from records) at w bytes (step_of at w bytes)

-- a book that begins with 0x51, the newer kind of a head
abbrev pub is_grouped : List ℕ → Bool
is_grouped book = eqb (get_or book 0 0) 0x51

-- the records behind the head; there are no more of them than bytes
abbrev pub rest_of : List ℕ → Rest
rest_of book = rest_from (suc (length book)) 19 (start (is_grouped book)) (drop 19 book)

-- ---- counts

abbrev pub entries_of : List Told → List Entry
entries_of ts = map (λ t. t.entry) ts

-- where the record behind a route at this place and its corners stands
abbrev pub behind : (grouped : Bool) (at : ℕ) → Entry → ℕ
behind grouped at e = at + route_size grouped + 9 * length e.corners

-- 14: "a route's corners .. that differs from what it counts, or a route with no corner"
abbrev pub miscounted : Told → Bool
miscounted t = eqb (length t.entry.corners) 0 || not (eqb t.said (length t.entry.corners))

-- the counts of the routes, the first of which stands at a place, and then what is left to compare, at the end's place
unfoldable pub counted : (grouped : Bool) (at : ℕ) → List Told → (ending : ℕ → Parsed) → Parsed
counted grouped at [] ending = ending at
counted grouped at (t ∷ ts) ending = cond (miscounted t) (refused (Miscounted at)) (counted grouped (behind grouped at t.entry) ts ending)

-- "counts are compared .. in the book's order": 14 for "a head's runs", at the head; for the routes, each at its own place; for "an end's total", at the end
unfoldable pub agreed : Head → List Told → (total : ℕ) → Parsed
agreed h ts total =
    cond (not (eqb h.runs (length ts))) (refused (Miscounted 0))
    (counted h.grouped 19 ts (λ end. cond (not (eqb total (total_corners (entries_of ts)))) (refused (Miscounted end)) (accepted h (entries_of ts))))

-- ---- the book

-- by the first record, which is a head, and the records behind it
unfoldable pub parse_by : Record → Rest → Parsed
parse_by (rec.Head h) (rest cs ts total) = agreed h ts total
parse_by (rec.Head h) (stopped x) = refused x
parse_by (rec.Route grouped number meets said centre) k = refused (NotWhole 0)
parse_by (rec.Corner x y) k = refused (NotWhole 0)
parse_by (rec.End total) k = refused (NotWhole 0)
parse_by rec.Other k = refused (NotWhole 0)

-- what the bytes of a plan book say
unfoldable pub parse_plan : List ℕ → Parsed
parse_plan book = parse_by (record_of book) (rest_of book)
