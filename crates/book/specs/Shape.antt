-- What the contracts between speak of, and nothing that a law mentions: the shape of a book, which is what its records say before the counts are compared.
-- Assumes nothing.
use Rattle.std.specs.Prelude.{ℕ, ◌+◌, ◌*◌, ◌≡◌, List, length, drop, Option, Some, None, Result, Ok, Err}
use Rattle.refusal.specs.declared.Refusal.{Refusal}
use Rattle.refusal.specs.declared.Refusal.TheVariants.{NotWhole}
use Rattle.plan.specs.declared.Head.{Head}
use Rattle.records.specs.declared.Record.{Record}
use Rattle.records.specs.declared.Record.TheVariants as rec
use Rattle.records.specs.Records.{record_of}
use Rattle.book.specs.declared.Corner.{Corner}
use Rattle.book.specs.declared.Route.{Route}
use Rattle.book.specs.declared.Walk.{Walk}
use Rattle.book.specs.declared.Step.{Step}
use Rattle.book.specs.declared.Step.TheVariants as step
use Rattle.book.specs.declared.Run.{Run}
use Rattle.book.specs.Parse.{passed, step_of, Rest, rest, stopped, entries_of, rest_of}
use Rattle.book.specs.Reading.{places, padded}

-- a head with whole records behind it: how many routes, the end's total, and where each route and the end stand; or the first of the refusals 12, 8 and 13
pub data Shape : Type 0 where
  whole : Head → (count total : ℕ) (places : List ℕ) → Shape
  broken : Refusal → Shape

-- by the first record and the records behind it; the routes stand behind the corners that are left of the route at hand
unfoldable pub shape_by : Record → Rest → Shape
shape_by (rec.Head h) (rest cs ts total) = whole h (length ts) total (padded (places h.grouped (19 + 9 * length cs) (entries_of ts)))
shape_by (rec.Head h) (stopped x) = broken x
shape_by (rec.Route grouped number meets said centre) k = broken (NotWhole 0)
shape_by (rec.Corner x y) k = broken (NotWhole 0)
shape_by (rec.End total) k = broken (NotWhole 0)
shape_by rec.Other k = broken (NotWhole 0)

unfoldable pub shape_of : List ℕ → Shape
shape_of book = shape_by (record_of book) (rest_of book)

-- from a place on, with what is known there, corners are taken up to another place
pub data Passes (s : List ℕ) (at : ℕ) (w : Walk) : (to : ℕ) → Walk → Type 0 where
  none : Passes s at w at w
  more : (to : ℕ) (v : Walk) (c : Corner) → Passes s at w to v → step_of to v (drop to s) ≡ Ok (step.Corner c) → Passes s at w (to + 9) (passed v c)

-- a step that takes no corner: a route, or the end with its total
abbrev pub Stops : Result Step Refusal → Option ℕ → Type 0
Stops st None = (r : Route) × (st ≡ Ok (step.Route r))
Stops st (Some total) = st ≡ Ok (step.End total)

-- the corners that are taken, and what stands behind them
pub record Runs (s : List ℕ) (at : ℕ) (w : Walk) (r : Run) : Type 0 where
  pub passes : Passes s at w r.at r.walk
  pub stops : Stops (step_of r.at r.walk (drop r.at s)) r.end

-- or the record behind them is refused
pub record Breaks (s : List ℕ) (at : ℕ) (w : Walk) (x : Refusal) : Type 0 where
  pub to : ℕ
  pub walk : Walk
  pub passes : Passes s at w to walk
  pub refused : step_of to walk (drop to s) ≡ Err x
