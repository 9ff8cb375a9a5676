-- Reading a job, as the contracts cite it: one head, then the runs, then one end, and no byte after it; the tests of a record are made in the
-- order 4, 3, 5, 9, 7, 8, 17, 6. What it comes to is said without reading in `Written` (by `accepted_iff`), `Applies` and `Order` (by
-- `first_applies` and `none_applies`).
-- Assumes nothing.
use Rattle.std.specs.Prelude.{Option, Some, None, Result, Ok, Err, ℕ, zero, suc, ◌+◌, List, [], ◌∷◌, Bool, cond, not, ◌&&◌, length, drop, leb, ltb, eqb}
use Rattle.job.specs.Records.{record_of}
use Rattle.job.specs.declared.Run.{Run}
use Rattle.job.specs.declared.Record.{Record}
use Rattle.job.specs.declared.Record.TheVariants as rec
use Rattle.refusal.specs.declared.Refusal.{Refusal}
use Rattle.refusal.specs.declared.Refusal.TheVariants.{Cut, UnknownKind, Misplaced, WrongCount, WrongNumber, OutOfRange, TooManyRuns, Coincident}

-- a job with its number and its runs in order, or the refusal
pub data Parsed : Type 0 where
  accepted : (number : ℕ) (runs : List Run) → Parsed
  refused : Refusal → Parsed

-- a run number is from 1 to 9,999 and above the one before, 0 standing for none
abbrev pub follows : (last number : ℕ) → Bool
follows last number = leb 1 number && leb number 9999 && ltb last number

-- the four coordinates lie in their range
abbrev pub coordinates_in : Run → Bool
coordinates_in r = leb r.x1 2000000 && leb r.y1 2000000 && leb r.x2 2000000 && leb r.y2 2000000

-- the two points are one
abbrev pub coincide : Run → Bool
coincide r = eqb r.x1 r.x2 && eqb r.y1 r.y2

-- what a record after the head says: one more run, none at the end of the job, or a refusal
abbrev pub Step : Type 0
Step = Result (Option Run) Refusal

-- A record after the head: `at` is the place of its kind byte, `n` the number of runs before it, `last` the number of the last of them
-- (0 where there is none), and `bytes` what stands from its kind byte on.

-- a run: 9, then 7, then 8, then 17
unfoldable pub run_step : (at n last : ℕ) → Run → Step
run_step at n last r =
    cond (leb 32 n) (Err (TooManyRuns at))
    (cond (not (follows last r.number)) (Err (WrongNumber at))
    (cond (not (coordinates_in r)) (Err (OutOfRange at))
    (cond (coincide r) (Err (Coincident at)) (Ok (Some r)))))

-- an end: 6; then 5 for a byte after it, at that byte
unfoldable pub end_step : (at n count : ℕ) → List ℕ → Step
end_step at n count bytes =
    cond (not (eqb count n)) (Err (WrongCount at))
    (cond (ltb 3 (length bytes)) (Err (Misplaced (at + 3))) (Ok None))

-- any record: 4, then 3, then 5, then what its kind asks
unfoldable pub step_by : (at n last : ℕ) → List ℕ → Record → Step
step_by at n last bytes rec.Unknown = Err (UnknownKind at)
step_by at n last bytes rec.Cut = Err (Cut at)
step_by at n last bytes (rec.Head number) = Err (Misplaced at)
step_by at n last bytes (rec.Run r) = run_step at n last r
step_by at n last bytes (rec.End count) = end_step at n count bytes

-- the record that stands there
abbrev pub step_of : (at n last : ℕ) → List ℕ → Step
step_of at n last bytes = step_by at n last bytes (record_of bytes)

-- one more run in front of those that a job has
abbrev pub with_first : Run → Parsed → Parsed
with_first r (accepted number runs) = accepted number (r ∷ runs)
with_first r (refused x) = refused x

-- what a step makes of the job with this number, given what the records after a run say
abbrev pub proceed : ℕ → (Run → Parsed) → Step → Parsed
proceed number later (Ok (Some r)) = with_first r (later r)
proceed number later (Ok None) = accepted number []
proceed number later (Err x) = refused x

-- The records from a place on, at most so many of them. A 33rd run is refused, so 33 are enough.
unfoldable pub read_from : (records : ℕ) → (number at n last : ℕ) → List ℕ → Parsed
read_from zero number at n last bytes = refused (TooManyRuns at)
read_from (suc records) number at n last bytes =
    proceed number (λ r. read_from records number (at + 19) (suc n) r.number (drop 19 bytes)) (step_of at n last bytes)

-- the first record, 4, then 3, then 5, with the bytes after a head
unfoldable pub first_by : Record → List ℕ → Parsed
first_by rec.Unknown bytes = refused (UnknownKind 0)
first_by rec.Cut bytes = refused (Cut 0)
first_by (rec.Head number) bytes = read_from 33 number 5 0 0 bytes
first_by (rec.Run r) bytes = refused (Misplaced 0)
first_by (rec.End count) bytes = refused (Misplaced 0)

-- what the bytes of a job say
unfoldable pub parse : List ℕ → Parsed
parse s = first_by (record_of s) (drop 5 s)
