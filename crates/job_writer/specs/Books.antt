-- What is promised of the writer beside its contract (document 02, C-15).
use Rattle.std.specs.Prelude.{Ok, ℕ, ◌+◌, ◌*◌, ◌^◌, ◌<◌, ◌≤◌, ◌≡◌, ◌↔◌, ℤ, pos, length, take}
use mathlib.Core.List.{List, [], ◌∷◌, flat_map}
use Rattle.fields.specs.Bytes.{over}
use Rattle.job.specs.declared.Run.{Run}
use Rattle.job.specs.Fields.{decimetres}
use Rattle.job.specs.Written.{Bytes, WellFormed}
use Rattle.job.specs.Parse.{accepted, parse}
use Rattle.job_writer.specs.Call.{call_of}

-- the list of some runs: "five a run (number, first x, first y, second x, second y)"
abbrev pub five_of : Run → List ℤ
five_of r = pos r.number ∷ decimetres r.x1 ∷ decimetres r.y1 ∷ decimetres r.x2 ∷ decimetres r.y2 ∷ []

abbrev pub list_of : List Run → List ℤ
list_of runs = flat_map five_of runs

pub record JobBooks : Type 0 where
  -- "The reader gives the same job number and runs back"
  pub read_back : (number : ℕ) (list : List ℤ) (out : List ℕ) (n : ℕ) → number < 2 ^ 32 → (call_of number list out).says ≡ Ok n
      → (runs : List Run) × (parse (take n (call_of number list out).out) ≡ accepted number runs) × (list_of runs ≡ list)
  -- "any accepted job book is what the writer makes of its runs and job number"
  pub every_book : (s out : List ℕ) (number : ℕ) (runs : List Run) → Bytes s → parse s ≡ accepted number runs → length s ≤ length out
      → call_of number (list_of runs) out ≡ record { says = Ok (length s); out = over s out }
  -- a list is accepted exactly if its runs and the number are well formed and the buffer is long enough
  pub accepted_iff : (number : ℕ) (list : List ℤ) (out : List ℕ) → number < 2 ^ 32
      → ((n : ℕ) × ((call_of number list out).says ≡ Ok n))
      ↔ ((runs : List Run) × (list ≡ list_of runs) × WellFormed number runs × (8 + 19 * length runs ≤ length out))
