-- A job written down as document 01's "Job book" says, and when a job is well formed: the description of acceptance that reads nothing.
-- Assumes nothing.
use Rattle.std.specs.Prelude.{ℕ, ◌/◌, ◌%◌, ◌^◌, ◌<◌, ◌≤◌, ◌≡◌, List, [], ◌∷◌, ◌++◌, length, get_or}
use Rattle.job.specs.Fields.{word_of}
use Rattle.job.specs.declared.Run.{Run}

-- a number in two bytes, and in four, little-endian
abbrev pub bytes2 : ℕ → List ℕ
bytes2 v = v % 256 ∷ v / 256 % 256 ∷ []

abbrev pub bytes4 : ℕ → List ℕ
bytes4 v = v % 256 ∷ v / 256 % 256 ∷ v / 65536 % 256 ∷ v / 16777216 % 256 ∷ []

-- a run record
abbrev pub run_bytes : Run → List ℕ
run_bytes r =
    0x52 ∷ bytes2 r.number ++ (bytes4 (word_of r.x1) ++ (bytes4 (word_of r.y1) ++ (bytes4 (word_of r.x2) ++ bytes4 (word_of r.y2))))

-- the run records of a job
unfoldable pub runs_bytes : List Run → List ℕ
runs_bytes [] = []
runs_bytes (r ∷ runs) = run_bytes r ++ runs_bytes runs

-- one head, then the runs, then one end
unfoldable pub bytes_of : (number : ℕ) → List Run → List ℕ
bytes_of number runs = (0x48 ∷ bytes4 number) ++ (runs_bytes runs ++ (0x5A ∷ bytes2 (length runs)))

-- every element is a byte (past the end of the list, `get_or` gives 0)
abbrev pub Bytes : List ℕ → Type 0
Bytes s = (i : ℕ) → get_or s i 0 < 256

-- what `get_or` gives past the last run
abbrev pub no_run : Run
no_run = record { number = 0; x1 = 0; y1 = 0; x2 = 0; y2 = 0 }

-- run numbers go from 1 to 9,999, coordinates from -1,000,000 to 1,000,000
pub record InRange (r : Run) : Type 0 where
  pub least : 1 ≤ r.number
  pub most : r.number ≤ 9999
  pub x1_in : r.x1 ≤ 2000000
  pub y1_in : r.y1 ≤ 2000000
  pub x2_in : r.x2 ≤ 2000000
  pub y2_in : r.y2 ≤ 2000000

-- "A run with both ends on one point" (document 02, C-18)
abbrev pub Coincide : Run → Type 0
Coincide r = (r.x1 ≡ r.x2) × (r.y1 ≡ r.y2)

-- the job number has 32 bits, there are at most 32 runs (none in a blank job: document 02, C-11), each in range and between two points, and their numbers rise
-- strictly
pub record WellFormed (number : ℕ) (runs : List Run) : Type 0 where
  pub fits : number < 2 ^ 32
  pub most : length runs ≤ 32
  pub in_range : (k : ℕ) → k < length runs → InRange (get_or runs k no_run)
  pub apart : (k : ℕ) → k < length runs → Coincide (get_or runs k no_run) → ⊥
  pub rising : (j k : ℕ) → j < k → k < length runs → (get_or runs j no_run).number < (get_or runs k no_run).number
