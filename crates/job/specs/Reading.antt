-- What the reader's contracts speak of; nothing that a demand mentions. Reading gives the refusal, or the job as arrays of 32 entries, one array for
-- each field of a run.
-- Assumes nothing.
use Rattle.std.specs.Prelude.{Result, Ok, Err, ℕ, zero, suc, ◌+◌, ◌-◌, ◌*◌, ◌≡◌, List, [], ◌∷◌, map, ◌++◌, length, drop, replicate, set}
use Rattle.refusal.specs.Refusal.{refusal_place}
use Rattle.job.specs.Written.{no_run}
use Rattle.job.specs.Records.{record_of}
use Rattle.job.specs.Parse.{Parsed, accepted, refused, parse}
use Rattle.job.specs.declared.Run.{Run}
use Rattle.job.specs.declared.Job.{Job}
use Rattle.refusal.specs.declared.Refusal.{Refusal}
use Rattle.refusal.specs.declared.Refusal.TheVariants.{Cut, UnknownKind, Misplaced}
use Rattle.job.specs.declared.Record.{Record}
use Rattle.job.specs.declared.Record.TheVariants as rec

-- what a call says of a job: it is accepted, or the refusal
abbrev pub Answer : Type 0
Answer = Result (Unit {0}) Refusal

-- Document 01's place of an answer, by its cases: that of its refusal, and 0 where the job is accepted.
abbrev pub answer_place : Answer → ℕ
answer_place (Ok _) = 0
answer_place (Err x) = refusal_place x

-- a field of every run, and 0 after the last
abbrev pub column : (Run → ℕ) → List Run → List ℕ
column f runs = map f runs ++ replicate (32 - length runs) 0

-- the job with this number and these runs
abbrev pub job_of : ℕ → List Run → Job
job_of number runs =
    record {
      number = number;
      count = length runs;
      numbers = column (λ r. r.number) runs;
      x = record { first = column (λ r. r.x1) runs; second = column (λ r. r.x2) runs };
      y = record { first = column (λ r. r.y1) runs; second = column (λ r. r.y2) runs };
    }

-- the job with a run stored behind the others
abbrev pub with_run : Job → Run → Job
with_run j r =
    record {
      number = j.number;
      count = j.count + 1;
      numbers = set j.numbers j.count r.number;
      x = record { first = set j.x.first j.count r.x1; second = set j.x.second j.count r.x2 };
      y = record { first = set j.y.first j.count r.y1; second = set j.y.second j.count r.y2 };
    }

-- the place that the bytes say, 0 where they are accepted
abbrev pub place_said : Parsed → ℕ
place_said (accepted number runs) = 0
place_said (refused x) = refusal_place x

-- the job, or the refusal, that the bytes say
abbrev pub job_said : Parsed → Result Job Refusal
job_said (accepted number runs) = Ok (job_of number runs)
job_said (refused x) = Err x

-- reading gives the job that the bytes say, or the refusal
abbrev pub Reads : List ℕ → Result Job Refusal → Type 0
Reads s r = r ≡ job_said (parse s)

-- whether they are accepted, or the refusal
abbrev pub answer_said : Parsed → Answer
answer_said (accepted number runs) = Ok tt
answer_said (refused x) = Err x

-- the number in a head, or the refusal of a first record that is none
abbrev pub head_number : Record → Result ℕ Refusal
head_number rec.Unknown = Err (UnknownKind 0)
head_number rec.Cut = Err (Cut 0)
head_number (rec.Head number) = Ok number
head_number (rec.Run r) = Err (Misplaced 0)
head_number (rec.End count) = Err (Misplaced 0)

-- the run in a record
abbrev run_in : Record → Run
run_in (rec.Run r) = r
run_in (rec.Head number) = no_run
run_in (rec.End count) = no_run
run_in rec.Unknown = no_run
run_in rec.Cut = no_run

-- the first n runs of a job's bytes: run k stands at 5 + 19 * k
unfoldable pub runs_before : List ℕ → ℕ → List Run
runs_before s zero = []
runs_before s (suc n) = runs_before s n ++ (run_in (record_of (drop (5 + 19 * n) s)) ∷ [])

-- the job's five arrays are zeros, whatever its number and count
abbrev pub Blank : Job → Type 0
Blank j =
    (j.numbers ≡ replicate 32 0) × (j.x.first ≡ replicate 32 0) × (j.x.second ≡ replicate 32 0) × (j.y.first ≡ replicate 32 0) × (j.y.second ≡ replicate 32 0)

-- Reading into a job answers as the bytes say. The job has its first runs and zeros after them; where it is accepted, those are all its runs.
pub record ReadsInto (s : List ℕ) (r : Answer) (j : Job) : Type 0 where
  pub answer : r ≡ answer_said (parse s)
  pub held : j ≡ job_of j.number (runs_before s j.count)
  pub whole : r ≡ Ok tt → parse s ≡ accepted j.number (runs_before s j.count)
