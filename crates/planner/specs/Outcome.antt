-- The contracts of the planner's entry points: by the verdict, from the plan buffer at entry to what is said and to the buffer at exit.
use Rattle.std.specs.Prelude.{◌≡◌, List, ℕ, ℤ, length}
use Rattle.refusal.specs.declared.Refusal.{Refusal}
use Rattle.refusal.specs.Refusal.{refusal_number, refusal_place}
use Rattle.job.specs.Parse.{Parsed, accepted, refused}
use Rattle.planner.specs.Call.{Said, refuses, code_of, Plans}
use Rattle.planner.specs.Verdict.{forecast_of, Words, verdict}

pub record Refuses (x : Refusal) (out : List ℕ) (s : Said) (out' : List ℕ) : Type 0 where
  pub says : s ≡ refuses (refusal_number x) (refusal_place x)
  pub plan_kept : out' ≡ out

abbrev pub Outcome : Parsed → (out : List ℕ) → Said → (out' : List ℕ) → Type 0
Outcome (accepted number runs) out s out' = Plans number runs out s out'
Outcome (refused x) out s out' = Refuses x out s out'

-- The map screen's function "is lent job bytes and plan buffer only, brings its own sheet, and returns the plan's length, or minus the refusal number".
pub record MapOutcome (v : Parsed) (out : List ℕ) (code : ℤ) (out' : List ℕ) : Type 0 where
  pub said : Said
  pub told : code ≡ code_of said
  pub outcome : Outcome v out said out'

-- Its sister, which is lent the sheet too, returns the same, and leaves the words as `plan` does.
pub record LentOutcome (job work out : List ℕ) (code : ℤ) (work' out' : List ℕ) : Type 0 where
  pub map_outcome : MapOutcome (verdict job (length work) (length out)) out code out'
  pub words : Words (forecast_of job) map_outcome.said work work'
