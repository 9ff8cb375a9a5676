-- The runs of a job that is held in arrays, one for each field of a run.
use Rattle.std.specs.Prelude.{◌≡◌, List, ℕ, get_or}
use Rattle.job.specs.declared.Run.{Run as Read}
use Rattle.job.specs.declared.Job.{Job}
use Rattle.job.specs.Reading.{job_of}
use Rattle.job.specs.Written.{WellFormed}
use Rattle.grid.specs.Tables.{table}

-- run k
abbrev pub run_in : Job → ℕ → Read
run_in j k =
    record {
      number = get_or j.numbers k 0;
      x1 = get_or j.x.first k 0;
      y1 = get_or j.y.first k 0;
      x2 = get_or j.x.second k 0;
      y2 = get_or j.y.second k 0;
    }

-- all runs, in their order
unfoldable pub runs_in : Job → List Read
runs_in j = table (run_in j) j.count

-- The job is well formed, and its arrays have its runs and nothing else.
pub record Held (j : Job) : Type 0 where
  pub held : j ≡ job_of j.number (runs_in j)
  pub well_formed : WellFormed j.number (runs_in j)
