-- A plan that is stored, and read by the reader of plan books (document 02, C-12).
use Rattle.std.specs.Prelude.{◌≡◌, List, ℕ}
use Rattle.network.specs.Hanan.{hanan}
use Rattle.network.specs.Route.{Route, Least}
use Rattle.job.specs.declared.Run.{Run as Read}
use Rattle.book.specs.Parse.{accepted as read_as, parse_plan}
use Rattle.planner.specs.Call.{runs_of}
use Rattle.planner.specs.Figures.{plan_head, plan_entries}

-- The reader accepts the book, and what it reads is the plan of least routes of the job: its head, and its entry for each run.
pub record ReadBack (number : ℕ) (runs : List Read) (book : List ℕ) : Type 0 where
  pub routes : List Route
  pub least : Least (hanan (runs_of runs)) (runs_of runs) routes
  pub read : parse_plan book ≡ read_as (plan_head number runs routes) (plan_entries runs routes)
