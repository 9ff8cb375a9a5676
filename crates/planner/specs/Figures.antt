-- What the plan of some routes of a job says: its head, and its entry for each run. Its corners are the routes' ends and turns.
use Rattle.std.specs.Prelude.{List, map, ℕ, get_or}
use Rattle.network.specs.Route.{Route}
use Rattle.network.specs.Corners.{corners}
use Rattle.job.specs.declared.Run.{Run as Read}
use Rattle.plan.specs.declared.Head.{Head}
use Rattle.plan.specs.Plan.{Entry, entries_from, head_of, meets_of, centre_figure}
use Rattle.planner.specs.Call.{runs_of, numbers_of}

abbrev pub plan_head : (number : ℕ) (runs : List Read) → List Route → Head
plan_head number runs routes = head_of number (runs_of runs) (map corners routes)

abbrev pub plan_entries : (runs : List Read) → List Route → List Entry
plan_entries runs routes = entries_from (λ i. get_or (numbers_of runs) i 0) (meets_of (runs_of runs)) (centre_figure (numbers_of runs) (runs_of runs)) 0 (map corners routes)
