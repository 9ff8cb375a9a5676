-- True books: "A book is true when its routes are Manhattan paths of the job's runs on the job's grid, from first point to second, trench, saved and pits are
-- those of its routes, and meets, groups and centres are those of the job" (02, C-17). These are the definitions that a plan of ours is written with.
use Rattle.std.specs.Prelude.{◌≡◌, List, map, ℕ, get_or}
use Rattle.network.specs.Hanan.{hanan}
use Rattle.network.specs.Route.{Route, Routes}
use Rattle.job.specs.declared.Run.{Run as Read}
use Rattle.plan.specs.declared.Head.{Head}
use Rattle.plan.specs.Plan.{Entry, entries_from, head_of, meets_of, centre_figure}
use Rattle.planner.specs.Call.{runs_of, numbers_of}

-- the routes that the corners of a book's entries draw
abbrev pub drawn_in : List Entry → List Route
drawn_in es = map (λ e. e.corners) es

-- A book's head and entries are true for the job with this number and these runs. The head is of the newer kinds, and carries the job's number and run count;
-- the entries carry the job's run numbers in order.
pub record True (number : ℕ) (runs : List Read) (h : Head) (es : List Entry) : Type 0 where
  pub routes : Routes (hanan (runs_of runs)) (runs_of runs) (drawn_in es)
  pub head : h ≡ head_of number (runs_of runs) (drawn_in es)
  pub entries : es ≡ entries_from (λ i. get_or (numbers_of runs) i 0) (meets_of (runs_of runs)) (centre_figure (numbers_of runs) (runs_of runs)) 0 (drawn_in es)
