-- What is listed of a job (01, Listing), by the verdict on it: the plan's text, line by line, or the refusal's.
use Rattle.std.specs.Prelude.{List, ℕ}
use Rattle.network.specs.Hanan.{hanan}
use Rattle.network.specs.Route.{Route, Least}
use Rattle.job.specs.declared.Run.{Run as Read}
use Rattle.job.specs.Parse.{Parsed, accepted, refused}
use Rattle.planner.specs.Call.{runs_of}
use Rattle.planner.specs.Figures.{plan_head, plan_entries}
use Rattle.text.specs.Text.{plan_text, refusal_text}
use Rattle.text.specs.Listed.{Listed}

-- A job is planned: there are least routes of its runs on its Hanan grid (the one thing that is left free), and the text is that of their plan.
pub record Lists (number : ℕ) (runs : List Read) (text text' : List ℕ) (n : ℕ) : Type 0 where
  pub routes : List Route
  pub least : Least (hanan (runs_of runs)) (runs_of runs) routes
  pub listed : Listed (plan_text (plan_head number runs routes) (plan_entries runs routes)) text text' n

-- by the verdict, from the text buffer at entry to the buffer at exit and to the number of bytes written; `Listed`: as much of the text as there is room
-- for stands in the first n bytes, and later bytes are untouched
abbrev pub Reported : Parsed → (text text' : List ℕ) → ℕ → Type 0
Reported (accepted number runs) text text' n = Lists number runs text text' n
Reported (refused x) text text' n = Listed (refusal_text x) text text' n
