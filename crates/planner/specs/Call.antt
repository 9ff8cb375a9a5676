-- What a call says and leaves (document 01): "An accepted call gives the plan's length; the plan fills that many first bytes, later bytes are untouched; ..
-- A refused call gives a number and a place and changes no byte or word." (What is left of the work words: `WordsLeft` of `Demands`.)
use Rattle.std.specs.Prelude.{◌≡◌, List, ◌++◌, map, ℕ, ℤ, pos, neg_ℤ, length, drop, Result, Ok, Err}
use Rattle.network.specs.Plane.{Run, ◌to◌}
use Rattle.network.specs.Hanan.{hanan}
use Rattle.network.specs.Route.{Route, Least}
use Rattle.job.specs.declared.Run.{Run as Read}
use Rattle.refusal.specs.declared.Refusal.{Refusal}
use Rattle.refusal.specs.Refusal.{refusal_number, refusal_place}
use Rattle.plan.specs.Plan.{plan_bytes}

-- ---- a job's runs in the plane, their numbers, and the plan of some routes of theirs

abbrev pub run_of : Read → Run
run_of r = record { x = r.x1; y = r.y1 } to record { x = r.x2; y = r.y2 }

abbrev pub runs_of : List Read → List Run
runs_of runs = map run_of runs

abbrev pub numbers_of : List Read → List ℕ
numbers_of runs = map (λ r. r.number) runs

abbrev pub plan_of : (number : ℕ) (runs : List Read) → List Route → List ℕ
plan_of number runs routes = plan_bytes number (numbers_of runs) (runs_of runs) routes

-- ---- what an answer says

-- a plan's length, or a refusal's number and place
pub data Said : Type 0 where
  gives : (length : ℕ) → Said
  refuses : (number place : ℕ) → Said

-- by the cases of the planner's answer
abbrev pub said : Result ℕ Refusal → Said
said (Ok n) = gives n
said (Err x) = refuses (refusal_number x) (refusal_place x)

-- what the map screen is told: "the plan's length, or minus the refusal number"
abbrev pub code_of : Said → ℤ
code_of (gives n) = pos n
code_of (refuses number place) = neg_ℤ (pos number)

-- ---- what a call leaves

-- From the plan buffer `out` to `out'`: there are least routes of the runs on their Hanan grid (the one thing that is left free), their plan fills the
-- first bytes, its length is given, and later bytes stay.
pub record Plans (number : ℕ) (runs : List Read) (out : List ℕ) (s : Said) (out' : List ℕ) : Type 0 where
  pub routes : List Route
  pub least : Least (hanan (runs_of runs)) (runs_of runs) routes
  pub says : s ≡ gives (length (plan_of number runs routes))
  pub plan : out' ≡ plan_of number runs routes ++ drop (length (plan_of number runs routes)) out
