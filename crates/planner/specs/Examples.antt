-- The surveyed examples of document 01 as one table with what each row says, a blank job, and one in which cables cross; the job of the listing, and every
-- blank job, with the one plan that it has. Coordinates are in decimetres, and runs are numbered 1, 2, 3, as written there.
use Rattle.std.specs.Prelude.{◌≡◌, true, List, [], ◌∷◌, map, ℕ, suc, ◌+◌, ◌^◌, ◌≤◌, ◌<◌}
use Rattle.network.specs.Plane.{Point, Run, ◌to◌}
use Rattle.network.specs.Hanan.{hanan}
use Rattle.network.specs.Route.{Route, Least}
use Rattle.network.specs.Corners.{corners}
use Rattle.job.specs.declared.Run.{Run as Read}
use Rattle.refusal.specs.declared.Refusal.{Refusal}
use Rattle.refusal.specs.declared.Refusal.TheVariants.{NoStar, Coincident}
use Rattle.job.specs.Parse.{accepted, refused}
use Rattle.job.specs.Written.{bytes_of}
use Rattle.plan.specs.declared.Head.{Head}
use Rattle.plan.specs.Plan.{Entry, book_bytes}
use Rattle.planner.specs.Verdict.{verdict}
use Rattle.planner.specs.Call.{runs_of, plan_of}
use Rattle.planner.specs.Forecast.{words_for, bytes_for}
use Rattle.planner.specs.Figures.{plan_head, plan_entries}

-- ---- jobs as written

-- the point (a, b)
abbrev point : ℕ → ℕ → Point
point a b = record { x = 1000000 + a; y = 1000000 + b }

-- the run from (a, b) to (c, d)
abbrev run : ℕ → ℕ → ℕ → ℕ → Run
run a b c d = point a b to point c d

-- runs that are numbered from n on
abbrev numbered_from : ℕ → List Run → List Read
numbered_from n [] = []
numbered_from n (r ∷ runs) =
    record { number = n; x1 = r.first.x; y1 = r.first.y; x2 = r.second.x; y2 = r.second.y } ∷ numbered_from (suc n) runs

-- ---- the table

-- its refusal; or the figures of its plans, with pits where they are given
pub data Figures : Type 0 where
  refused_with : Refusal → Figures
  figures : (trench saved : ℕ) → Figures
  figures_pits : (trench saved pits : ℕ) → Figures

pub record Example : Type 0 where
  pub runs : List Read
  pub outcome : Figures

infix 20 ◌gives◌
abbrev ◌gives◌ : List Run → Figures → Example
runs gives outcome = record { runs = numbered_from 1 runs; outcome = outcome }

abbrev pub examples : List Example
examples =
    -- document 02, C-18: "Row 1 of the examples changes to this refusal"
    ((run 5 5 5 5 ∷ []) gives refused_with (Coincident 5))
    ∷ ((run 0 0 3 4 ∷ []) gives figures 7 0)
    ∷ ((run 0 0 3 4 ∷ run 0 0 3 4 ∷ []) gives figures 7 7)
    ∷ ((run 0 0 3 4 ∷ run 0 0 3 4 ∷ run 0 0 3 4 ∷ []) gives refused_with NoStar)
    -- document 02, C-16: "Rows 5 and 11 of the examples are now accepted with saved 0"
    ∷ ((run 0 0 3 3 ∷ run 3 3 5 5 ∷ []) gives figures 10 0)
    ∷ ((run 0 0 3 3 ∷ run 3 0 6 3 ∷ []) gives figures 9 3)
    ∷ ((run 0 0 4 3 ∷ run 0 3 4 0 ∷ []) gives figures 10 4)
    ∷ ((run 0 0 4 3 ∷ run 1 1 2 2 ∷ []) gives figures 7 2)
    ∷ ((run 0 0 6 6 ∷ run 0 2 4 0 ∷ run 4 6 6 2 ∷ []) gives figures 16 8)
    ∷ ((run 0 0 4 4 ∷ run 0 2 0 4 ∷ run 1 0 4 0 ∷ []) gives figures 10 3)
    ∷ ((run 0 2 4 2 ∷ run 2 0 2 4 ∷ []) gives figures 8 0)
    ∷ ((run 0 0 3 0 ∷ run 2 0 5 0 ∷ []) gives figures 5 1)
    -- document 02, C-11: "runs, trench, saved, pits .. all 0"
    ∷ ([] gives figures_pits 0 0 0)
    -- document 02, C-14: three routes go straight through (2,1), where none ends or turns; besides there are six ends and turns
    ∷ ((run 0 0 4 2 ∷ run 0 1 4 1 ∷ run 2 0 2 2 ∷ []) gives figures_pits 8 4 7)
    ∷ []

-- ---- what a row says

-- with the forecast words and bytes or more, the bytes of the job are accepted
abbrev pub IsAccepted : (number : ℕ) → List Read → Type 0
IsAccepted number runs =
    (work out : ℕ) → words_for (runs_of runs) ≤ work → bytes_for (runs_of runs) ≤ out → verdict (bytes_of number runs) work out ≡ accepted number runs

-- with words and bytes enough for every job, they are refused so
abbrev pub IsRefused : (number : ℕ) → List Read → Refusal → Type 0
IsRefused number runs x = (work out : ℕ) → 16384 ≤ work → 36886 ≤ out → verdict (bytes_of number runs) work out ≡ refused x

-- least routes of a job's runs, on its Hanan grid
abbrev pub LeastOf : List Read → List Route → Type 0
LeastOf runs routes = Least (hanan (runs_of runs)) (runs_of runs) routes

-- a head has the row's figures
abbrev pub Says : Figures → Head → Type 0
Says (refused_with x) head = ⊥
Says (figures trench saved) head = (head.trench ≡ trench) × (head.saved ≡ saved)
Says (figures_pits trench saved pits) head = (head.trench ≡ trench) × (head.saved ≡ saved) × (head.pits ≡ pits)

-- the job is accepted under any number, there is a least plan, and the head of every least plan has the figures
pub record HasFigures (runs : List Read) (given : Figures) : Type 0 where
  pub accepts : (number : ℕ) → number < 2 ^ 32 → IsAccepted number runs
  pub some : (routes : List Route) × LeastOf runs routes
  pub says : (number : ℕ) (routes : List Route) → LeastOf runs routes → Says given (plan_head number runs routes)

abbrev pub HoldsOf : List Read → Figures → Type 0
HoldsOf runs (refused_with x) = (number : ℕ) → number < 2 ^ 32 → IsRefused number runs x
HoldsOf runs (figures trench saved) = HasFigures runs (figures trench saved)
HoldsOf runs (figures_pits trench saved pits) = HasFigures runs (figures_pits trench saved pits)

abbrev pub Holds : Example → Type 0
Holds e = HoldsOf e.runs e.outcome

-- ---- job 7 of the listing

abbrev pub job7_runs : List Read
job7_runs = numbered_from 1 (run 0 0 40 30 ∷ run 0 10 40 10 ∷ run 20 20 20 50 ∷ [])

abbrev pub job7_head : Head
job7_head = record { grouped = true; job = 7; runs = 3; trench = 100; saved = 40; pits = 6; last = 1 }

abbrev pub job7_entries : List Entry
job7_entries =
    record { number = 1; meets = 2; centre = 1; corners = point 0 0 ∷ point 0 10 ∷ point 40 10 ∷ point 40 30 ∷ [] }
    ∷ record { number = 2; meets = 1; centre = 1; corners = point 0 10 ∷ point 40 10 ∷ [] }
    ∷ record { number = 3; meets = 1; centre = 1; corners = point 20 20 ∷ point 20 50 ∷ [] }
    ∷ []

-- ---- blank jobs: "Its plan has runs, trench, saved, pits .. all 0, no route, and an end of 0" (document 02, C-11); "A blank job has 0 groups" (C-16)

abbrev pub blank_head : (number : ℕ) → Head
blank_head number = record { grouped = true; job = number; runs = 0; trench = 0; saved = 0; pits = 0; last = 0 }

-- ---- one plan

-- The job is accepted and has one least plan: there are least routes, and all of them have the corners, the head, the figures of each run and the
-- bytes that are given.
pub record HasOnePlan (number : ℕ) (runs : List Read) (head : Head) (entries : List Entry) : Type 0 where
  pub accepts : IsAccepted number runs
  pub some : (routes : List Route) × LeastOf runs routes
  pub corners_are : (routes : List Route) → LeastOf runs routes → map corners routes ≡ map (λ e. e.corners) entries
  pub head_is : (routes : List Route) → LeastOf runs routes → plan_head number runs routes ≡ head
  pub entries_are : (routes : List Route) → LeastOf runs routes → plan_entries runs routes ≡ entries
  pub plan_is : (routes : List Route) → LeastOf runs routes → plan_of number runs routes ≡ book_bytes head entries
