-- THE THREE DEMANDS of a call, from what it is lent, what it says and what it leaves: of `plan`, and of the map screen's function, alike.
use Rattle.std.specs.Prelude.{◌≡◌, ◌↔◌, List, ◌++◌, map, ℕ, ◌≤◌, ◌<◌, ℤ, pos, length, take, drop, replicate, Result, Ok, Err}
use Rattle.network.specs.Lists.{All}
use Rattle.network.specs.Plane.{Run}
use Rattle.network.specs.Hanan.{hanan}
use Rattle.network.specs.Route.{union_length, Least}
use Rattle.network.specs.Graph.{meets}
use Rattle.unit.specs.Paths.{LeastCut}
use Rattle.groups.specs.Chains.{StarOf}
use Rattle.job.specs.declared.Run.{Run as Read}
use Rattle.refusal.specs.declared.Refusal.{Refusal}
use Rattle.refusal.specs.declared.Refusal.TheVariants.{ShortWork, ShortBuffer, NoStar}
use Rattle.refusal.specs.Refusal.{refusal_number, refusal_place}
use Rattle.job.specs.Applies.{AppliesIn}
use Rattle.job.specs.Order.{FirstOf}
use Rattle.job.specs.Written.{WellFormed, bytes_of}
use Rattle.plan.specs.declared.Head.{Head}
use Rattle.plan.specs.Plan.{Entry, book_bytes}
use Rattle.plan.specs.Fits.{PointIn, HeadFits}
use Rattle.planner.specs.declared.Needs.{Needs}
use Rattle.planner.specs.Call.{runs_of, Said, gives, refuses, said, code_of, Plans}
use Rattle.planner.specs.Forecast.{words_for, bytes_for, needs_of}

-- the bytes are those of a well-formed job
pub record JobIn (job : List ℕ) : Type 0 where
  pub number : ℕ
  pub runs : List Read
  pub well_formed : WellFormed number runs
  pub written : job ≡ bytes_of number runs

-- "The runs fall into groups: two runs are in one group when a chain of meetings joins them. A job is now accepted if every group is a star" (02, C-16)
abbrev pub AreStars : List Run → Type 0
AreStars runs = (i : ℕ) → i < length runs → (c : ℕ) × StarOf (meets (hanan runs) runs) i c

-- the job is well formed, the words and bytes that are lent are those of its forecast or more, and its groups are stars
pub record Admitted (job : List ℕ) (words bytes : ℕ) : Type 0 where
  pub job_in : JobIn job
  pub words_enough : words_for (runs_of job_in.runs) ≤ words
  pub bytes_enough : bytes_for (runs_of job_in.runs) ≤ bytes
  pub stars : AreStars (runs_of job_in.runs)

-- When a refusal applies to a call: 3 to 9 and 17 by the job's bytes; to a job that is well formed 1 and 2, where fewer words or bytes are lent than its forecast
-- tells (02, C-20), and 11, which "means that some group isn't" a star (C-16).
pub data Applies (job : List ℕ) (words bytes : ℕ) : Refusal → Type 0 where
  in_bytes : {x : Refusal} → AppliesIn job x → Applies job words bytes x
  short_work : (j : JobIn job) → words < words_for (runs_of j.runs) → Applies job words bytes ShortWork
  short_plan : (j : JobIn job) → bytes < bytes_for (runs_of j.runs) → Applies job words bytes ShortBuffer
  no_star : (j : JobIn job) → (AreStars (runs_of j.runs) → ⊥) → Applies job words bytes NoStar

-- "The first that applies is given": its number and its place
pub record Given (job : List ℕ) (words bytes number place : ℕ) : Type 0 where
  pub refusal : Refusal
  pub first : FirstOf (Applies job words bytes) refusal
  pub number_is : number ≡ refusal_number refusal
  pub place_is : place ≡ refusal_place refusal

-- What is said, and what the plan buffer then holds: the length of a plan of the job, which stands in front; or the first refusal that applies, and
-- no byte is changed.
abbrev pub Leaves : (job : List ℕ) (words : ℕ) (out : List ℕ) → Said → (out' : List ℕ) → Type 0
Leaves job words out (gives n) out' = (j : JobIn job) × Plans j.number j.runs out (gives n) out'
Leaves job words out (refuses number place) out' = Given job words (length out) number place × (out' ≡ out)

-- And the work words: "On acceptance the cleared words are the forecast number" (02, C-20), later words stay; a refusal changes none.
abbrev pub WordsLeft : (job : List ℕ) → Said → (work work' : List ℕ) → Type 0
WordsLeft job (gives n) work work' = (j : JobIn job) × (work' ≡ replicate (words_for (runs_of j.runs)) 0 ++ drop (words_for (runs_of j.runs)) work)
WordsLeft job (refuses number place) work work' = work' ≡ work

-- The routes that the corners of a plan's entries draw are least, and the trench figure is the length of their union. It is the least of all cuts too, on
-- survey lines or not: "the plan is no longer than the union of any Manhattan paths of unit steps between whole-decimetre points, one for each run"
-- (02, C-19), and its own routes, walked in unit steps, are such paths.
pub record LeastPlan (runs : List Read) (head : Head) (es : List Entry) : Type 0 where
  pub least : Least (hanan (runs_of runs)) (runs_of runs) (map (λ e. e.corners) es)
  pub trench : head.trench ≡ union_length (hanan (runs_of runs)) (map (λ e. e.corners) es)
  pub cut : LeastCut (runs_of runs) (map (λ e. e.corners) es) head.trench

-- a call that is lent the bytes of a job, so many words and the plan buffer `out`, says s, and leaves `out'`
pub record Demands (job : List ℕ) (words : ℕ) (out : List ℕ) (s : Said) (out' : List ℕ) : Type 0 where
  pub demand_1 : Leaves job words out s out'
  -- a plan is answered exactly if the job is well formed, its forecast is lent or more, and its groups are stars
  pub demand_2 : ((n : ℕ) × (s ≡ gives n)) ↔ Admitted job words (length out)
  -- however the first bytes, as many as are answered, are read as a head and entries, these are a least plan of the job
  pub demand_3 : (n : ℕ) → s ≡ gives n → (j : JobIn job) (head : Head) (es : List Entry) → HeadFits head → All (All PointIn) (map (λ e. e.corners) es)
      → book_bytes head es ≡ take n out' → LeastPlan j.runs head es

-- What the forecast is good for: "The planner, lent that many words and bytes or more, never gives 1 or 2. Below them it refuses with 1 or 2 at place 0" (02, C-20),
-- and no plan is longer than the bytes that it tells.
pub record Foreseen (job : List ℕ) (words : ℕ) (out : List ℕ) (s : Said) : Type 0 where
  pub lent : (j : JobIn job) → words_for (runs_of j.runs) ≤ words → bytes_for (runs_of j.runs) ≤ length out → (number place : ℕ) → s ≡ refuses number place → number ≡ 11
  pub words_short : (j : JobIn job) → words < words_for (runs_of j.runs) → s ≡ refuses 1 0
  pub bytes_short : (j : JobIn job) → words_for (runs_of j.runs) ≤ words → length out < bytes_for (runs_of j.runs) → s ≡ refuses 2 0
  pub fits : (j : JobIn job) (n : ℕ) → s ≡ gives n → n ≤ bytes_for (runs_of j.runs)

-- `plan` answers and leaves this, the work words among it
pub record PlanDemands (job work out : List ℕ) (answer : Result ℕ Refusal) (work' out' : List ℕ) : Type 0 where
  pub demands : Demands job (length work) out (said answer) out'
  pub words : WordsLeft job (said answer) work work'

-- The map screen's function returns a code: that of what is said. It is a length exactly if a plan is answered.
pub record MapDemands (job : List ℕ) (words : ℕ) (out : List ℕ) (code : ℤ) (out' : List ℕ) : Type 0 where
  pub says : Said
  pub told : code ≡ code_of says
  pub demands : Demands job words out says out'
  pub answered : ((n : ℕ) × (code ≡ pos n)) ↔ Admitted job words (length out)

-- The one that is lent the words returns and leaves this.
pub record LentDemands (job work out : List ℕ) (code : ℤ) (work' out' : List ℕ) : Type 0 where
  pub map_demands : MapDemands job (length work) out code out'
  pub words : WordsLeft job map_demands.says work work'

-- A forecast tells what a well-formed job needs, and refuses any other bytes with the first refusal of theirs that applies.
pub record Forecasts (job : List ℕ) (told : Result Needs Refusal) : Type 0 where
  pub needs : (j : JobIn job) → told ≡ Ok (needs_of (runs_of j.runs))
  pub refuses : (x : Refusal) → (told ≡ Err x) ↔ FirstOf (AppliesIn job) x
