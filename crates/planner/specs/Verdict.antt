-- The verdict on a call: "records front to back; .. last 11. The first that applies is given, and none otherwise" (document 01, What a call says and leaves),
-- and 1 or 2 "now tested after the job's bytes and before 11" (02, C-20). A job is accepted exactly if it is well formed and every group of its intersection
-- graph is a star (demand 2; 02, C-16), where the forecast is lent or more; a job without runs has no group.
use Rattle.std.specs.Prelude.{Bool, cond, ◌≡◌, List, ◌++◌, ℕ, ltb, length, drop, replicate, Result, Ok, Err}
use Rattle.network.specs.Plane.{Run}
use Rattle.network.specs.Hanan.{hanan}
use Rattle.network.specs.Graph.{meets}
use Rattle.groups.specs.Groups.{all_stars}
use Rattle.refusal.specs.declared.Refusal.{Refusal}
use Rattle.refusal.specs.declared.Refusal.TheVariants.{ShortWork, ShortBuffer, NoStar}
use Rattle.job.specs.Parse.{Parsed, accepted, refused, parse}
use Rattle.planner.specs.declared.Needs.{Needs}
use Rattle.planner.specs.Call.{runs_of, Said, gives, refuses}
use Rattle.planner.specs.Forecast.{needs_of}

-- ---- the forecast

-- by what the reader says of the bytes
abbrev pub foretold_by : Parsed → Result Needs Refusal
foretold_by (accepted number runs) = Ok (needs_of (runs_of runs))
foretold_by (refused x) = Err x

abbrev pub forecast_of : (job : List ℕ) → Result Needs Refusal
forecast_of job = foretold_by (parse job)

-- ---- the work words, from `work` to `work'`

-- the words that a forecast tells, none where it refuses
abbrev pub words_told : Result Needs Refusal → ℕ
words_told (Ok needs) = needs.words
words_told (Err x) = 0

-- "On acceptance the cleared words are the forecast number"; later words stay, and a call that refuses keeps all
abbrev pub Words : Result Needs Refusal → Said → (work work' : List ℕ) → Type 0
Words f (gives n) work work' = work' ≡ replicate (words_told f) 0 ++ drop (words_told f) work
Words f (refuses number place) work work' = work' ≡ work

-- ---- the verdict

-- every group of the job's intersection graph is a star
abbrev pub are_stars : List Run → Bool
are_stars runs = all_stars (meets (hanan runs) runs) (length runs)

-- a well-formed job is refused with 11 where some group is no star
unfoldable pub judged : Parsed → Parsed
judged (accepted number runs) = cond (are_stars (runs_of runs)) (accepted number runs) (refused NoStar)
judged (refused x) = refused x

-- the lent words and bytes, by their number, are weighed against the forecast, and then comes what is judged
unfoldable pub weighed : Result Needs Refusal → (work out : ℕ) → Parsed → Parsed
weighed (Ok needs) work out p = cond (ltb work needs.words) (refused ShortWork) (cond (ltb out needs.bytes) (refused ShortBuffer) p)
weighed (Err x) work out p = refused x

abbrev pub verdict : (job : List ℕ) (work out : ℕ) → Parsed
verdict job work out = weighed (forecast_of job) work out (judged (parse job))
