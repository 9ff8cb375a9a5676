-- Our plan beside a contractor's: "Every plan that our planner now writes passes this test for its job" (02, C-17). And since ours is least, no true book has less
-- trench.
use Rattle.std.specs.Prelude.{◌≡◌, List, ℕ, ◌<◌, length, take, Ok, Err}
use Rattle.refusal.specs.declared.Refusal.{Refusal}
use Rattle.job.specs.declared.Run.{Run as Read}
use Rattle.job.specs.Parse.{accepted, parse}
use Rattle.plan.specs.declared.Head.{Head}
use Rattle.plan.specs.Plan.{Entry}
use Rattle.book.specs.Parse.{accepted as read_as, parse_plan}
use Rattle.planner.specs.Call.{gives}
use Rattle.planner.specs.Verdict.{judged, verdict}
use Rattle.planner.specs.Outcome.{Outcome}
use Rattle.judge.specs.True.{True}
use Rattle.judge.specs.Judged.{judgement_of}
use Rattle.choice.specs.declared.Chosen.TheVariants.{First, Second}
use Rattle.choice.specs.Choice.{choice_of}

-- the book is a plan that our planner wrote for the job: what some call answered, in the first bytes of the buffer that it left
pub record Ours (job book : List ℕ) : Type 0 where
  pub words : ℕ
  pub out : List ℕ
  pub out' : List ℕ
  pub answered : ℕ
  pub call : Outcome (verdict job words (length out)) out (gives answered) out'
  pub book_is : book ≡ take answered out'

-- the book is accepted by the reader, and true for the job with this number and these runs
pub record TrueBook (number : ℕ) (runs : List Read) (book : List ℕ) : Type 0 where
  pub head : Head
  pub entries : List Entry
  pub read : parse_plan book ≡ read_as head entries
  pub holds : True number runs head entries

-- what holds of our plan, lent as the first book
pub record Stays (job book : List ℕ) : Type 0 where
  pub number : ℕ
  pub runs : List Read
  pub job_is : judged (parse job) ≡ accepted number runs
  -- it is true
  pub is_true : TrueBook number runs book
  -- the call is refused because of the second book alone, ..
  pub never_refused : (second : List ℕ) (x : Refusal) → choice_of job book second ≡ Err x → judgement_of number runs 2 (parse_plan second) ≡ Err x
  -- .. never hands the second back, and hands ours back whatever true book comes second;
  pub never_second : (second : List ℕ) → choice_of job book second ≡ Ok Second → ⊥
  pub kept : (second : List ℕ) → TrueBook number runs second → choice_of job book second ≡ Ok First
  -- so a book with less trench than ours is never true
  pub less_untrue : (second : List ℕ) (t : TrueBook number runs second) → t.head.trench < is_true.head.trench → ⊥
