-- The contractor's book or ours: "The call is lent the job and two plan books. The book handed back is one of the two as lent, not a copy: the one with less
-- trench, and the first if they are equal" (02, C-17).
use Rattle.std.specs.Prelude.{◌≡◌, cond, List, [], ℕ, leb, Result, Ok, Err}
use Rattle.std.specs.Borrow.{Bor}
use Rattle.refusal.specs.declared.Refusal.{Refusal}
use Rattle.refusal.specs.Refusal.{refusal_number, refusal_place}
use Rattle.job.specs.Parse.{Parsed, accepted, refused, parse}
use Rattle.book.specs.Parse.{parse_plan}
use Rattle.planner.specs.Verdict.{judged}
use Rattle.judge.specs.Judged.{judgement_of}
use Rattle.choice.specs.declared.Chosen.{Chosen}
use Rattle.choice.specs.declared.Chosen.TheVariants.{First, Second}

-- the book to stake from, or why there is none
abbrev pub Choice : Type 0
Choice = Result Chosen Refusal

-- the first book's refusal comes before the second's; of two books that pass, the one with less trench, the first if they are equal
unfoldable pub lesser : (first second : Result ℕ Refusal) → Choice
lesser (Err x) second = Err x
lesser (Ok t) (Err x) = Err x
lesser (Ok t) (Ok u) = Ok (cond (leb t u) First Second)

-- "The job's refusals 3 to 11", 17 among them (C-18), "come first with their own places, then for the first book .., then the same for the second"
unfoldable pub choice_for : Parsed → (first second : List ℕ) → Choice
choice_for (refused x) first second = Err x
choice_for (accepted number runs) first second =
    lesser (judgement_of number runs 1 (parse_plan first)) (judgement_of number runs 2 (parse_plan second))

unfoldable pub choice_of : (job first second : List ℕ) → Choice
choice_of job first second = choice_for (judged (parse job)) first second

-- What is handed back: the lent book itself, where it lies with all its bytes; "With a refusal the book handed back is the first book's first 0 bytes".
unfoldable pub Handed : Choice → (first second back : Bor (List ℕ)) → Type 0
Handed (Ok First) first second back = back ≡ first
Handed (Ok Second) first second back = back ≡ second
Handed (Err x) first second back = (back.ref_ptr ≡ first.ref_ptr) × (back.now ≡ [])

-- "the number and place are told by a call of their own, 0 and 0 when there is none"
abbrev pub number_of : Choice → ℕ
number_of (Ok c) = 0
number_of (Err x) = refusal_number x

abbrev pub place_of : Choice → ℕ
place_of (Ok c) = 0
place_of (Err x) = refusal_place x
