-- What C is told of a job book that is written (document 02, C-15): its length or minus the refusal number, and the place.
use Rattle.std.specs.Prelude.{ℕ, ℤ, pos, neg_ℤ, Result, Ok, Err}
use Rattle.refusal.specs.Refusal.{refusal_number, refusal_place}
use Rattle.refusal.specs.declared.Refusal.{Refusal}

-- the length of a job book, or minus the refusal number
abbrev pub outcome_code : Result ℕ Refusal → ℤ
outcome_code (Ok n) = pos n
outcome_code (Err x) = neg_ℤ (pos (refusal_number x))

-- the place of the refusal, 0 where there is none
abbrev pub outcome_place : Result ℕ Refusal → ℕ
outcome_place (Ok n) = 0
outcome_place (Err x) = refusal_place x
