-- What C is told of two plan books of a job (document 02, C-17): which of them is to be staked from, or minus the refusal number.
use Rattle.std.specs.Prelude.{ℤ, pos, neg_ℤ, Ok, Err}
use Rattle.refusal.specs.Refusal.{refusal_number}
use Rattle.choice.specs.declared.Chosen.TheVariants.{First, Second}
use Rattle.choice.specs.Choice.{Choice}

-- 1 for the first book, 2 for the second, or minus the refusal number
abbrev pub choice_code : Choice → ℤ
choice_code (Ok First) = pos 1
choice_code (Ok Second) = pos 2
choice_code (Err x) = neg_ℤ (pos (refusal_number x))
