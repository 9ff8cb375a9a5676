-- What C is told of a forecast (document 02, C-20): the words or the bytes that a job needs, or minus the refusal number.
use Rattle.std.specs.Prelude.{ℤ, pos, neg_ℤ, Result, Ok, Err}
use Rattle.refusal.specs.Refusal.{refusal_number}
use Rattle.refusal.specs.declared.Refusal.{Refusal}
use Rattle.planner.specs.declared.Needs.{Needs}

abbrev pub words_code : Result Needs Refusal → ℤ
words_code (Ok needs) = pos needs.words
words_code (Err x) = neg_ℤ (pos (refusal_number x))

abbrev pub bytes_code : Result Needs Refusal → ℤ
bytes_code (Ok needs) = pos needs.bytes
bytes_code (Err x) = neg_ℤ (pos (refusal_number x))
