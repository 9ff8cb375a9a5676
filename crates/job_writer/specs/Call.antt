-- The contract of the writer, as an equation: what a call says, and what it makes of the buffer that it is lent (document 02, C-15).
use Rattle.std.specs.Prelude.{Result, Ok, Err, ℕ, List, ℤ, length}
use Rattle.fields.specs.Bytes.{over}
use Rattle.job.specs.Written.{bytes_of}
use Rattle.refusal.specs.declared.Refusal.{Refusal}
use Rattle.job_writer.specs.Listed.{Answer, count_of, runs_from, list_answer}

-- the job book of a number and a list
abbrev pub book_of : ℕ → List ℤ → List ℕ
book_of number list = bytes_of number (runs_from list (count_of list) 0)

-- what a call says, and the buffer behind it
pub record Call : Type 0 where
  pub says : Result ℕ Refusal
  pub out : List ℕ

-- "The writer gives the book's length and touches no later byte"; "a refusal writes nothing"
abbrev pub call_by : Answer → (book out : List ℕ) → Call
call_by (Ok _) book out = record { says = Ok (length book); out = over book out }
call_by (Err x) book out = record { says = Err x; out = out }

unfoldable pub call_of : (number : ℕ) → List ℤ → (out : List ℕ) → Call
call_of number list out = call_by (list_answer list (length out)) (book_of number list) out
