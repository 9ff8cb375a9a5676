-- What is listed of a plan book (01, Listing; 02, C-12), by what reading it says: the plan's text, line by line, or the refusal's.
use Rattle.std.specs.Prelude.{List, ℕ}
use Rattle.book.specs.Parse.{Parsed, accepted, refused}
use Rattle.text.specs.Text.{plan_text, refusal_text}
use Rattle.text.specs.Listed.{Listed}

-- by what the bytes of the book say, from the text buffer at entry to the buffer at exit and to the number of bytes written; `Listed`: as much of the text as
-- there is room for stands in the first n bytes, and later bytes are untouched
abbrev pub BookListed : Parsed → (text text' : List ℕ) → ℕ → Type 0
BookListed (accepted head entries) text text' n = Listed (plan_text head entries) text text' n
BookListed (refused x) text text' n = Listed (refusal_text x) text text' n
