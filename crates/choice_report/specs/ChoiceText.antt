-- The text of a choice between two plan books of a job (02, C-17): the book to stake from with its trench figure and the other's, or the refusal's text.
use Rattle.std.specs.Prelude.{true, false, List, ℕ, Ok, Err}
use Rattle.book.specs.Parse.{Parsed, accepted, refused}
use Rattle.choice.specs.declared.Chosen.TheVariants.{First, Second}
use Rattle.choice.specs.Choice.{Choice}
use Rattle.text.specs.Text.{chosen_text, refusal_text}

-- the trench figure of a book as reading gives it; of a book that is refused 0, which no text shows, since then the choice is refused
abbrev pub trench_of : Parsed → ℕ
trench_of (accepted head entries) = head.trench
trench_of (refused x) = 0

-- by what is chosen, and by the trench figures of the two books
abbrev pub choice_text : Choice → (first second : ℕ) → List ℕ
choice_text (Ok First) first second = chosen_text false first second
choice_text (Ok Second) first second = chosen_text true second first
choice_text (Err x) first second = refusal_text x
