-- `text::write_centre` meets its contract: each return is a case of `centre_text`.
use Rattle.text.proofs.Listed.{listed_none}
use Rattle.text.proofs.write_centre.Goals as goal

pub returns-then-grouped : goal.returns-then-grouped
returns-then-grouped c = rw c.if-grouped.true c.write_field.ensures

pub returns : goal.returns
returns c = rw c.if-grouped.false (listed_none _)
