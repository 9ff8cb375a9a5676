-- `text::write_last` meets its contract: each return is a case of `last_text`.
use Rattle.text.proofs.write_last.Goals as goal

pub returns-then-grouped : goal.returns-then-grouped
returns-then-grouped c = rw c.if-grouped.true c.write_field.ensures

pub returns : goal.returns
returns c = rw c.if-grouped.false c.write_field-2.ensures
