-- `text::write_field` meets its contract: the number stands behind its name.
use Rattle.text.proofs.Listed.{listed_next}
use Rattle.text.proofs.write_field.Goals as goal

pub returns : goal.returns
returns c = listed_next _ _ _ _ _ _ _ c.write_words-at.ensures c.write_number.ensures
