-- `text::write_line` meets its contract: the second number stands behind the first, and the line feed behind both.
use Rattle.text.proofs.Listed.{listed_next}
use Rattle.text.proofs.write_line.Goals as goal

pub returns : goal.returns
returns c =
    listed_next _ _ _ _ _ _ _ (listed_next _ _ _ _ _ _ _ c.write_field-at.ensures c.write_field-at-2.ensures) c.write_byte.ensures
