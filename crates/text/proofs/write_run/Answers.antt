-- `text::write_run` meets its contract: the second field stands behind the first.
use Rattle.text.proofs.Listed.{listed_next}
use Rattle.text.proofs.write_run.Goals as goal

pub returns : goal.returns
returns c = listed_next _ _ _ _ _ _ _ c.write_field-at.ensures c.write_field.ensures
