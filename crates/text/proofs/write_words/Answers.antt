-- `text::write_words` meets its contract: as much is copied as there is, or as there is room for.
use Rattle.text.proofs.Listed.{listed_copy}
use Rattle.text.proofs.write_words.Goals as goal

pub returns : goal.returns
returns c = rw c.copy_from_slice.ensures.after (listed_copy _ _ _ c.min-n.ensures)
