-- `text::write_head` meets its contract: each field stands behind the one before, and the figures behind all.
use Rattle.text.proofs.Listed.{listed_next}
use Rattle.text.proofs.write_head.Goals as goal

pub returns : goal.returns
returns c =
    listed_next _ _ _ _ _ _ _
    (listed_next _ _ _ _ _ _ _ (listed_next _ _ _ _ _ _ _ c.write_field-at.ensures c.write_field-at-2.ensures)
    c.write_last-at.ensures)
    c.write_figures.ensures
