-- `text::write_route` meets its contract: each piece stands behind the one before.
use Rattle.text.proofs.Listed.{listed_next}
use Rattle.text.proofs.write_route.Goals as goal

pub returns : goal.returns
returns c =
    listed_next _ _ _ _ _ _ _
    (listed_next _ _ _ _ _ _ _ (listed_next _ _ _ _ _ _ _ c.write_run-at.ensures c.write_centre-at.ensures)
    c.write_field-at.ensures)
    c.write_byte.ensures
