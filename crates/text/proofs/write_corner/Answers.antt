-- `text::write_corner` meets its contract: each piece stands behind the one before.
use Rattle.text.proofs.Listed.{listed_next}
use Rattle.text.proofs.write_corner.Goals as goal

pub returns : goal.returns
returns c =
    listed_next _ _ _ _ _ _ _
    (listed_next _ _ _ _ _ _ _ (listed_next _ _ _ _ _ _ _ c.write_byte-at.ensures c.write_coordinate-at.ensures) c.write_byte-at-2.ensures)
    c.write_coordinate.ensures
