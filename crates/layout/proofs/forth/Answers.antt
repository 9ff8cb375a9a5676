-- The part stands where it was copied to.
use Rattle.layout.proofs.Growing.{longer_part}
use Rattle.layout.proofs.forth.Goals as goal

pub returns : goal.returns
returns c = rw c.copy_from_slice.ensures.after (longer_part _ _ _ c.requires)
