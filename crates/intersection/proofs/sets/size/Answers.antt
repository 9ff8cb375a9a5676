-- The ones of a word are its members.
use Rattle.intersection.proofs.Members.{ones_count}
use Rattle.intersection.proofs.sets.size.Goals as goal

pub returns : goal.returns
returns c = ones_count c.args.s c.ranges.s.fits
