-- The trailing zeros count up to the first member.
use Rattle.intersection.proofs.Members.{lowest_is}
use Rattle.intersection.proofs.sets.lowest.Goals as goal

pub returns : goal.returns
returns c = lowest_is c.args.s c.ranges.s.fits
