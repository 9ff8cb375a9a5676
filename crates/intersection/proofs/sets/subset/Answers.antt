-- A set is its common part with another exactly if it is a part of that.
use Rattle.intersection.proofs.Members.{subset_is}
use Rattle.intersection.proofs.sets.subset.Goals as goal

pub returns : goal.returns
returns c = subset_is c.args.a c.args.b c.ranges.a.fits
