-- Digit i of `s & (1 << i)` is that of s, and the others are 0.
use Rattle.intersection.proofs.Digits.{member_is}
use Rattle.intersection.proofs.sets.member.Goals as goal

pub returns : goal.returns
returns c = member_is c.args.s c.args.i c.ranges.s.fits c.requires
