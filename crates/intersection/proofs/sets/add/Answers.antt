-- The digits of `|`.
use Rattle.intersection.proofs.Digits.{has_add}
use Rattle.intersection.proofs.sets.add.Goals as goal

pub returns : goal.returns
returns c = has_add c.args.s c.args.i c.requires
