-- The distance is the sum of the two gaps, each of them at most 2,000,000.
use native.Mathlib.Omega.{arith}
use Rattle.network.specs.Plane.{gap, distance}
use Rattle.figures.proofs.distance_of.Goals as goal

pub returns : goal.returns
unfolding gap distance
returns c = omega arith
