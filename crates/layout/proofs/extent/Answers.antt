-- Two of at most 64 lines are at most 63 apart.
use Rattle.table.proofs.Lines.{gap_lt}
use native.Mathlib.Omega.{arith}
use Rattle.network.specs.Plane.{gap}
use Rattle.layout.proofs.extent.Goals as goal

pub returns : goal.returns
unfolding gap
returns c = (c.abs_diff.ensures, omega (arith, c.abs_diff.ensures, gap_lt 64 _ _ c.requires.0 c.requires.1))
