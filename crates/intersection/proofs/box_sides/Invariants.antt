-- The invariant: the sides of the boxes passed stand in both arrays.
use mathlib.Core.Path.{◌≡◌}
use Rattle.intersection.specs.Steps.{sides_of}
use Rattle.intersection.proofs.box_sides.Given as goal

abbrev pub invariant-loop-i : goal.invariant-loop-i
invariant-loop-i l = l.sides ≡ sides_of l.spans l.i
