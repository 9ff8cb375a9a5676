-- The invariant: the sum is that of the runs passed, each of which passes at most 64 steps.
use mathlib.Core.Path.{◌≡◌}
use Prim.Native.Nat.{◌*◌, ◌≤◌}
use Rattle.planner.specs.Stages.{steps_on}
use Rattle.planner.proofs.survey.steps_on.Given as goal

abbrev pub invariant-loop-k : goal.invariant-loop-k
invariant-loop-k l = (l.sum ≡ steps_on l.places l.k) × (l.sum ≤ 64 * l.k)
