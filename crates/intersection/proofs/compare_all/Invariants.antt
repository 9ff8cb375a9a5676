-- The invariant: of a graph that the boxes tell of, run i's neighbours before j are known.
use mathlib.Core.Path.{◌≡◌}
use mathlib.Core.Bool.{Bool}
use Prim.Native.Nat.{ℕ, ◌<◌}
use Rattle.intersection.specs.Centres.{neighbour_sets}
use Rattle.intersection.specs.Steps.{box_at, part_sets, Tells}
use Rattle.intersection.proofs.compare_all.Given as goal

abbrev pub invariant-loop-j : goal.invariant-loop-j
invariant-loop-j l =
    (joined : ℕ → ℕ → Bool) → ((k : ℕ) → k < l.i → Tells (box_at l.wide l.high) joined l.i k)
    → l.initial.neighbours ≡ neighbour_sets joined l.i → l.neighbours ≡ part_sets joined l.i l.j
