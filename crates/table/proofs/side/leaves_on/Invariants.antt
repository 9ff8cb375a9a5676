-- Before each turn the sets of the lines below i are empty; then the sets are those of the runs below k.
use Prim.Native.Nat.{ℕ, ◌≤◌, ◌<◌}
use mathlib.Core.Path.{◌≡◌}
use lib.ListN.{length}
use Rattle.network.specs.Plane.{gap}
use Rattle.table.specs.Side.{leaves_on}
use Rattle.table.specs.Frame.{line_in, line_of}
use Rattle.table.proofs.side.leaves_on.Given as goal

abbrev pub invariant-loop-i : goal.invariant-loop-i
invariant-loop-i l = (length l.t ≡ 64) × ((j : ℕ) → j < l.i → (line_in l.t j).on ≡ 0)

abbrev pub invariant-loop-k : goal.invariant-loop-k
invariant-loop-k l = (length l.t ≡ 64) × ((i : ℕ) → i ≤ gap l.p l.q → (line_in l.t i).on ≡ leaves_on l.places.first l.places.second l.k l.leaves (line_of l.p l.q i))
