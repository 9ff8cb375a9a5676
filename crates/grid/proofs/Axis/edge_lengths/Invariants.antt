-- The invariant: the array holds the lengths of the edges passed.
use mathlib.Core.Path.{◌≡◌}
use Prim.Native.Nat.{◌≤◌, pred}
use Rattle.grid.specs.Tables.{table, padded}
use Rattle.grid.specs.Lines.{length_at}
use Rattle.grid.proofs.Axis.edge_lengths.Given as goal

abbrev pub invariant-loop-i : goal.invariant-loop-i
invariant-loop-i l = (pred l.i ≤ pred l.self.count) × (l.t ≡ padded 64 (table (length_at l.self.lines) (pred l.i)))
