-- Before each turn the sets are as they were, and the lines below i are those of the frame.
use Prim.Native.Nat.{ℕ, ◌≤◌, ◌<◌}
use mathlib.Core.Path.{◌≡◌}
use lib.ListN.{length}
use Rattle.network.specs.Plane.{gap}
use Rattle.grid.specs.Lines.{length_at}
use Rattle.table.specs.Frame.{line_in, line_of, frame_line}
use Rattle.table.proofs.frame.frame_lines.Given as goal

abbrev pub invariant-loop-i : goal.invariant-loop-i
invariant-loop-i l =
    (length l.t ≡ 64) × ((j : ℕ) → (line_in l.t j).on ≡ (line_in l.initial.t j).on)
    × ((on : ℕ → ℕ) → ((j : ℕ) → j ≤ gap l.p l.q → (line_in l.initial.t j).on ≡ on (line_of l.p l.q j)) → (j : ℕ) → j < l.i → line_in l.t j ≡ frame_line on (length_at l.lines) l.p l.q j)
