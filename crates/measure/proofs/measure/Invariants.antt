-- `measure::measure` meets its contract. The loop's invariant: what is measured of the rows passed, which is at most 256,000,000 dm and 64 pits a row.
use mathlib.Core.Path.{◌≡◌}
use Prim.Native.Nat.{◌*◌, ◌≤◌}
use Rattle.measure.specs.Measured.{trench_in, pits_in}
use Rattle.measure.proofs.measure.Given as goal

abbrev pub invariant-loop-j : goal.invariant-loop-j
invariant-loop-j l =
    (l.trench ≡ trench_in l.right l.up l.widths l.across l.heights l.j)
    × (l.pits ≡ pits_in l.corners l.right l.up l.across l.j)
    × (l.trench ≤ l.j * 256000000)
    × (l.pits ≤ l.j * 64)
