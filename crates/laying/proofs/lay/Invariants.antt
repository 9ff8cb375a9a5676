-- The invariant: the groups of the centres below i are laid, and nothing behind the words of the grid's table has changed.
use mathlib.Core.Path.{◌≡◌}
use mathlib.Core.List.{List}
use Prim.Native.Nat.{◌*◌, ◌≤◌}
use lib.ListN.{length}
use Rattle.network.specs.Plane.{Run}
use Rattle.table.specs.Side.{side_by}
use Rattle.table.specs.Rule.{Beyond}
use Rattle.laying.specs.Lease.{table_words, LeaseSurveyed, block_of}
use Rattle.laying.proofs.Loop.{Progress}
use Rattle.laying.proofs.lay.Given as goal

abbrev pub invariant-loop-i : goal.invariant-loop-i
invariant-loop-i l =
    let xs = side_by l.x in
    let ys = side_by l.y in
    (l.saved ≤ l.i * 4294967296)
    × ((runs : List Run) → LeaseSurveyed runs xs ys l.n l.centres l.neighbours
    → Progress runs xs ys l.centres l.i l.saved (block_of l.routes l.stride) × Beyond l.initial.work l.work (table_words runs))
    × (length l.frame.cols ≡ 64) × (length l.frame.rows ≡ 64) × (length l.trace.steps ≡ 128) × (length l.trace.shares ≡ 128)
