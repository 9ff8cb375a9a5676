-- The invariants: the first loop has found where the moves shared with each leaf stand among the first i moves; in the second, the runs below k that have the centre c are
-- laid, and all others have their old steps.
use mathlib.Core.Path.{◌≡◌}
use mathlib.Core.List.{[]}
use lib.ListN.{length}
use Rattle.network.specs.Steps.{hor}
use Rattle.sharing.specs.Walk.{moved}
use Rattle.table.specs.Side.{side_of}
use Rattle.table.specs.Walk.{moves_of}
use Rattle.layout.proofs.Finding.{first_moves, AllFound}
use Rattle.laying.specs.Lease.{block_of, GroupWritten}
use Rattle.laying.proofs.lay_group.Given as goal

abbrev pub invariant-loop-i : goal.invariant-loop-i
invariant-loop-i l =
    let p = first_moves l.trace.steps l.trace.shares l.i in
    (length l.found ≡ 32) × (l.across ≡ moved hor p) × AllFound p l.found

abbrev pub invariant-loop-k : goal.invariant-loop-k
invariant-loop-k l =
    GroupWritten (side_of l.x.first l.x.second []) (side_of l.y.first l.y.second []) l.k l.centres l.c (moves_of l.trace) (block_of l.initial.routes l.stride) (block_of l.routes l.stride)
