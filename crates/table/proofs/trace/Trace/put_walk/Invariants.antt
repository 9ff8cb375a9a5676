-- From i on the arrays hold the moves behind the vertex where the walk stands.
use mathlib.Core.Path.{◌≡◌}
use Prim.Native.Nat.{pred, ◌+◌}
use Rattle.table.specs.Frame.{group_of}
use Rattle.table.proofs.Walking.{Held}
use Rattle.table.proofs.trace.Trace.put_walk.Given as goal

abbrev pub invariant-loop-i : goal.invariant-loop-i
invariant-loop-i l =
    Held (group_of l.g) l.work (pred l.g.w + pred l.g.h) l.a l.b l.self.steps l.self.shares l.t l.i × (l.self.count ≡ pred l.g.w + pred l.g.h)
