-- `judge::routes::Marks::mark_routes` meets its contract. The loop's invariant: the first i routes are Manhattan paths of the first i runs, and the marks tell them.
use mathlib.Core.Path.{◌≡◌}
use mathlib.Core.Bool.{true, Bool}
use mathlib.Core.List.{List}
use Prim.Native.Nat.{ℕ, ◌+◌, ◌≤◌, ◌<◌}
use lib.ListN.{length, get_or, take}
use Rattle.network.specs.Lists.{every}
use Rattle.network.specs.Plane.{Run}
use Rattle.network.specs.Graph.{run_at, below}
use Rattle.network.specs.Hanan.{hanan}
use Rattle.job.specs.Fields.{word2}
use Rattle.plan.specs.Plan.{Entry}
use Rattle.measure.specs.Marks.{Told}
use Rattle.judge.specs.True.{drawn_in}
use Rattle.judge.specs.Judged.{is_manhattan, entry_at}
use Rattle.judge.specs.Steps.{ReadAs, Sized}
use Rattle.judge.proofs.Marked.{plane_of}
use Rattle.judge.proofs.routes.Marks.mark_routes.Given as goal

-- the route of entry i is a Manhattan path of run i
abbrev pub right_route : List Run → List Entry → ℕ → Bool
right_route plane es i = is_manhattan (hanan plane) (run_at plane i) (entry_at es i).corners

abbrev pub invariant-loop-i : goal.invariant-loop-i
invariant-loop-i l =
    (l.known.job.count ≤ 32)
    × ((k : ℕ) → k < l.known.job.count → (get_or l.reading.places k 0 + 9 ≤ length l.book) × (word2 l.book (get_or l.reading.places k 0 + 5) ≤ 127))
    × ((es : List Entry) → ReadAs l.book l.reading es
    → Sized l.self
    × (every (right_route (plane_of l.known.job) es) (below l.i) ≡ true)
    × Told (hanan (plane_of l.known.job)) (take l.i (drawn_in es)) l.self.corners l.self.right l.self.up)
