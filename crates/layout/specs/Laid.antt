-- The route that is laid for each run: "a path of grid edges between its two points" (01, Routes and sharing), held as steps on the grid's lines. A
-- centre's is its moves, and a leaf's goes by way of the stretch that it shares with its centre.
use Rattle.std.specs.Prelude.{◌≡◌, cond, List, ◌++◌, map, ℕ, ◌+◌, ◌≤◌, ◌<◌, eqb, length, take}
use Rattle.network.specs.Plane.{gap}
use Rattle.network.specs.Steps.{Dir, steps}
use Rattle.sharing.specs.Box.{Box}
use Rattle.sharing.specs.Trace.{Move}
use Rattle.sharing.specs.Walk.{dirs, moved}
use Rattle.sharing.specs.Leaf.{before, stretch, via}
use Rattle.route.specs.Route.{Route, route_by, dir_of, steps_of}
use Rattle.route.specs.Stored.{track_of}
use Rattle.layout.specs.declared.Points.{Points}
use Rattle.layout.specs.declared.Stretch.{Stretch}
use Rattle.layout.specs.Points.{OnLines, box64}
use Rattle.layout.specs.Stretch.{Found, Together}

-- behind the first `at` steps stand n more, the steps l, up to index `next`
pub record Longer (old : List ℕ) (at n : ℕ) (l : List Dir) (new : List ℕ) (next : ℕ) : Type 0 where
  pub same_size : length new ≡ length old
  pub more : next ≡ at + n
  pub goes : map dir_of (take next new) ≡ map dir_of (take at old) ++ l

-- the route between a run's points that has these steps
abbrev pub route_to : List ℕ → Points → Route
route_to steps run = route_by steps (track_of run.x.first run.y.first run.x.second run.y.second)

-- the steps of run k in a star of centre c, by their boxes: `steps_of` of sharing, where every other run is a leaf
abbrev pub steps_by : (centre run : Box) → ℕ → List Move → ℕ → List Dir
steps_by centre run c moves k =
    cond (eqb k c) (dirs moves) (via run (λ d. centre.first d + moved d (before k moves)) (dirs (stretch k moves)))

-- Run k can be laid: by the centre's moves its steps lead from its first point to its second, and the moves that are shared with it are consecutive.
pub record Layable (centre run : Points) (c : ℕ) (moves : List Move) (k : ℕ) : Type 0 where
  pub in_columns : OnLines run.x
  pub in_rows : OnLines run.y
  pub leads : (d : Dir) → steps d (steps_by (box64 centre centre) (box64 centre run) c moves k) ≡ gap ((box64 centre run).first d) ((box64 centre run).second d)
  pub together : (k ≡ c → ⊥) → Together k moves

-- the centre and run k can be laid, and s says where the moves that are shared with k stand
pub record Ready (centre run : Points) (c : ℕ) (moves : List Move) (k : ℕ) (s : Stretch) : Type 0 where
  pub centre_layable : Layable centre centre c moves c
  pub layable : Layable centre run c moves k
  pub found : Found k moves s

-- run k is a leaf that shares moves with the centre
pub record Stretched (centre leaf : Points) (c : ℕ) (moves : List Move) (k : ℕ) (s : Stretch) : Type 0 where
  pub ready : Ready centre leaf c moves k s
  pub other : k ≡ c → ⊥
  pub some : 0 < s.size

-- the route with these steps is that of run k
pub record Laid (centre run : Points) (c : ℕ) (moves : List Move) (k : ℕ) (steps : List ℕ) : Type 0 where
  pub held : (route_to steps run).count ≤ length steps
  pub goes : steps_of (route_to steps run) ≡ steps_by (box64 centre centre) (box64 centre run) c moves k
