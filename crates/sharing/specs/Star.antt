-- A centre and its leaves on a grid: what the table is filled from, what routes share with the centre's, and what the best routes are. Runs are
-- known by their index in the job; the leaves of a run are the runs that it meets.
use Rattle.std.specs.Prelude.{◌≡◌, true, false, cond, List, [], ℕ, ◌+◌, ◌-◌, ◌≤◌, ◌<◌, eqb, length, get_or}
use Rattle.network.specs.Lists.{sum}
use Rattle.network.specs.Plane.{Run, distance}
use Rattle.network.specs.Grid.{Grid}
use Rattle.network.specs.Route.{Route, Routes, union_length, Least}
use Rattle.network.specs.Graph.{run_at, meets, below}
use Rattle.network.specs.Excess.{excess, shared}
use Rattle.network.specs.Steps.{Dir}
use Rattle.sharing.specs.Box.{Box, nowhere}
use Rattle.sharing.specs.Instance.{Instance}
use Rattle.sharing.specs.Trace.{Move}
use Rattle.sharing.specs.Walk.{dirs}
use Rattle.sharing.specs.Leaf.{leaf_steps}
use Rattle.sharing.specs.View.{View, width, Shows}

-- the centre c among runs that the boxes show
abbrev pub star_of : View → List Run → (ℕ → Box) → ℕ → Instance
star_of v runs box c =
    record {
      size = λ d. (box c).second d - (box c).first d;
      len = λ d s. width v d ((box c).first d + s);
      start = (box c).first;
      many = length runs;
      leaf = λ k. cond (meets v.grid runs c k) (box k) nowhere;
    }

-- In the view the centre c goes right and up, and no two of its leaves meet.
pub record Centred (v : View) (runs : List Run) (box : ℕ → Box) (c : ℕ) : Type 0 where
  pub listed : c < length runs
  pub shows : (k : ℕ) → k < length runs → Shows v (run_at runs k) (box k)
  pub rises : (d : Dir) → (box c).first d ≤ (box c).second d
  pub apart : (j k : ℕ) → meets v.grid runs c j ≡ true → meets v.grid runs c k ≡ true → meets v.grid runs j k ≡ false

-- the steps of run k, each run's in its own frame: the centre's moves, or a leaf's route by them
abbrev pub steps_of : Instance → ℕ → List Move → ℕ → List Dir
steps_of I c moves k = cond (eqb k c) (dirs moves) (leaf_steps I k moves)

abbrev pub route_at : List Route → ℕ → Route
route_at routes k = get_or routes k []

-- the length that the route of c shares with the routes of its leaves
unfoldable pub common : Grid → List Run → ℕ → List Route → ℕ
common g runs c routes =
    sum (λ k. cond (meets g runs c k) (shared g (route_at routes c) (route_at routes k)) 0) (below (length runs))

-- The routes save n, which no routes exceed: so they are a least plan, and their union is n shorter than the runs' distances together.
pub record Best (g : Grid) (runs : List Run) (routes : List Route) (n : ℕ) : Type 0 where
  pub most : (others : List Route) → Routes g runs others → excess g others ≤ n
  pub saves : excess g routes ≡ n
  pub least : Least g runs routes
  pub trench : union_length g routes + n ≡ sum distance runs
