-- What a planner lays for each centre of a lease, group after group: the centre's view and the boxes in it, its table, and the moves traced in the
-- table. "Demand 3 holds for the whole lease, all groups together" (02, C-16).
use Rattle.std.specs.Prelude.{◌≡◌, Bool, List, map, ℕ, ◌<◌, length}
use Rattle.network.specs.Plane.{Run}
use Rattle.network.specs.Grid.{Grid}
use Rattle.network.specs.Route.{Route}
use Rattle.network.specs.Steps.{Dir, Lane, drawn}
use Rattle.sharing.specs.Box.{Box}
use Rattle.sharing.specs.Instance.{Instance}
use Rattle.sharing.specs.Table.{Table, Exact, figure}
use Rattle.sharing.specs.Trace.{Move}
use Rattle.sharing.specs.Walk.{Traced}
use Rattle.sharing.specs.View.{View}
use Rattle.sharing.specs.Star.{star_of, Centred, steps_of, route_at}

-- the routes of a group of runs
abbrev pub routes_in : List Route → List ℕ → List Route
routes_in routes group = map (route_at routes) group

-- what is worked out for one centre
pub record Sheet : Type 0 where
  pub flip : Dir → Bool
  pub box : ℕ → Box
  pub table : Table
  pub moves : List Move

module _ (g : Grid) (runs : List Run) where
  -- the centre's view, and the centre among its leaves
  abbrev pub view_by : Sheet → View
  view_by s = record { grid = g; flip = s.flip }

  abbrev pub star_by : Sheet → ℕ → Instance
  star_by s c = star_of (view_by s) runs s.box c

  -- In a lease with these centres the sheet is that of c: in its view c goes right and up, the table has the rules and says that `size` is shared, the moves are
  -- traced in it, and the routes of the runs whose centre is c are drawn by them, each in a frame of its run.
  pub record GroupDrawn (centre : ℕ → ℕ) (X Y : ℕ → Lane) (routes : List Route) (c size : ℕ) (s : Sheet) : Type 0 where
    pub centred : Centred (view_by s) runs s.box c
    pub exact : Exact (star_by s c) s.table
    pub says : figure (star_by s c) s.table ≡ size
    pub traced : Traced (star_by s c) s.table s.moves
    pub drawn_by : (k : ℕ) → k < length runs → centre k ≡ c → route_at routes k ≡ drawn g (X k) (Y k) (steps_of (star_by s c) c s.moves k)
