-- The routes of a lease while they are laid: the runs are taken in job order, and where a run is its own centre its table is filled, its moves are traced, and
-- the routes of the runs that have this centre are laid. "Demand 3 holds for the whole lease, all groups together" (02, C-16).
use Rattle.std.specs.Prelude.{◌≡◌, true, List, map, ℕ, ◌+◌, ◌*◌, ◌≤◌, ◌<◌, length, get_or, take, drop}
use Rattle.network.specs.Lists.{All}
use Rattle.network.specs.Plane.{Run, gap}
use Rattle.network.specs.Hanan.{hanan}
use Rattle.network.specs.Route.{Route}
use Rattle.network.specs.Graph.{meets}
use Rattle.network.specs.Steps.{Dir}
use Rattle.sharing.specs.Instance.{Instance}
use Rattle.sharing.specs.Table.{Table, Exact, figure}
use Rattle.sharing.specs.Trace.{Move}
use Rattle.sharing.specs.Walk.{Traced}
use Rattle.sharing.specs.View.{lines}
use Rattle.sharing.specs.Star.{star_of, Best}
use Rattle.grid.specs.Lines.{length_at}
use Rattle.table.specs.Side.{Side, first_of, second_of}
use Rattle.table.specs.OnSides.{side_at, OnSides, view_by, box_by}
use Rattle.route.specs.Route.{Route as Steps, drawn_of, OnGrid}
use Rattle.layout.specs.Points.{points_of}
use Rattle.layout.specs.Laid.{Layable, Laid}
use Rattle.groups.specs.Groups.{all_stars, centre_of}

-- the words of a table over the whole grid of some runs: four a vertex
abbrev pub table_words : List Run → ℕ
table_words runs = length (hanan runs).columns * length (hanan runs).rows * 4

-- the sides have n runs, whose groups are stars with these centres, and each run's neighbours are a set
pub record LeaseSurveyed (runs : List Run) (xs ys : Side) (n : ℕ) (centres neighbours : List ℕ) : Type 0 where
  pub count : length runs ≡ n
  pub few : n ≤ 32
  pub surveyed : (c : ℕ) → c < n → OnSides (hanan runs) runs xs ys c (get_or neighbours c 0)
  pub few_lines : (d : Dir) → length (lines (hanan runs) d) ≤ 64
  pub short : (d : Dir) (i : ℕ) → length_at (side_at xs ys d).lines i ≤ 2000000
  pub stars : all_stars (meets (hanan runs) runs) (length runs) ≡ true
  pub centres_are : (i : ℕ) → i < n → get_or centres i 0 ≡ centre_of (meets (hanan runs) runs) (length runs) i

-- there is room for the steps of n runs, `stride` bytes for each
pub record Roomy (xs ys : Side) (n stride : ℕ) (routes : List ℕ) : Type 0 where
  pub enough : (k : ℕ) → k < n → gap (first_of xs k) (second_of xs k) + gap (first_of ys k) (second_of ys k) ≤ stride
  pub room : n * stride ≤ length routes

-- the bytes for the steps of run k
abbrev pub block_of : List ℕ → ℕ → ℕ → List ℕ
block_of bytes stride k = take stride (drop (k * stride) bytes)

-- ---- one group

module _ (xs ys : Side) (n : ℕ) (centres : List ℕ) (c : ℕ) (moves : List Move) where
  -- those of the first n runs that have the centre c can be laid by its moves, and c is one of them
  pub record GroupLayable : Type 0 where
    pub few : n ≤ 32
    pub centre : c < n
    pub own : get_or centres c 0 ≡ c
    pub layable : (k : ℕ) → k < n → get_or centres k 0 ≡ c → Layable (points_of xs ys c) (points_of xs ys k) c moves k

  -- they are laid, each with its steps
  abbrev pub GroupLaid : (ℕ → List ℕ) → Type 0
  GroupLaid steps = (k : ℕ) → k < n → get_or centres k 0 ≡ c → Laid (points_of xs ys c) (points_of xs ys k) c moves k (steps k)

  -- they are laid, and all other runs have their old steps
  pub record GroupWritten (old new : ℕ → List ℕ) : Type 0 where
    pub laid : GroupLaid new
    pub others : (k : ℕ) → (k < n → get_or centres k 0 ≡ c → ⊥) → new k ≡ old k

module _ (runs : List Run) (xs ys : Side) (centres : List ℕ) where
  -- the centre c among its leaves
  abbrev pub star_at : ℕ → Instance
  star_at c = star_of (view_by (hanan runs) xs ys c) runs (box_by (hanan runs) xs ys c) c

  -- the group of c is laid: by moves that are traced in a table with the rules, which says that `size` is shared
  pub record Served (c size : ℕ) (steps : ℕ → List ℕ) : Type 0 where
    pub table : Table
    pub moves : List Move
    pub exact : Exact (star_at c) table
    pub traced : Traced (star_at c) table moves
    pub says : figure (star_at c) table ≡ size
    pub laid : GroupLaid xs ys (length runs) centres c moves steps

  -- the moves fit the group of c, and steps that are laid by them serve it
  pub record Serving (n c : ℕ) (moves : List Move) (size : ℕ) : Type 0 where
    pub layable : GroupLayable xs ys n centres c moves
    pub serves : (steps : ℕ → List ℕ) → GroupLaid xs ys n centres c moves steps → Served c size steps

-- ---- the routes

-- a route for each run, and what they save together
pub record Layout : Type 0 where
  pub saved : ℕ
  pub routes : List Steps

-- the routes that the runs' steps draw on the job's grid
abbrev pub drawn_by : List Run → Layout → List Route
drawn_by runs r = map (drawn_of (hanan runs)) r.routes

-- they are routes on the job's grid, and save the most
pub record LaidOut (runs : List Run) (r : Layout) : Type 0 where
  pub best : Best (hanan runs) runs (drawn_by runs r) r.saved
  pub on_grid : All (OnGrid (hanan runs)) r.routes
  pub full : length r.routes ≡ length runs
