-- What is known between the stages of planning.
use Rattle.std.specs.Prelude.{◌≡◌, true, List, map, ℕ, ◌+◌, ◌*◌, ◌≤◌, ◌<◌, length, get_or, []}
use Rattle.network.specs.Lists.{sum}
use Rattle.network.specs.Plane.{Run, gap, distance}
use Rattle.network.specs.Graph.{below}
use Rattle.network.specs.Hanan.{hanan}
use Rattle.network.specs.Distinct.{distinct}
use Rattle.network.specs.Route.{Route}
use Rattle.network.specs.Corners.{corners}
use Rattle.network.specs.Pits.{pits_of}
use Rattle.route.specs.Route.{corners_of}
use Rattle.route.specs.Marked.{Clear}
use Rattle.grid.specs.declared.Axis.{Axis}
use Rattle.grid.specs.Lines.{values, axis_of}
use Rattle.groups.specs.Groups.{group_count, all_stars}
use Rattle.intersection.specs.Centres.{meets_in, neighbour_sets, centres_at}
use Rattle.table.specs.Side.{PlacesOf}
use Rattle.table.specs.declared.side.Survey.{Survey}
use Rattle.route.specs.Stored.{tracks_of, routes_in}
use Rattle.laying.specs.Lease.{Layout, drawn_by, LaidOut}
use Rattle.job.specs.declared.Job.{Job}
use Rattle.job.specs.declared.Spans.{Spans}
use Rattle.planner.specs.declared.Grouped.{Grouped}
use Rattle.planner.specs.Call.{runs_of, Said, gives, refuses}
use Rattle.planner.specs.Forecast.{words_for, bytes_for}
use Rattle.planner.specs.Held.{runs_in, Held}

-- the lent words and bytes are those of the job's forecast or more
pub record Lent (j : Job) (work out : List ℕ) : Type 0 where
  pub words : words_for (runs_of (runs_in j)) ≤ length work
  pub bytes : bytes_for (runs_of (runs_in j)) ≤ length out

-- the groups of the job are stars with these centres, and its runs' neighbours are known
pub record Leased (j : Job) (neighbours centres : List ℕ) : Type 0 where
  pub held : Held j
  pub sets : neighbours ≡ neighbour_sets (meets_in (runs_of (runs_in j))) j.count
  pub stars : all_stars (meets_in (runs_of (runs_in j))) j.count ≡ true
  pub centres_are : centres ≡ centres_at (meets_in (runs_of (runs_in j))) j.count

-- ---- the lines, and the runs on them

-- on one axis: no line yet, and room for the places of 32 runs
pub record Blank (s : Survey) : Type 0 where
  pub no_lines : s.axis ≡ axis_of []
  pub firsts_room : length s.places.first ≡ 32
  pub seconds_room : length s.places.second ≡ 32

-- on one axis: the lines of n runs with these values, and the places of the runs' points among them
pub record Placing (first second : List ℕ) (n : ℕ) (s : Survey) : Type 0 where
  pub axis_is : s.axis ≡ axis_of (distinct (values first second n))
  pub firsts_are : PlacesOf s.axis.lines s.axis.count first n s.places.first
  pub seconds_are : PlacesOf s.axis.lines s.axis.count second n s.places.second
  pub few : s.axis.count ≤ 64

-- both axes of a job
pub record Surveyed (j : Job) (x y : Survey) : Type 0 where
  pub on_columns : Placing j.x.first j.x.second j.count x
  pub on_rows : Placing j.y.first j.y.second j.count y

-- no place of n runs' points on an axis is above 64, the most lines that it has
abbrev pub Within : Spans → ℕ → Type 0
Within places n = (k : ℕ) → k < n → (get_or places.first k 0 ≤ 64) × (get_or places.second k 0 ≤ 64)

-- how many steps from line to line the first n runs pass on one axis, together
unfoldable pub steps_on : Spans → ℕ → ℕ
steps_on places n = sum (λ k. gap (get_or places.first k 0) (get_or places.second k 0)) (below n)

-- ---- the routes

-- what is said of the job is so
pub record Settled (g : Grouped) : Type 0 where
  pub leased : Leased g.job.now g.neighbours.now g.centres.now
  pub surveyed : Surveyed g.job.now g.x.now g.y.now

-- how many steps a route has at most, one for each line
abbrev pub stride_of : Grouped → ℕ
stride_of g = g.x.now.axis.count + g.y.now.axis.count

-- there is room for the steps of all routes, and for the marks of the vertices, which are 0
pub record Scratch (g : Grouped) (routes marks : List ℕ) : Type 0 where
  pub steps_room : g.job.now.count * stride_of g ≤ length routes
  pub marks_room : g.y.now.axis.count * g.x.now.axis.count ≤ length marks
  pub clear : Clear marks

-- so many bytes are enough for either
pub record Ample (g : Grouped) (bytes : ℕ) : Type 0 where
  pub steps : g.job.now.count * stride_of g ≤ bytes
  pub marks : g.y.now.axis.count * g.x.now.axis.count ≤ bytes

-- the routes whose steps stand in some bytes, and what they save
abbrev pub laid_by : (saved : ℕ) (steps : List ℕ) → Grouped → Layout
laid_by saved steps g =
    let x = g.x.now.places in
    let y = g.y.now.places in
    record { saved = saved; routes = routes_in steps (stride_of g) (tracks_of x.first y.first x.second y.second) g.job.now.count }

-- the corners of the routes that are laid
abbrev pub own_of : List Run → Layout → List Route
own_of runs r = map corners (drawn_by runs r)

-- the axes have the lines of the job's grid
pub record Lined (runs : List Run) (columns rows : Axis) : Type 0 where
  pub columns_are : columns ≡ axis_of (hanan runs).columns
  pub rows_are : rows ≡ axis_of (hanan runs).rows

-- what the head is made from beside the job: its groups, the sum of its runs' distances, what its routes save, and their pits
pub record Heading (j : Job) (groups total saved pits : ℕ) (laid : Layout) : Type 0 where
  pub held : Held j
  pub groups_are : groups ≡ group_count (meets_in (runs_of (runs_in j))) j.count
  pub few : groups ≤ j.count
  pub total_is : total ≡ sum distance (runs_of (runs_in j))
  pub saved_is : saved ≡ laid.saved
  pub pits_are : pits ≡ pits_of (map corners_of laid.routes)
  pub few_pits : pits ≤ 4064
  pub laid_out : LaidOut (runs_of (runs_in j)) laid

-- ---- what C is told

-- a plan's length is small enough for it
abbrev pub Short : Said → Type 0
Short (gives n) = n ≤ 36886
Short (refuses number place) = Unit {0}
