-- What the contracts between speak of: a book as it was read, what is known of a job, and the marks of its routes.
use Rattle.std.specs.Prelude.{◌≡◌, Bool, true, ◌&&◌, ◌||◌, List, ℕ, suc, ◌+◌, ◌*◌, ◌≤◌, ◌<◌, eqb, length, get_or, replicate}
use Rattle.network.specs.Lists.{sum, every}
use Rattle.network.specs.Plane.{Run, distance, ◌to◌}
use Rattle.network.specs.Grid.{Grid}
use Rattle.network.specs.Hanan.{hanan}
use Rattle.network.specs.Route.{Route, pieces, Straight, on}
use Rattle.network.specs.Graph.{meets, origin, run_at, below}
use Rattle.network.specs.Passes.{among}
use Rattle.network.specs.Steps.{hor, ver, vertex}
use Rattle.groups.specs.Groups.{group_count}
use Rattle.grid.specs.declared.Axis.{Axis}
use Rattle.job.specs.declared.Job.{Job}
use Rattle.job.specs.Fields.{word4, biased_of}
use Rattle.job.specs.Written.{Bytes}
use Rattle.plan.specs.declared.Head.{Head}
use Rattle.plan.specs.Plan.{Entry, head_of, meets_of, centre_figure}
use Rattle.plan.specs.Fits.{PointIn}
use Rattle.book.specs.Parse.{accepted, parse_plan}
use Rattle.book.specs.Reading.{places_of}
use Rattle.book.specs.declared.Corner.{Corner}
use Rattle.book.specs.declared.Reading.{Reading}
use Rattle.route.specs.declared.Vertex.{Vertex}
use Rattle.measure.specs.Marks.{is_marked, Marked, Ruled}
use Rattle.planner.specs.Call.{runs_of, numbers_of}
use Rattle.planner.specs.Held.{runs_in, Held}
use Rattle.planner.specs.Stages.{Lined}
use Rattle.judge.specs.declared.Known.{Known}
use Rattle.judge.specs.declared.routes.Marks.{Marks}
use Rattle.judge.specs.True.{drawn_in}
use Rattle.judge.specs.Judged.{starts_at, ends_at, is_manhattan, entry_at}

-- the book was accepted as a head and these entries, and the reading has the head and their places
pub record ReadAs (book : List ℕ) (r : Reading) (es : List Entry) : Type 0 where
  pub parsed : parse_plan book ≡ accepted r.head es
  pub placed : r.places ≡ places_of (accepted r.head es)
  pub bytes : Bytes book

-- what is known is that of the job
pub record Knows (k : Known) : Type 0 where
  pub held : Held k.job
  pub meets_are : (i : ℕ) → i < k.job.count → get_or k.meets i 0 ≡ meets_of (runs_of (runs_in k.job)) i
  pub centres_are : (i : ℕ) → i < k.job.count → get_or k.centres i 0 ≡ centre_figure (numbers_of (runs_in k.job)) (runs_of (runs_in k.job)) i
  pub groups_are : k.groups ≡ group_count (meets (hanan (runs_of (runs_in k.job))) (runs_of (runs_in k.job))) (length (runs_of (runs_in k.job)))
  pub total_is : k.total ≡ sum distance (runs_of (runs_in k.job))
  pub lined : Lined (runs_of (runs_in k.job)) k.columns k.rows

-- the axes have the lines of the job's grid
abbrev pub Lines : Job → (columns rows : Axis) → Type 0
Lines j columns rows =
    Ruled (hanan (runs_of (runs_in j))) columns.lines columns.count rows.lines rows.count × (columns.count ≤ 64) × (rows.count ≤ 64)

-- the corner record that stands at a place
abbrev pub corner_there : List ℕ → ℕ → Corner
corner_there book at = record { x = biased_of (word4 book (at + 1)); y = biased_of (word4 book (at + 5)) }

-- some corners stand one behind the other from a place on, as the reader takes them
pub record Drawn (book : List ℕ) (at : ℕ) (route : Route) : Type 0 where
  pub within : at + 9 * length route ≤ length book
  pub some : 0 < length route
  pub few : length route ≤ 127
  pub x_is : (j : ℕ) → j < length route → (corner_there book (at + 9 * j)).x ≡ (get_or route j origin).x
  pub y_is : (j : ℕ) → j < length route → (corner_there book (at + 9 * j)).y ≡ (get_or route j origin).y
  pub in_range : (j : ℕ) → j < length route → PointIn (get_or route j origin)
  pub straight : (j : ℕ) → suc j < length route → Straight (get_or route j origin to get_or route (suc j) origin)

-- a route of so many corners, on a grid whose lines the axes have
pub record Shown (g : Grid) (route : Route) (book : List ℕ) (at n : ℕ) (columns rows : Axis) : Type 0 where
  pub drawn : Drawn book at route
  pub many : n ≡ length route
  pub ruled : Ruled g columns.lines columns.count rows.lines rows.count

-- ---- the tests of a route, in the order in which they are made

-- it goes from the run's first point to its second, and is no longer than it must be
unfoldable pub ends_right : Run → Route → Bool
ends_right run route = starts_at route run.first && (ends_at route run.second && eqb (sum distance (pieces route)) (distance run))

-- what is measured on the routes is what the head says
unfoldable pub is_measured : List Run → Head → List Entry → Bool
is_measured runs h es =
    every (λ i. is_manhattan (hanan runs) (run_at runs i) (entry_at es i).corners) (below (length runs))
    && (eqb h.trench (head_of 0 runs (drawn_in es)).trench && (eqb h.saved (head_of 0 runs (drawn_in es)).saved && eqb h.pits (head_of 0 runs (drawn_in es)).pits))

-- ---- marks

-- the three tables of marks have a mark for every vertex
pub record Sized (marks : Marks) : Type 0 where
  pub corners_size : length marks.corners ≡ 4096
  pub right_size : length marks.right ≡ 4096
  pub up_size : length marks.up ≡ 4096

-- the marks of no route: no vertex and no edge is marked
abbrev pub no_marks : Marks
no_marks = record { corners = replicate 4096 0; right = replicate 4096 0; up = replicate 4096 0 }

-- from the marks ms to ns, a vertex was marked, and nothing else
pub record Dotted (v : Vertex) (ms ns : Marks) : Type 0 where
  pub size : length ns.corners ≡ 4096
  pub marked : (i j : ℕ) → i < 64 → j < 64
      → is_marked ns.corners (j * 64 + i) ≡ (is_marked ms.corners (j * 64 + i) || (eqb i v.column && eqb j v.row))
  pub right_stays : ns.right ≡ ms.right
  pub up_stays : ns.up ≡ ms.up

-- the corners of a route were marked, and no other
pub record Cornered (g : Grid) (route : Route) (ms ns : List ℕ) : Type 0 where
  pub size : length ns ≡ 4096
  pub marked : (i j : ℕ) → i < length g.columns → j < length g.rows → is_marked ns (j * 64 + i) ≡ (is_marked ms (j * 64 + i) || among (vertex g i j) route)

-- a route was marked
pub record RouteMarked (g : Grid) (route : Route) (ms ns : Marks) : Type 0 where
  pub at_corners : Cornered g route ms.corners ns.corners
  pub to_right : Marked g hor (λ e. on e route) ms.right ns.right
  pub upwards : Marked g ver (λ e. on e route) ms.up ns.up

-- the answer is that of a test, and if it holds, the route was marked
pub record Tried (g : Grid) (test : Bool) (route : Route) (ms ns : Marks) (r : Bool) : Type 0 where
  pub decides : r ≡ test
  pub marks : r ≡ true → RouteMarked g route ms ns
