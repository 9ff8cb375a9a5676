-- The bytes of a plan (01, Plan book; 02, C-16): first from given figures, then of a job's routes, with every figure measured on the routes that the corner
-- records draw.
use Rattle.std.specs.Prelude.{Bool, true, ℕ, suc, ◌-◌, length, get_or}
use mathlib.Core.List.{List, [], ◌∷◌, ◌++◌, map, flat_map}
use Rattle.network.specs.Lists.{sum}
use Rattle.network.specs.Plane.{Run, distance}
use Rattle.network.specs.Hanan.{hanan}
use Rattle.network.specs.Route.{Route, union_length}
use Rattle.network.specs.Graph.{meets, below, degree}
use Rattle.network.specs.Corners.{corners}
use Rattle.network.specs.Pits.{pits_of}
use Rattle.groups.specs.Groups.{group_count, centre_of}
use Rattle.plan.specs.declared.Head.{Head}
use Rattle.plan.specs.Records.{head_record, route_record, corner_record, end_record}

-- ---- from given figures

-- what a plan says of a run: its number, its meets figure, the run number of its group's centre (0 in an older plan) and the corners of its route
pub record Entry : Type 0 where
  pub number : ℕ
  pub meets : ℕ
  pub centre : ℕ
  pub corners : Route

-- a route record, followed by its corners
abbrev pub entry_bytes : (grouped : Bool) → Entry → List ℕ
entry_bytes grouped e = route_record grouped e.number e.meets (length e.corners) e.centre ++ flat_map corner_record e.corners

abbrev pub total_corners : List Entry → ℕ
total_corners es = sum (λ e. length e.corners) es

-- "There is one route record for each run of the job; they stand in job order, each followed by its corners"; all are of the head's set of kinds
unfoldable pub book_bytes : Head → List Entry → List ℕ
book_bytes head es = head_record head ++ (flat_map (entry_bytes head.grouped) es ++ end_record (total_corners es))

-- the entries of routes, given by their corners, of the runs from index i on
abbrev pub entries_from : (number meets centre : ℕ → ℕ) → ℕ → List Route → List Entry
entries_from number meets centre i [] = []
entries_from number meets centre i (c ∷ routes) =
    record { number = number i; meets = meets i; centre = centre i; corners = c } ∷ entries_from number meets centre (suc i) routes

-- ---- of a job's routes

-- "Trench is the length of their union; saved is the sum of all runs' Manhattan distances less trench." Pits are those of document 02, C-14, and the number
-- of groups is that of C-16. `own` are the plan's own routes, those that its corner records draw.
abbrev pub head_of : (job : ℕ) → List Run → (own : List Route) → Head
head_of job runs own =
    record {
      grouped = true;
      job = job;
      runs = length runs;
      trench = union_length (hanan runs) own;
      saved = sum distance runs - union_length (hanan runs) own;
      pits = pits_of own;
      last = group_count (meets (hanan runs) runs) (length runs);
    }

-- "Each run's meets figure is the exact count of runs that it meets."
abbrev pub meets_of : List Run → ℕ → ℕ
meets_of runs i = degree (meets (hanan runs) runs) (below (length runs)) i

-- "the group's centre", told by its run number
abbrev pub centre_figure : (numbers : List ℕ) → List Run → ℕ → ℕ
centre_figure numbers runs i = get_or numbers (centre_of (meets (hanan runs) runs) (length runs) i) 0

-- the plan whose corner records draw the routes
unfoldable pub drawn_bytes : (job : ℕ) (numbers : List ℕ) → List Run → (own : List Route) → List ℕ
drawn_bytes job numbers runs own =
    book_bytes (head_of job runs own) (entries_from (λ i. get_or numbers i 0) (meets_of runs) (centre_figure numbers runs) 0 own)

-- the plan of some routes: its corners are their ends and turns
unfoldable pub plan_bytes : (job : ℕ) (numbers : List ℕ) → List Run → List Route → List ℕ
plan_bytes job numbers runs routes = drawn_bytes job numbers runs (map corners routes)
