-- Document 01's job 7 (Listing): its plan in the kinds of document 02, C-16, figure for figure and byte for byte, as the definitions compute it.
use mathlib.Core.Path.{◌≡◌, refl}
use mathlib.Core.List.{List, [], ◌∷◌, flat_map, flatten}
use Prim.Native.Nat.{ℕ, ◌+◌}
use Rattle.network.specs.Lists.{unique}
use Rattle.network.specs.Plane.{Point, Run, ◌to◌, gap, distance, same_point}
use Rattle.network.specs.Grid.{len, edges, spans, inside}
use Rattle.network.specs.Distinct.{insert}
use Rattle.network.specs.Route.{Route, level, lies, union_length}
use Rattle.network.specs.Graph.{overlap, meets, degree, is_centre, centres}
use Rattle.network.specs.Corners.{straight_on}
use Rattle.network.specs.Pits.{amid, passes_row, passes_column, crossing, crossings, pit_points, pits_of}
use Rattle.groups.specs.Groups.{reached, grown, spread, group_of, lowest, heads, group_count, centre_of}
use Rattle.plan.specs.Plan.{book_bytes, drawn_bytes, plan_bytes}

-- a point in decimetres, neither coordinate below 0
abbrev at : ℕ → ℕ → Point
at x y = record { x = 1000000 + x; y = 1000000 + y }

-- the job's runs
abbrev runs : List Run
runs = (at 0 0 to at 40 30) ∷ (at 0 10 to at 40 10) ∷ (at 20 20 to at 20 50) ∷ []

-- its one least plan, with every vertex listed
abbrev routes : List Route
routes =
    (at 0 0 ∷ at 0 10 ∷ at 20 10 ∷ at 40 10 ∷ at 40 20 ∷ at 40 30 ∷ [])
    ∷ (at 0 10 ∷ at 20 10 ∷ at 40 10 ∷ [])
    ∷ (at 20 20 ∷ at 20 30 ∷ at 20 50 ∷ [])
    ∷ []

-- trench 100, saved 40, pits 6, groups 1; corners 4, 2 and 2; the centre of all three is run 1
job_seven : plan_bytes 7 (1 ∷ 2 ∷ 3 ∷ []) runs routes
    ≡ 81 ∷ 7 ∷ 0 ∷ 0 ∷ 0 ∷ 3 ∷ 0 ∷ 100 ∷ 0 ∷ 0 ∷ 0 ∷ 40 ∷ 0 ∷ 0 ∷ 0 ∷ 6 ∷ 0 ∷ 1 ∷ 0
    ∷ 79 ∷ 1 ∷ 0 ∷ 2 ∷ 0 ∷ 4 ∷ 0 ∷ 1 ∷ 0
    ∷ 67 ∷ 0 ∷ 0 ∷ 0 ∷ 0 ∷ 0 ∷ 0 ∷ 0 ∷ 0
    ∷ 67 ∷ 0 ∷ 0 ∷ 0 ∷ 0 ∷ 10 ∷ 0 ∷ 0 ∷ 0
    ∷ 67 ∷ 40 ∷ 0 ∷ 0 ∷ 0 ∷ 10 ∷ 0 ∷ 0 ∷ 0
    ∷ 67 ∷ 40 ∷ 0 ∷ 0 ∷ 0 ∷ 30 ∷ 0 ∷ 0 ∷ 0
    ∷ 79 ∷ 2 ∷ 0 ∷ 1 ∷ 0 ∷ 2 ∷ 0 ∷ 1 ∷ 0
    ∷ 67 ∷ 0 ∷ 0 ∷ 0 ∷ 0 ∷ 10 ∷ 0 ∷ 0 ∷ 0
    ∷ 67 ∷ 40 ∷ 0 ∷ 0 ∷ 0 ∷ 10 ∷ 0 ∷ 0 ∷ 0
    ∷ 79 ∷ 3 ∷ 0 ∷ 1 ∷ 0 ∷ 2 ∷ 0 ∷ 1 ∷ 0
    ∷ 67 ∷ 20 ∷ 0 ∷ 0 ∷ 0 ∷ 20 ∷ 0 ∷ 0 ∷ 0
    ∷ 67 ∷ 20 ∷ 0 ∷ 0 ∷ 0 ∷ 50 ∷ 0 ∷ 0 ∷ 0
    ∷ 90 ∷ 8 ∷ 0 ∷ []
unfolding plan_bytes drawn_bytes book_bytes pits_of pit_points crossings crossing passes_row passes_column amid unique flatten flat_map union_length edges len spans level lies distance gap insert meets overlap inside degree is_centre centres reached grown spread group_of lowest heads group_count centre_of straight_on same_point
job_seven = refl
