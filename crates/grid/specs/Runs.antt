-- The runs of a job, held in four arrays of coordinates: run i goes from the point (x1 i, y1 i) to the point (x2 i, y2 i).
use Rattle.std.specs.Prelude.{List, ℕ, get_or}
use Rattle.network.specs.Plane.{Point, Run, ◌to◌}
use Rattle.grid.specs.Tables.{table}

-- point i of two arrays
abbrev pub point_at : List ℕ → List ℕ → ℕ → Point
point_at x y i = record { x = get_or x i 0; y = get_or y i 0 }

-- run i of four arrays
abbrev pub run_held : List ℕ → List ℕ → List ℕ → List ℕ → ℕ → Run
run_held x1 y1 x2 y2 i = point_at x1 y1 i to point_at x2 y2 i

-- the first n runs
unfoldable pub runs_held : List ℕ → List ℕ → List ℕ → List ℕ → ℕ → List Run
runs_held x1 y1 x2 y2 n = table (run_held x1 y1 x2 y2) n
