-- The forecast of a job, "made from the job alone without planning. It refuses a job that is not well formed with the planner's number and place, and never
-- gives 11. Words are 4 times columns times rows. Bytes are 22, and for each run 9 plus 9 times one less than the columns and rows that touch its box"
-- (02, C-20).
use Rattle.std.specs.Prelude.{List, ℕ, ◌+◌, ◌-◌, ◌*◌, length}
use Rattle.network.specs.Lists.{sum, count}
use Rattle.network.specs.Plane.{Run}
use Rattle.network.specs.Grid.{Grid, spans}
use Rattle.network.specs.Hanan.{hanan}
use Rattle.planner.specs.declared.Needs.{Needs}

-- how many of the lines touch a box that reaches from a to b
unfoldable pub touching : List ℕ → ℕ → ℕ → ℕ
touching lines a b = count (λ v. spans a b v v) lines

-- the columns and rows that touch the run's box
abbrev pub lines_at : Grid → Run → ℕ
lines_at g r = touching g.columns r.first.x r.second.x + touching g.rows r.first.y r.second.y

abbrev pub words_for : List Run → ℕ
words_for runs = length (hanan runs).columns * length (hanan runs).rows * 4

abbrev pub bytes_for : List Run → ℕ
bytes_for runs = 22 + sum (λ r. 9 + 9 * (lines_at (hanan runs) r - 1)) runs

abbrev pub needs_of : List Run → Needs
needs_of runs = record { words = words_for runs; bytes = bytes_for runs }
