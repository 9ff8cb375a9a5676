-- The two sides of a job, one a direction, hold its runs on the lines of a grid.
use Rattle.std.specs.Prelude.{◌≡◌, List, ℕ, ◌≤◌, ◌<◌, length, get_or}
use Rattle.network.specs.Plane.{Run}
use Rattle.network.specs.Grid.{Grid}
use Rattle.network.specs.Graph.{run_at, meets}
use Rattle.network.specs.Steps.{Dir, hor, ver}
use Rattle.sharing.specs.Box.{Box}
use Rattle.sharing.specs.View.{lines, View, Indexed, view_of, box_of}
use Rattle.intersection.specs.Sets.{has}
use Rattle.table.specs.Side.{Side, first_of, second_of}

-- the side of a direction
abbrev pub side_at : Side → Side → Dir → Side
side_at xs ys hor = xs
side_at xs ys ver = ys

-- the indexes of the lines of run k's first point
abbrev pub first_at : Side → Side → ℕ → Dir → ℕ
first_at xs ys k d = first_of (side_at xs ys d) k

-- and of its second point
abbrev pub second_at : Side → Side → ℕ → Dir → ℕ
second_at xs ys k d = second_of (side_at xs ys d) k

-- the sides hold the runs' lines on the grid, and the leaves are the runs that the centre c meets
pub record OnSides (grid : Grid) (runs : List Run) (xs ys : Side) (c leaves : ℕ) : Type 0 where
  pub few : length runs ≤ 32
  pub first_at_lem : (k : ℕ) → k < length runs → Indexed grid (run_at runs k).first (first_at xs ys k)
  pub second_at_lem : (k : ℕ) → k < length runs → Indexed grid (run_at runs k).second (second_at xs ys k)
  pub same_lines : (d : Dir) (i : ℕ) → i < length (lines grid d) → get_or (side_at xs ys d).lines i 0 ≡ get_or (lines grid d) i 0
  pub is_leaf : (k : ℕ) → k < length runs → has leaves k ≡ meets grid runs c k

-- the view of run c by the sides
abbrev pub view_by : Grid → Side → Side → ℕ → View
view_by grid xs ys = view_of grid (first_at xs ys) (second_at xs ys)

-- and the boxes in it
abbrev pub box_by : Grid → Side → Side → ℕ → ℕ → Box
box_by grid xs ys = box_of grid (first_at xs ys) (second_at xs ys)
