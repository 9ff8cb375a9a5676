-- Step lists: a route as steps from line to line in its run's own frame, which counts the columns and the rows that the run passes from its first
-- point to its second. The layers that build routes speak of these; the promise itself speaks of the routes that they draw.
use Rattle.std.specs.Prelude.{◌≡◌, List, [], ◌∷◌, ℕ, suc, ◌+◌, ◌-◌, ◌≤◌, ◌<◌, length, get_or}
use Rattle.network.specs.Plane.{Point, Run}
use Rattle.network.specs.Grid.{Grid, Edge, across_at, upward_at}
use Rattle.network.specs.Route.{Route}

-- a step goes along the row, to the next column, or along the column, to the next row
pub data Dir : Type 0 where
  hor ver : Dir

abbrev pub other : Dir → Dir
other hor = ver
other ver = hor

-- how many steps go along d
unfoldable pub steps : Dir → List Dir → ℕ
steps d [] = 0
steps hor (hor ∷ s) = suc (steps hor s)
steps hor (ver ∷ s) = steps hor s
steps ver (hor ∷ s) = steps ver s
steps ver (ver ∷ s) = suc (steps ver s)

-- The columns (or the rows) that a run passes, in the run's order: from the line with the index `start`, so many steps
-- forth (to higher indexes) or back (to lower ones).
pub data Lane : Type 0 where
  forth : (start steps : ℕ) → Lane
  back : (start steps : ℕ) → Lane

-- the number of steps
abbrev pub extent : Lane → ℕ
extent (forth a n) = n
extent (back a n) = n

-- the index of the line after i steps
abbrev pub at : Lane → ℕ → ℕ
at (forth a n) i = a + i
at (back a n) i = a - i

-- the lower of the indexes of the lines after i and after i + 1 steps
abbrev pub low : Lane → ℕ → ℕ
low (forth a n) i = a + i
low (back a n) i = a - suc i

-- the lane's lines are lines of the list
abbrev pub Fits : List ℕ → Lane → Type 0
Fits l (forth a n) = a + n < length l
Fits l (back a n) = (n ≤ a) × (a < length l)

-- the vertex where column i and row j of the grid cross
abbrev pub vertex : Grid → ℕ → ℕ → Point
vertex g i j = record { x = get_or g.columns i 0; y = get_or g.rows j 0 }

-- the vertex in column i and row j of two lanes
abbrev pub spot : Grid → Lane → Lane → ℕ → ℕ → Point
spot g X Y i j = vertex g (at X i) (at Y j)

-- X and Y are the run's frame: its columns and its rows, from its first point to its second
pub record Frame (g : Grid) (run : Run) (X Y : Lane) : Type 0 where
  pub columns_fit : Fits g.columns X
  pub rows_fit : Fits g.rows Y
  pub from : spot g X Y 0 0 ≡ run.first
  pub upto : spot g X Y (extent X) (extent Y) ≡ run.second

-- the step list passes the whole frame
pub record Complete (X Y : Lane) (s : List Dir) : Type 0 where
  pub all_columns : steps hor s ≡ extent X
  pub all_rows : steps ver s ≡ extent Y

-- the edge of the step from (i, j) along the row, and of the step along the column
abbrev pub row_edge : Grid → Lane → Lane → ℕ → ℕ → Edge
row_edge g X Y i j = across_at g (low X i) (at Y j)

abbrev pub column_edge : Grid → Lane → Lane → ℕ → ℕ → Edge
column_edge g X Y i j = upward_at g (at X i) (low Y j)

-- the vertices after each step, from (i, j) on
abbrev pub draw_from : Grid → Lane → Lane → ℕ → ℕ → List Dir → List Point
draw_from g X Y i j [] = []
draw_from g X Y i j (hor ∷ s) = spot g X Y (suc i) j ∷ draw_from g X Y (suc i) j s
draw_from g X Y i j (ver ∷ s) = spot g X Y i (suc j) ∷ draw_from g X Y i (suc j) s

-- the route of a step list: all its vertices
abbrev pub drawn : Grid → Lane → Lane → List Dir → Route
drawn g X Y s = spot g X Y 0 0 ∷ draw_from g X Y 0 0 s
