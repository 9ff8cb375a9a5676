-- Grids and their edges: "Vertices are all column and row crossings; an edge joins neighbouring vertices of one line, and its length is
-- their distance" (01, Lines, boxes, meeting). A grid may be any two rising lists of lines; the job's own is the Hanan grid (000, 2.2).
use Rattle.std.specs.Prelude.{List, [], ◌∷◌, ◌++◌, Bool, ◌&&◌, ℕ, suc, pred, ◌-◌, ◌<◌, min, max, leb, length, get_or}
use Rattle.network.specs.Lists.{each}
use Rattle.network.specs.Plane.{Run}

-- each number is below the next
abbrev pub Rising : List ℕ → Type 0
Rising l = (i : ℕ) → suc i < length l → get_or l i 0 < get_or l (suc i) 0

-- the x of the columns and the y of the rows
pub record Grid : Type 0 where
  pub columns : List ℕ
  pub rows : List ℕ
  pub columns_rise : Rising columns
  pub rows_rise : Rising rows

-- An edge joins two neighbouring vertices: `across x x' y` goes along the row y from column x to the next column x',
-- and `upward x y y'` along the column x from row y to the next row y'.
pub data Edge : Type 0 where
  across : ℕ → ℕ → ℕ → Edge
  upward : ℕ → ℕ → ℕ → Edge

unfoldable pub len : Edge → ℕ
len (across x x' y) = x' - x
len (upward x y y') = y' - y

-- the edge that starts at column i and row j
abbrev pub across_at : Grid → ℕ → ℕ → Edge
across_at g i j = across (get_or g.columns i 0) (get_or g.columns (suc i) 0) (get_or g.rows j 0)

abbrev pub upward_at : Grid → ℕ → ℕ → Edge
upward_at g i j = upward (get_or g.columns i 0) (get_or g.rows j 0) (get_or g.rows (suc j) 0)

-- all edges of the grid, each once
unfoldable pub edges : Grid → List Edge
edges g =
    each (pred (length g.columns)) (λ i. each (length g.rows) (λ j. across_at g i j ∷ []))
    ++ each (length g.columns) (λ i. each (pred (length g.rows)) (λ j. upward_at g i j ∷ []))

-- the way between a and b, whichever is the larger, has the stretch from lo to hi in it
unfoldable pub spans : ℕ → ℕ → ℕ → ℕ → Bool
spans a b lo hi = leb (min a b) lo && leb hi (max a b)

-- the edge lies in the run's box, "the smallest upright rectangle holding its two points" (01; B in 000, 2.3)
unfoldable pub inside : Edge → Run → Bool
inside (across x x' y) r = spans r.first.x r.second.x x x' && spans r.first.y r.second.y y y
inside (upward x y y') r = spans r.first.x r.second.x x x && spans r.first.y r.second.y y y'
