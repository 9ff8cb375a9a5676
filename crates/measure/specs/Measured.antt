-- What is measured on marks: the length of the edges, and the pits.
use Rattle.std.specs.Prelude.{Bool, cond, ◌&&◌, ◌||◌, List, ℕ, ◌+◌, ◌*◌, ◌≤◌, get_or}
use Rattle.network.specs.Lists.{sum, count}
use Rattle.network.specs.Graph.{below}
use Rattle.measure.specs.Marks.{is_marked}

-- no length is above 2,000,000
abbrev pub Short : List ℕ → Type 0
Short l = (i : ℕ) → get_or l i 0 ≤ 2000000

-- the length of the marked edges that start at the first so many vertices of a row
unfoldable pub row_trench : (right up widths : List ℕ) (height row : ℕ) → ℕ → ℕ
row_trench right up widths height row across =
    sum (λ i. cond (is_marked right (row * 64 + i)) (get_or widths i 0) 0 + cond (is_marked up (row * 64 + i)) height 0) (below across)

-- and in the first so many rows
unfoldable pub trench_in : (right up widths : List ℕ) (across : ℕ) (heights : List ℕ) → ℕ → ℕ
trench_in right up widths across heights down = sum (λ j. row_trench right up widths (get_or heights j 0) j across) (below down)

-- a corner, or edges to the right and upwards
abbrev pub pit_in : (corners right up : List ℕ) → ℕ → Bool
pit_in corners right up m = is_marked corners m || is_marked right m && is_marked up m

unfoldable pub row_pits : (corners right up : List ℕ) (row : ℕ) → ℕ → ℕ
row_pits corners right up row across = count (λ i. pit_in corners right up (row * 64 + i)) (below across)

unfoldable pub pits_in : (corners right up : List ℕ) (across : ℕ) → ℕ → ℕ
pits_in corners right up across down = sum (λ j. row_pits corners right up j across) (below down)
