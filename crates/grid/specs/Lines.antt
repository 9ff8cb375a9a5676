-- The lines of one axis: "The columns are the distinct x values of all the job's points, the rows the distinct y values: at most 64 of each"
-- (01, Lines, boxes, meeting).
use Rattle.std.specs.Prelude.{◌≡◌, List, [], ◌∷◌, ◌++◌, ℕ, suc, ◌-◌, ◌<◌, ltb, length, get_or, take, drop}
use Rattle.network.specs.Lists.{each, count}
use Rattle.network.specs.Graph.{below}
use Rattle.network.specs.Grid.{Rising}
use Rattle.grid.specs.declared.Axis.{Axis}
use Rattle.grid.specs.Tables.{padded}

-- the values of the first n runs on one axis: of the first point and of the second, run after run
unfoldable pub values : List ℕ → List ℕ → ℕ → List ℕ
values first second n = each n (λ i. get_or first i 0 ∷ get_or second i 0 ∷ [])

-- an axis with the lines of a list, and the lines of an axis
abbrev pub axis_of : List ℕ → Axis
axis_of l = record { lines = padded 64 l; count = length l }

abbrev pub lines_of : Axis → List ℕ
lines_of a = take a.count a.lines

-- rising lines, with room for one more
pub record Room (a : Axis) : Type 0 where
  pub held : a ≡ axis_of (lines_of a)
  pub rises : Rising (lines_of a)
  pub room : a.count < 64

-- each of the first n lines is below the next
abbrev pub RisingTo : List ℕ → ℕ → Type 0
RisingTo l n = (i : ℕ) → suc i < n → get_or l i 0 < get_or l (suc i) 0

-- how many of the first n lines are below v: where v is one of them, and they rise, its index
unfoldable pub index_of : List ℕ → ℕ → ℕ → ℕ
index_of l n v = count (λ i. ltb (get_or l i 0) v) (below n)

-- the list with v at place k, and the others from there on behind it
abbrev pub put : ℕ → ℕ → List ℕ → List ℕ
put k v l = take k l ++ v ∷ drop k l

-- the length of the edges between line i and the next
abbrev pub length_at : List ℕ → ℕ → ℕ
length_at l i = get_or l (suc i) 0 - get_or l i 0
