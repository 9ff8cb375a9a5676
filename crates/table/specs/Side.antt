-- The runs of a job on one axis, by the positions of their points among the axis' lines, and the sets of leaves whose box has a line. "A run's box is
-- the smallest upright rectangle holding its two points" (01, Lines, boxes, meeting).
use Rattle.std.specs.Prelude.{◌≡◌, Bool, ◌&&◌, List, ℕ, suc, ◌≤◌, ◌<◌, min, max, leb, get_or}
use Rattle.grid.specs.declared.Axis.{Axis}
use Rattle.grid.specs.Lines.{index_of}
use Rattle.intersection.specs.Sets.{has, pack}
use Rattle.table.specs.declared.side.Survey.{Survey}

-- the runs on one axis: the positions of their first and of their second points among the axis' lines, and these lines
pub record Side : Type 0 where
  pub first : List ℕ
  pub second : List ℕ
  pub lines : List ℕ

-- the side that three arrays hold
abbrev pub side_of : List ℕ → List ℕ → List ℕ → Side
side_of first second lines = record { first = first; second = second; lines = lines }

-- the side of a survey
abbrev pub side_by : Survey → Side
side_by s = side_of s.places.first s.places.second s.axis.lines

-- l holds the positions of n values among the first m lines
abbrev pub PlacesOf : List ℕ → ℕ → List ℕ → ℕ → List ℕ → Type 0
PlacesOf lines m values n l = (k : ℕ) → k < n → get_or l k 0 ≡ index_of lines m (get_or values k 0)

-- the side holds n runs with these values on the axis
pub record Sided (axis : Axis) (first second : List ℕ) (n : ℕ) (s : Side) : Type 0 where
  pub firsts : PlacesOf axis.lines axis.count first n s.first
  pub seconds : PlacesOf axis.lines axis.count second n s.second
  pub same_lines : s.lines ≡ axis.lines

-- the position of the first point of run k
abbrev pub first_of : Side → ℕ → ℕ
first_of s k = get_or s.first k 0

-- and of its second point
abbrev pub second_of : Side → ℕ → ℕ
second_of s k = get_or s.second k 0

-- every position of the first n runs is that of one of 64 lines
abbrev pub Placed : (first second : List ℕ) → ℕ → Type 0
Placed first second n = (k : ℕ) → k < n → (get_or first k 0 < 64) × (get_or second k 0 < 64)

-- no line up to the positions p and q is above the next
abbrev pub Rises : List ℕ → ℕ → ℕ → Type 0
Rises lines p q = (i : ℕ) → i < max p q → get_or lines i 0 ≤ get_or lines (suc i) 0

-- a box from position p to position q has line i
unfoldable pub covers : ℕ → ℕ → ℕ → Bool
covers p q i = leb (min p q) i && leb i (max p q)

-- run k is a leaf, and its box has line i
unfoldable pub leaf_on : (first second : List ℕ) → ℕ → ℕ → ℕ → Bool
leaf_on first second leaves i k = has leaves k && covers (get_or first k 0) (get_or second k 0) i

-- the leaves whose box has line i, of n runs
unfoldable pub leaves_on : (first second : List ℕ) → ℕ → ℕ → ℕ → ℕ
leaves_on first second n leaves i = pack (leaf_on first second leaves i) n
