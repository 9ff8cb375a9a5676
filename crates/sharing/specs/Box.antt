-- Boxes by the numbers of their lines: "A run's box is the smallest upright rectangle holding its two points" (01, Lines, boxes, meeting).
-- A place is a number for each direction: along `hor` the column's, along `ver` the row's. An edge is known by its direction d, the line s along
-- d where it begins (it leads to s + 1), and the line t across, on which it lies.
use Rattle.std.specs.Prelude.{Bool, ◌&&◌, ◌||◌, ℕ, suc, min, max, leb, ltb}
use Rattle.network.specs.Steps.{Dir, hor, ver, other}

-- a run by the places of its two points
pub record Box : Type 0 where
  pub first : Dir → ℕ
  pub second : Dir → ℕ

-- the lowest line of a box along d, and the highest
unfoldable pub lo : Box → Dir → ℕ
lo b d = min (b.first d) (b.second d)

unfoldable pub hi : Box → Dir → ℕ
hi b d = max (b.first d) (b.second d)

-- the line s passes the box
unfoldable pub passes : Box → Dir → ℕ → Bool
passes b d s = leb (lo b d) s && leb s (hi b d)

-- the edge lies in the box
unfoldable pub lies_in : Box → Dir → ℕ → ℕ → Bool
lies_in b d s t = passes b d s && passes b d (suc s) && passes b (other d) t

-- the box of a single point, in which no edge lies
abbrev pub nowhere : Box
nowhere = record { first = λ d. 0; second = λ d. 0 }

-- Taken from its left end, the run goes down (01: "Turn a run so that its first x is the smaller. It is regular if y does not fall"). A straight
-- run never does.
unfoldable pub falls : Box → Bool
falls b =
    ltb (b.first hor) (b.second hor) && ltb (b.second ver) (b.first ver)
    || ltb (b.second hor) (b.first hor) && ltb (b.first ver) (b.second ver)
