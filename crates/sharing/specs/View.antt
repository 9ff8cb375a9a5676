-- The grid as the centre of a star sees it: in each direction the lines are counted as the centre goes, so that it goes right and up. A line is
-- known by its number in this order, and a run by a box of such numbers.
use Rattle.std.specs.Prelude.{◌≡◌, Bool, true, false, List, ℕ, suc, ◌-◌, ◌<◌, ltb, length, get_or}
use Rattle.network.specs.Plane.{Point, Run, ◌to◌}
use Rattle.network.specs.Grid.{Grid, Edge, across_at, upward_at}
use Rattle.network.specs.Steps.{Dir, hor, ver}
use Rattle.sharing.specs.Box.{Box}

abbrev pub lines : Grid → Dir → List ℕ
lines g hor = g.columns
lines g ver = g.rows

-- in each direction the lines of the grid are counted from the first one on or, if flipped, from the last one back
pub record View : Type 0 where
  pub grid : Grid
  pub flip : Dir → Bool

-- the view in which a run from lines with the indexes i to lines with the indexes j goes right and up
abbrev pub facing : Grid → (Dir → ℕ) → (Dir → ℕ) → View
facing g i j = record { grid = g; flip = λ d. ltb (j d) (i d) }

-- Of n lines: the index of the line with the number p, which is also the number of the line with the index p; and the lower of the indexes of the
-- lines with the numbers s and s + 1.
abbrev pub index : Bool → ℕ → ℕ → ℕ
index false n p = p
index true n p = n - suc p

abbrev pub lower : Bool → ℕ → ℕ → ℕ
lower false n s = s
lower true n s = n - suc (suc s)

module _ (v : View) where
  abbrev pub numbered : Dir → ℕ → ℕ
  numbered d p = index (v.flip d) (length (lines v.grid d)) p

  abbrev pub numbered_low : Dir → ℕ → ℕ
  numbered_low d s = lower (v.flip d) (length (lines v.grid d)) s

  -- the box of a run from lines with the indexes i to lines with the indexes j
  abbrev pub box_at : (Dir → ℕ) → (Dir → ℕ) → Box
  box_at i j = record { first = λ d. numbered d (i d); second = λ d. numbered d (j d) }

  -- the coordinate of the line with the number p
  abbrev pub coordinate : Dir → ℕ → ℕ
  coordinate d p = get_or (lines v.grid d) (numbered d p) 0

  abbrev pub point : (Dir → ℕ) → Point
  point p = record { x = coordinate hor (p hor); y = coordinate ver (p ver) }

  -- the run that a box shows
  abbrev pub shown : Box → Run
  shown b = point b.first to point b.second

  -- the edge along d from line s to line s + 1, on line t; and its length
  abbrev pub edge : Dir → ℕ → ℕ → Edge
  edge hor s t = across_at v.grid (numbered_low hor s) (numbered ver t)
  edge ver s t = upward_at v.grid (numbered hor t) (numbered_low ver s)

  abbrev pub width : Dir → ℕ → ℕ
  width d s = get_or (lines v.grid d) (suc (numbered_low d s)) 0 - get_or (lines v.grid d) (numbered_low d s) 0

-- the box has its points on the grid's lines, and shows the run
pub record Shows (v : View) (r : Run) (b : Box) : Type 0 where
  pub first_fits : (d : Dir) → b.first d < length (lines v.grid d)
  pub second_fits : (d : Dir) → b.second d < length (lines v.grid d)
  pub same_run : shown v b ≡ r

-- ---- runs by the indexes of their points' lines

-- a point's coordinate along d
abbrev pub coordinate_of : Point → Dir → ℕ
coordinate_of p hor = p.x
coordinate_of p ver = p.y

-- the point is where the lines with the indexes i cross
pub record Indexed (g : Grid) (p : Point) (i : Dir → ℕ) : Type 0 where
  pub fits : (d : Dir) → i d < length (lines g d)
  pub at_line : (d : Dir) → get_or (lines g d) (i d) 0 ≡ coordinate_of p d

-- run k goes from the lines `firsts k` to the lines `seconds k`
module _ (g : Grid) (firsts seconds : ℕ → Dir → ℕ) where
  -- the view of run c
  abbrev pub view_of : ℕ → View
  view_of c = facing g (firsts c) (seconds c)

  -- the box of run k in it
  abbrev pub box_of : ℕ → ℕ → Box
  box_of c k = box_at (view_of c) (firsts k) (seconds k)
