-- The centre's frame: columns and rows are counted from the centre's first point to its second, whichever way that is on the grid, and each line of
-- the frame has the set of the leaves whose box has it.
use Rattle.std.specs.Prelude.{◌≡◌, Bool, true, false, cond, ◌&&◌, ◌||◌, List, ℕ, zero, suc, ◌+◌, ◌-◌, ◌≤◌, ltb, get_or}
use Rattle.std.specs.Int.Bits.{bit_and}
use Rattle.network.specs.Plane.{gap}
use Rattle.grid.specs.Lines.{length_at}
use Rattle.intersection.specs.Sets.{pack}
use Rattle.table.specs.declared.frame.Line.{Line}
use Rattle.table.specs.declared.frame.Frame.{Frame}
use Rattle.table.specs.Side.{Side, first_of, second_of, leaves_on}

-- ---- the group

-- a centre and its leaves: w columns and h rows of the centre's frame, and the leaves that slope the other way than the centre
pub record Group : Type 0 where
  pub cols : ℕ → Line
  pub rows : ℕ → Line
  pub cross : ℕ
  pub w : ℕ
  pub h : ℕ

-- a line that has nothing
abbrev pub no_line : Line
no_line = record { on = 0; into = 0; len = 0 }

-- line i of an array of lines
abbrev pub line_in : List Line → ℕ → Line
line_in t i = get_or t i no_line

-- the group in a frame
abbrev pub group_of : Frame → Group
group_of f = record { cols = line_in f.cols; rows = line_in f.rows; cross = f.cross; w = f.w; h = f.h }

-- ---- the lines that a run from position p to position q passes

-- the line after i steps
unfoldable pub line_of : ℕ → ℕ → ℕ → ℕ
line_of p q i = cond (ltb q p) (p - i) (p + i)

-- the lower one of the lines after i and after i + 1 steps
unfoldable pub lower_of : ℕ → ℕ → ℕ → ℕ
lower_of p q i = cond (ltb q p) (p - suc i) (p + i)

-- line i of the frame, from the sets at the grid's lines and the lengths between them
unfoldable pub frame_line : (ℕ → ℕ) → (ℕ → ℕ) → ℕ → ℕ → ℕ → Line
frame_line on len p q zero = record { on = on (line_of p q 0); into = 0; len = 0 }
frame_line on len p q (suc i) =
    record { on = on (line_of p q (suc i)); into = bit_and (on (line_of p q (suc i))) (on (line_of p q i)); len = len (lower_of p q i) }

-- ---- slopes

-- from position p to position q it goes ahead on an axis, which may be counted back
unfoldable pub ahead : Bool → ℕ → ℕ → Bool
ahead true p q = ltb q p
ahead false p q = ltb p q

-- A run from (a, b) to (c, d), taken from its left end, goes down in the frame; a straight one never does (01, Routes and sharing: "flipped if y does
-- not rise").
unfoldable pub goes_down : Bool → Bool → ℕ → ℕ → ℕ → ℕ → Bool
goes_down u v a b c d = ahead u a c && ahead v d b || ahead u c a && ahead v b d

-- run k goes down in the frame of the centre c
unfoldable pub crosses : (x1 x2 y1 y2 : List ℕ) → ℕ → ℕ → Bool
crosses x1 x2 y1 y2 c k =
    goes_down (ltb (get_or x2 c 0) (get_or x1 c 0)) (ltb (get_or y2 c 0) (get_or y1 c 0)) (get_or x1 k 0) (get_or y1 k 0) (get_or x2 k 0) (get_or y2 k 0)

-- ---- what a group holds

-- the lines of one axis of the centre's frame
abbrev pub FrameLines : Side → ℕ → ℕ → ℕ → (ℕ → Line) → Type 0
FrameLines s n leaves c line =
    (i : ℕ) → i ≤ gap (first_of s c) (second_of s c)
    → line i ≡ frame_line (leaves_on s.first s.second n leaves) (length_at s.lines) (first_of s c) (second_of s c) i

-- g is the centre c with some leaves, of n runs
pub record Grouped (xs ys : Side) (n c leaves : ℕ) (g : Group) : Type 0 where
  pub columns : FrameLines xs n leaves c g.cols
  pub rows : FrameLines ys n leaves c g.rows
  pub crossing : g.cross ≡ pack (crosses xs.first xs.second ys.first ys.second c) n
  pub wide : g.w ≡ suc (gap (first_of xs c) (second_of xs c))
  pub high : g.h ≡ suc (gap (first_of ys c) (second_of ys c))
