-- The table in the work words, and the local rule of its words in terms of the group's sets. The owner of an edge is the one member of a set: the
-- leaves on the line across, of those that have both lines along. (What the rule means by owners, walks and sharing: crate `sharing`.)
use Rattle.std.specs.Prelude.{◌≡◌, cond, List, ℕ, zero, suc, pred, ◌+◌, ◌-◌, ◌*◌, ◌≤◌, ◌<◌, max, eqb, length, get_or, set}
use Rattle.std.specs.Int.Bits.{bit_and}
use Rattle.network.specs.Steps.{Dir, hor, ver, other}
use Rattle.sharing.specs.Table.{best, run, Table, plus}
use Rattle.table.specs.declared.frame.Line.{Line}
use Rattle.table.specs.declared.fill.Edge.{Edge}
use Rattle.table.specs.declared.fill.Pair.{Pair}
use Rattle.table.specs.declared.fill.Cell.{Cell}
use Rattle.table.specs.Frame.{Group}

-- ---- the words

-- how many lines the frame has along d
abbrev pub many : Group → Dir → ℕ
many g hor = g.w
many g ver = g.h

-- line i of them
abbrev pub line_at : Group → Dir → ℕ → Line
line_at g hor i = g.cols i
line_at g ver i = g.rows i

-- the position of the vertex in column a and row b, with rows of w vertices
unfoldable pub position : ℕ → ℕ → ℕ → ℕ
position w a b = b * w + a

-- the position of the vertex on line s along d and line t across
abbrev pub spot : ℕ → Dir → ℕ → ℕ → ℕ
spot w hor s t = position w s t
spot w ver s t = position w t s

-- a direction as a number
abbrev pub dir_no : Dir → ℕ
dir_no hor = 0
dir_no ver = 1

-- four words a vertex: best and run of the edge along the row, best and run of the edge along the column
abbrev pub table_of : ℕ → List ℕ → Table
table_of w words d best s t = get_or words (spot w d s t * 4 + dir_no d * 2) 0
table_of w words d run s t = get_or words (spot w d s t * 4 + dir_no d * 2 + 1) 0

-- ---- edges

-- the leaves whose box has the edge along d that ends at (s, t)
abbrev pub own_set : Group → Dir → ℕ → ℕ → ℕ
own_set g d s t = bit_and (line_at g (other d) t).on (line_at g d s).into

-- two words
abbrev pub pair : ℕ → ℕ → Pair
pair x y = record { best = x; run = y }

-- the words of the edge along the direction of number d that ends at position p
abbrev pub pair_of : List ℕ → ℕ → ℕ → Pair
pair_of words p d = pair (get_or words (p * 4 + d * 2) 0) (get_or words (p * 4 + d * 2 + 1) 0)

-- an edge with these words, by its line along and its line across
abbrev pub edge_by : Pair → Line → Line → Edge
edge_by x along across = record { best = x.best; run = x.run; own = bit_and across.on along.into; len = along.len }

-- the edge along d that ends at (s, t)
abbrev pub edge_at : Group → List ℕ → Dir → ℕ → ℕ → Edge
edge_at g words d s t = edge_by (pair_of words (spot g.w d s t) (dir_no d)) (line_at g d s) (line_at g (other d) t)

-- ---- the rule of one edge, from the edges along and across that end where it begins

-- the best word, or 0 if the edge has the owner o
unfoldable pub unless_own : Edge → ℕ → ℕ
unless_own e o = cond (eqb e.own o) 0 e.best

-- the run word if the edge has the owner o, or 0
unfoldable pub if_own : Edge → ℕ → ℕ
if_own e o = cond (eqb e.own o) e.run 0

-- the best word of any walk to where the edge begins, counting the start
abbrev pub all_of : Edge → Edge → ℕ → ℕ
all_of along across start = max (max along.best across.best) start

-- the same without walks that come by an edge of o
abbrev pub new_of : Edge → Edge → ℕ → ℕ → ℕ
new_of along across start o = max (max (unless_own along o) (unless_own across o)) start

-- the word of a stretch with o that begins with the edge, or goes on with it
abbrev pub stretch_of : Edge → Edge → ℕ → ℕ → ℕ → ℕ
stretch_of along across start o len = max (plus (new_of along across start o) len) (plus (if_own along o) len)

-- the words of an edge with the owner o and the length len
unfoldable pub rule_of : Edge → Edge → ℕ → ℕ → ℕ → ℕ → Pair
rule_of along across start o len cross =
    cond (eqb o 0) (pair (all_of along across start) 0)
    (cond (eqb (bit_and o cross) 0) (pair (plus (all_of along across start) len) 0)
    (pair (max (all_of along across start) (stretch_of along across start o len)) (stretch_of along across start o len)))

-- ---- the rule of the table

-- the start counts 1, so that 0 says that no walk comes here
abbrev pub start_of : ℕ → ℕ
start_of u = cond (eqb u 0) 1 0

-- the words of the edge along d from (s, t)
unfoldable pub entered : Group → List ℕ → Dir → ℕ → ℕ → Pair
entered g words d s t =
    rule_of (edge_at g words d s t) (edge_at g words (other d) t s) (start_of (spot g.w d s t))
    (own_set g d (suc s) t) (line_at g d (suc s)).len g.cross

-- the words of the edge along d that ends at (s, t): there is none where s is 0
abbrev pub cell_of : Group → List ℕ → Dir → ℕ → ℕ → Pair
cell_of g words d zero t = pair 0 0
cell_of g words d (suc s) t = entered g words d s t

-- the two words of the edge that ends at (s, t) along d
abbrev pub pair_at : ℕ → List ℕ → Dir → ℕ → ℕ → Pair
pair_at w words d s t = pair (table_of w words d best s t) (table_of w words d run s t)

-- every word of the table is what the rule says
abbrev pub Ruled : Group → List ℕ → Type 0
Ruled g words = (d : Dir) (s t : ℕ) → s < many g d → t < many g (other d) → pair_at g.w words d s t ≡ cell_of g words d s t

-- what the best walk to the last vertex of w columns and h rows shares
unfoldable pub figure_of : (w h : ℕ) → List ℕ → ℕ
figure_of w h words =
    pred (max (max (table_of w words hor best (pred w) (pred h)) (table_of w words ver best (pred h) (pred w)))
    (start_of (position w (pred w) (pred h))))

-- ---- filling

-- the lengths, the sizes and the work words suit
pub record Fit (g : Group) (words : List ℕ) : Type 0 where
  pub some_columns : 1 ≤ g.w
  pub columns : g.w ≤ 64
  pub some_rows : 1 ≤ g.h
  pub rows : g.h ≤ 64
  pub room : g.h * g.w * 4 ≤ length words
  pub short : (d : Dir) (s : ℕ) → s < many g d → (line_at g d s).len ≤ 2000000

-- nothing from n on has changed
pub record Beyond (old new : List ℕ) (n : ℕ) : Type 0 where
  pub size : length new ≡ length old
  pub same : (k : ℕ) → n ≤ k → get_or new k 0 ≡ get_or old k 0

-- the words with the pairs x and y from k on
unfoldable pub four : List ℕ → ℕ → Pair → Pair → List ℕ
four words k x y = set (set (set (set words k x.best) (k + 1) x.run) (k + 2) y.best) (k + 3) y.run

-- the words of an edge that ends on line s along its direction: none where s is 0. It begins where edges along and across with the words x and y end.
unfoldable pub enter_of : ℕ → Pair → Pair → ℕ → Line → Line → Line → ℕ → Pair
enter_of s x y start along before across cross =
    cond (eqb s 0) (pair 0 0)
    (rule_of (edge_by x before across) (edge_by y across before) start (bit_and across.on along.into) along.len cross)

-- the same for the edge into position p, along the direction of number d, from the position that is stride before it
abbrev pub into_of : List ℕ → ℕ → ℕ → ℕ → ℕ → Line → Line → Line → ℕ → Pair
into_of words s stride p d along before across cross =
    enter_of s (pair_of words (p - stride) d) (pair_of words (p - stride) (1 - d)) (start_of (p - stride)) along before across cross

-- the words are small enough for one edge more
pub record Light (x y : Pair) (start len : ℕ) : Type 0 where
  pub along_best : x.best ≤ 1 + 126 * 2000000
  pub along_run : x.run ≤ 1 + 126 * 2000000
  pub across_best : y.best ≤ 1 + 126 * 2000000
  pub begins : start ≤ 1
  pub short : len ≤ 2000000

-- such an edge can be entered
pub record Near (words : List ℕ) (s stride p d len : ℕ) : Type 0 where
  pub room : p * 4 + 3 < length words
  pub small : p < 4096
  pub back : (s ≡ 0 → ⊥) → stride ≤ p
  pub light : (s ≡ 0 → ⊥) → Light (pair_of words (p - stride) d) (pair_of words (p - stride) (1 - d)) (start_of (p - stride)) len

-- the cell of a vertex
abbrev pub cell_in : List ℕ → ℕ → Cell
cell_in words p = record { hor = pair_of words p 0; ver = pair_of words p 1 }
