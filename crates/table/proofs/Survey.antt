-- From the arrays of a job to its sides, its group and its star: what the functions of this crate promise, put together. So the table that `fill` leaves
-- is exact for the star, `figure_of` answers the star's figure, and `put_walk` its traced moves.
use mathlib.Core.Path.{◌≡◌, ap, ◌∙◌}
use mathlib.Core.Bool.{true, false}
use mathlib.Core.List.{List}
use Prim.Native.Nat.{ℕ, suc, ◌≤◌, ◌<◌}
use native.Mathlib.Omega.{arith}
use native.Mathlib.Decide.{dec_lt}
use lib.ListN.{length, get_or}
use Rattle.network.specs.Grid.{Rising, Grid}
use Rattle.network.specs.Route.{Listed}
use Rattle.network.specs.Hanan.{hanan}
use Rattle.network.specs.Distinct.{distinct}
use Rattle.network.specs.Plane.{Run}
use Rattle.network.specs.Graph.{run_at, meets}
use Rattle.network.specs.Steps.{Dir, hor, ver}
use Rattle.sharing.specs.View.{lines}
use Rattle.sharing.specs.Table.{Exact, figure}
use Rattle.sharing.specs.Walk.{Traced}
use Rattle.sharing.specs.Star.{star_of, Centred}
use Rattle.sharing.proofs.Trace.{traced}
use Rattle.sharing.proofs.Runs.{indexed_shows, facing_rises}
use Rattle.grid.specs.declared.Axis.{Axis}
use Rattle.grid.specs.Runs.{runs_held}
use Rattle.grid.specs.Lines.{values, axis_of, length_at}
use Rattle.grid.proofs.Tables.{get_or_behind}
use Rattle.grid.proofs.Places.{position_line, axis_line}
use Rattle.grid.proofs.Hanan.{length_runs, run_at_lem, columns_are, rows_are, axis_columns, axis_rows, run_placed, length_within}
use Rattle.intersection.specs.Sets.{has}
use Rattle.table.specs.Side.{Side, Sided, Rises, first_of, second_of}
use Rattle.table.specs.OnSides.{side_at, first_at, second_at, OnSides, view_by, box_by}
use Rattle.table.specs.Frame.{Group, Grouped}
use Rattle.table.specs.Rule.{table_of, Ruled, figure_of}
use Rattle.table.specs.Walk.{walked}
use Rattle.table.proofs.Drawn.{ruled_exact, figure_drawn, walked_trace}
use Rattle.table.proofs.Star.{group_drawn}

-- ---- one axis

module _ (a : Axis) (l first second : List ℕ) (n : ℕ) (s : Side) (e : a ≡ axis_of l) (r : Rising l) (z : Sided a first second n s) where
  -- a position is that of the value's line
  first_line : (k : ℕ) → k < n → Listed l (get_or first k 0) → (first_of s k < length l) × (get_or l (first_of s k) 0 ≡ get_or first k 0)
  first_line k h v = rw (z.firsts k h) (position_line a l e r (get_or first k 0) v)

  -- the same of second points
  second_line : (k : ℕ) → k < n → Listed l (get_or second k 0) → (second_of s k < length l) × (get_or l (second_of s k) 0 ≡ get_or second k 0)
  second_line k h v = rw (z.seconds k h) (position_line a l e r (get_or second k 0) v)

  -- the lines
  line_at : (i : ℕ) → i < length l → get_or s.lines i 0 ≡ get_or l i 0
  line_at i h = ap (λ t. get_or t i 0) z.same_lines ∙ axis_line a l e i h

  -- a bound of the axis' edges is one of all lengths that the side gives
  length_le : (m : ℕ) → ((i : ℕ) → suc i < length l → length_at l i ≤ m) → (i : ℕ) → length_at s.lines i ≤ m
  length_le m h i = go (dec_lt (suc i) (length l))
    where
      go : Dec (suc i < length l) → length_at s.lines i ≤ m
      go (yes k) = rw (line_at (suc i) k, line_at i (omega arith)) (h i k)
      go (no k) =
          let b : get_or s.lines (suc i) 0 ≡ 0 =
          ap (λ t. get_or t (suc i) 0) z.same_lines ∙ ap (λ (x : Axis). get_or x.lines (suc i) 0) e ∙ get_or_behind 64 l (suc i) (omega arith) in
          omega arith

-- ---- the job

module _ (x1 y1 x2 y2 : List ℕ) (n : ℕ) (few : n ≤ 32) (a b : Axis) (ea : a ≡ axis_of (distinct (values x1 x2 n))) (eb : b ≡ axis_of (distinct (values y1 y2 n)))
    (xs ys : Side) (sx : Sided a x1 x2 n xs) (sy : Sided b y1 y2 n ys) where
  -- the job's runs
  abbrev runs : List Run
  runs = runs_held x1 y1 x2 y2 n

  -- their grid
  abbrev grid : Grid
  grid = hanan (runs_held x1 y1 x2 y2 n)

  -- there are n runs
  size : length runs ≡ n
  size = length_runs x1 y1 x2 y2 n

  -- the column of a first point is the one that the side holds
  first_x : (k : ℕ) → k < n → (first_of xs k < length grid.columns) × (get_or grid.columns (first_of xs k) 0 ≡ get_or x1 k 0)
  first_x k h =
      first_line a grid.columns x1 x2 n xs (axis_columns x1 y1 x2 y2 n a ea) grid.columns_rise sx k h (run_placed x1 y1 x2 y2 n k h).first_vertex.column

  -- and its row
  first_y : (k : ℕ) → k < n → (first_of ys k < length grid.rows) × (get_or grid.rows (first_of ys k) 0 ≡ get_or y1 k 0)
  first_y k h =
      first_line b grid.rows y1 y2 n ys (axis_rows x1 y1 x2 y2 n b eb) grid.rows_rise sy k h (run_placed x1 y1 x2 y2 n k h).first_vertex.row

  -- the column of a second point
  second_x : (k : ℕ) → k < n → (second_of xs k < length grid.columns) × (get_or grid.columns (second_of xs k) 0 ≡ get_or x2 k 0)
  second_x k h =
      second_line a grid.columns x1 x2 n xs (axis_columns x1 y1 x2 y2 n a ea) grid.columns_rise sx k h (run_placed x1 y1 x2 y2 n k h).second_vertex.column

  -- and its row
  second_y : (k : ℕ) → k < n → (second_of ys k < length grid.rows) × (get_or grid.rows (second_of ys k) 0 ≡ get_or y2 k 0)
  second_y k h =
      second_line b grid.rows y1 y2 n ys (axis_rows x1 y1 x2 y2 n b eb) grid.rows_rise sy k h (run_placed x1 y1 x2 y2 n k h).second_vertex.row

  -- no edge is longer than the coordinates allow
  pub short : (m : ℕ) → ((i : ℕ) → i < n → (get_or x1 i 0 ≤ m) × (get_or x2 i 0 ≤ m)) → ((i : ℕ) → i < n → (get_or y1 i 0 ≤ m) × (get_or y2 i 0 ≤ m))
      → (d : Dir) (i : ℕ) → length_at (side_at xs ys d).lines i ≤ m
  short m hx hy hor =
      length_le a grid.columns x1 x2 n xs (axis_columns x1 y1 x2 y2 n a ea) grid.columns_rise sx m
      (rw (columns_are x1 y1 x2 y2 n) (length_within x1 x2 n m hx))
  short m hx hy ver =
      length_le b grid.rows y1 y2 n ys (axis_rows x1 y1 x2 y2 n b eb) grid.rows_rise sy m (rw (rows_are x1 y1 x2 y2 n) (length_within y1 y2 n m hy))

  -- the sides hold the job
  pub on_sides : (c leaves : ℕ) → ((k : ℕ) → k < n → has leaves k ≡ meets grid runs c k) → OnSides grid runs xs ys c leaves
  on_sides c leaves h =
      record {
        few = rw size few;
        first_at_lem = λ k l. let m : k < n = rw size at l in rw (run_at_lem x1 y1 x2 y2 n k m)
            (record { fits = elim [ hor ↦ (first_x k m).0 | ver ↦ (first_y k m).0 ]; at_line = elim [ hor ↦ (first_x k m).1 | ver ↦ (first_y k m).1 ] });
        second_at_lem = λ k l. let m : k < n = rw size at l in rw (run_at_lem x1 y1 x2 y2 n k m)
            (record { fits = elim [ hor ↦ (second_x k m).0 | ver ↦ (second_y k m).0 ]; at_line = elim [ hor ↦ (second_x k m).1 | ver ↦ (second_y k m).1 ] });
        same_lines = elim [
          | hor ↦ line_at a grid.columns x1 x2 n xs (axis_columns x1 y1 x2 y2 n a ea) grid.columns_rise sx
          | ver ↦ line_at b grid.rows y1 y2 n ys (axis_rows x1 y1 x2 y2 n b eb) grid.rows_rise sy
        ];
        is_leaf = λ k l. h k (rw size at l);
      }

-- the lines that the sides hold rise up to each run's points
pub sides_rise : (grid : Grid) (runs : List Run) (xs ys : Side) (c leaves : ℕ) → OnSides grid runs xs ys c leaves → (k : ℕ) → k < length runs
    → (d : Dir) → Rises (side_at xs ys d).lines (first_at xs ys k d) (second_at xs ys k d)
sides_rise grid runs xs ys c leaves S k h d i l =
    let p = (S.first_at_lem k h).fits d in
    let q = (S.second_at_lem k h).fits d in
    omega (arith, S.same_lines d i (omega arith), S.same_lines d (suc i) (omega arith), rise d i (omega arith))
  where
    rise : (d : Dir) → Rising (lines grid d)
    rise hor = grid.columns_rise
    rise ver = grid.rows_rise

-- ---- the star

-- a run of which no two neighbours meet is centred in the view that the sides give
pub sides_centred : (grid : Grid) (runs : List Run) (xs ys : Side) (c leaves : ℕ) → OnSides grid runs xs ys c leaves → c < length runs
    → ((j k : ℕ) → meets grid runs c j ≡ true → meets grid runs c k ≡ true → meets grid runs j k ≡ false)
    → Centred (view_by grid xs ys c) runs (box_by grid xs ys c) c
sides_centred grid runs xs ys c leaves S h apart =
    record {
      listed = h;
      shows = λ k l. indexed_shows (view_by grid xs ys c) (run_at runs k) (first_at xs ys k) (second_at xs ys k) (S.first_at_lem k l) (S.second_at_lem k l);
      rises = facing_rises grid (first_at xs ys c) (second_at xs ys c) (λ d. (S.first_at_lem c h).fits d) (λ d. (S.second_at_lem c h).fits d);
      apart = apart;
    }

module _ (grid : Grid) (runs : List Run) (xs ys : Side) (c leaves : ℕ) (S : OnSides grid runs xs ys c leaves)
    (C : Centred (view_by grid xs ys c) runs (box_by grid xs ys c) c)
    (g : Group) (G : Grouped xs ys (length runs) c leaves g) (words : List ℕ) (R : Ruled g words) where
  -- THEOREM: the table that `fill` leaves is exact for the star
  pub star_exact : Exact (star_of (view_by grid xs ys c) runs (box_by grid xs ys c) c) (table_of g.w words)
  star_exact = ruled_exact g _ (group_drawn grid runs xs ys c leaves g S G C) words R

  -- what `figure_of` answers is the star's figure
  pub star_figure : figure_of g.w g.h words ≡ figure (star_of (view_by grid xs ys c) runs (box_by grid xs ys c) c) (table_of g.w words)
  star_figure = figure_drawn g _ (group_drawn grid runs xs ys c leaves g S G C) words

  -- THEOREM: the moves that `put_walk` puts in are traced in it
  pub star_traced : Traced (star_of (view_by grid xs ys c) runs (box_by grid xs ys c) c) (table_of g.w words) (walked g words)
  star_traced =
      rw (walked_trace g _ (group_drawn grid runs xs ys c leaves g S G C) words star_exact)
      (traced (star_of (view_by grid xs ys c) runs (box_by grid xs ys c) c) (table_of g.w words) star_exact)
