-- The length of the marked edges is the length of the routes' union, where the marks tell the routes.
use mathlib.Core.Path.{◌≡◌, refl, sym, ap, ap₂, ◌∙◌}
use mathlib.Core.Bool.{Bool, cond, ◌&&◌}
use mathlib.Core.List.{List}
use Prim.Native.Nat.{ℕ, zero, suc, pred, ◌+◌, ◌*◌, ◌<◌}
use native.Mathlib.Omega.{arith}
use borrow.Author.Tests.{lt-ltb, le-ltb}
use lib.ListN.{length, get_or}
use Rattle.network.specs.Lists.{sum, any}
use Rattle.network.specs.Grid.{Grid, Edge, len, across_at, upward_at}
use Rattle.network.specs.Graph.{below}
use Rattle.network.specs.Route.{Route, on, union_length}
use Rattle.network.specs.Steps.{Dir, hor, ver}
use Rattle.network.proofs.Sums.{sum_swap, sum_to, sum_below, sum_to_cong, sum_to_zero, sum_to_add, double_cong}
use Rattle.network.proofs.Edges.{sum_edges}
use Rattle.grid.specs.Lines.{length_at}
use Rattle.grid.proofs.Places.{across_length, upward_length}
use Rattle.measure.specs.Marks.{places, edge_on, edge_behind, is_marked, Told}
use Rattle.measure.specs.Measured.{row_trench, trench_in}

-- ---- sums over rows of vertices

-- a double sum over the numbers below n and below m, by the second first
pub sum_cells : (n m : ℕ) (f : ℕ → ℕ → ℕ) → sum (λ j. sum (λ i. f i j) (below n)) (below m) ≡ sum_to n (λ i. sum_to m (f i))
sum_cells n m f =
    sum_swap f (below n) (below m)
    ∙ sum_below (λ i. sum (f i) (below m)) n
    ∙ sum_to_cong n (λ i. sum (f i) (below m)) (λ i. sum_to m (f i)) (λ i h. sum_below (f i) m)

-- the sum of two double sums
double_add : (n m : ℕ) (f g : ℕ → ℕ → ℕ) → sum_to n (λ i. sum_to m (λ j. f i j + g i j)) ≡ sum_to n (λ i. sum_to m (f i)) + sum_to n (λ i. sum_to m (g i))
double_add n m f g =
    sum_to_cong n (λ i. sum_to m (λ j. f i j + g i j)) (λ i. sum_to m (f i) + sum_to m (g i)) (λ i h. sum_to_add m (f i) (g i))
    ∙ sum_to_add n (λ i. sum_to m (f i)) (λ i. sum_to m (g i))

-- the last term is 0
sum_to_but_last : (n : ℕ) (f : ℕ → ℕ) → ((i : ℕ) → suc i ≡ n → f i ≡ 0) → sum_to n f ≡ sum_to (pred n) f
sum_to_but_last zero f h = refl
sum_to_but_last (suc n) f h = omega (arith, h n refl)

-- ---- marked edges

module _ (g : Grid) (t : Edge → Bool) (d : Dir) (a k x : ℕ) where
  -- an edge with a next place counts where it passes the test
  counted : suc k < places g d → cond (edge_behind g d t a k) x 0 ≡ cond (t (edge_on g d a k)) x 0
  unfolding edge_behind
  counted h = ap (λ b. cond (b && t (edge_on g d a k)) x 0) (lt-ltb (suc k) (places g d) h)

  -- behind the last place there is none
  behind_last : suc k ≡ places g d → cond (edge_behind g d t a k) x 0 ≡ 0
  unfolding edge_behind
  behind_last h = ap (λ b. cond (b && t (edge_on g d a k)) x 0) (le-ltb (suc k) (places g d) (omega arith))

module _ (g : Grid) (routes : List Route) (corners right up : List ℕ) (told : Told g routes corners right up) (widths heights : List ℕ)
    (wide : (i : ℕ) → suc i < length g.columns → get_or widths i 0 ≡ length_at g.columns i)
    (high : (j : ℕ) → suc j < length g.rows → get_or heights j 0 ≡ length_at g.rows j) where
  -- an edge of the union counts with its length
  abbrev worth : Edge → ℕ
  worth e = cond (any (on e) routes) (len e) 0

  -- what a mark counts
  abbrev right_at : ℕ → ℕ → ℕ
  right_at i j = cond (is_marked right (j * 64 + i)) (get_or widths i 0) 0

  -- upwards
  abbrev up_at : ℕ → ℕ → ℕ
  up_at i j = cond (is_marked up (j * 64 + i)) (get_or heights j 0) 0

  -- the marks to the right count the edges along the rows
  right_edges : sum_to (length g.columns) (λ i. sum_to (length g.rows) (right_at i))
      ≡ sum_to (pred (length g.columns)) (λ i. sum_to (length g.rows) (λ j. worth (across_at g i j)))
  right_edges =
      sum_to_but_last (length g.columns) (λ i. sum_to (length g.rows) (right_at i))
      (λ i h. sum_to_zero (length g.rows) (right_at i)
      (λ j k. ap (λ b. cond b (get_or widths i 0) 0) (told.to_right j i k (omega arith)) ∙ behind_last g (λ e. any (on e) routes) hor j i (get_or widths i 0) h))
      ∙ double_cong (pred (length g.columns)) (length g.rows) right_at (λ i j. worth (across_at g i j))
      (λ i j h k.
      let l : suc i < length g.columns = omega arith in
      ap (λ b. cond b (get_or widths i 0) 0) (told.to_right j i k (omega arith))
      ∙ counted g (λ e. any (on e) routes) hor j i (get_or widths i 0) l
      ∙ ap (λ n. cond (any (on (across_at g i j)) routes) n 0) (wide i l ∙ sym (across_length g i j)))

  -- the marks upwards count those along the columns
  up_edges : sum_to (length g.columns) (λ i. sum_to (length g.rows) (up_at i))
      ≡ sum_to (length g.columns) (λ i. sum_to (pred (length g.rows)) (λ j. worth (upward_at g i j)))
  up_edges =
      sum_to_cong (length g.columns) (λ i. sum_to (length g.rows) (up_at i)) (λ i. sum_to (pred (length g.rows)) (λ j. worth (upward_at g i j)))
      (λ i h. sum_to_but_last (length g.rows) (up_at i)
      (λ j k. ap (λ b. cond b (get_or heights j 0) 0) (told.upwards i j h (omega arith)) ∙ behind_last g (λ e. any (on e) routes) ver i j (get_or heights j 0) k)
      ∙ sum_to_cong (pred (length g.rows)) (up_at i) (λ j. worth (upward_at g i j))
      (λ j k.
      let l : suc j < length g.rows = omega arith in
      ap (λ b. cond b (get_or heights j 0) 0) (told.upwards i j h (omega arith))
      ∙ counted g (λ e. any (on e) routes) ver i j (get_or heights j 0) l
      ∙ ap (λ n. cond (any (on (upward_at g i j)) routes) n 0) (high j l ∙ sym (upward_length g i j))))

  -- Where the marks tell the routes, the length of the marked edges is that of the union.
  pub told_trench : trench_in right up widths (length g.columns) heights (length g.rows) ≡ union_length g routes
  unfolding trench_in row_trench union_length
  told_trench =
      sum_cells (length g.columns) (length g.rows) (λ i j. right_at i j + up_at i j)
      ∙ double_add (length g.columns) (length g.rows) right_at up_at
      ∙ ap₂ ◌+◌ right_edges up_edges
      ∙ sym (sum_edges g worth)
