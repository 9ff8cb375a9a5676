-- The lines of the two axes are the Hanan grid's columns and rows, and the runs are placed on it.
use mathlib.Core.Path.{◌≡◌, refl, sym, ap, ◌∙◌, subst}
use mathlib.Core.Logic.{◌⊎◌, inl, inr}
use mathlib.Core.List.Memᴰ
use mathlib.Core.List.{List, [], ◌∷◌, ◌++◌, Memᴰ as Member}
use Prim.Native.Nat.{ℕ, zero, suc, ◌≤◌, ◌<◌}
use native.Mathlib.Omega.{arith}
use lib.ListN.{length, get_or}
use Rattle.network.specs.Lists.{each}
use Rattle.network.specs.Plane.{Run, ◌to◌}
use Rattle.network.specs.Hanan.{xs, ys, hanan}
use Rattle.network.specs.Distinct.{distinct}
use Rattle.network.specs.Graph.{origin, run_at}
use Rattle.network.specs.Boxes.{Placed}
use Rattle.network.proofs.Lists.{each_member, index_member}
use Rattle.network.proofs.Hanan.{distinct_listed, hanan_placed_at}
use Rattle.grid.specs.declared.Axis.{Axis}
use Rattle.grid.specs.Tables.{table}
use Rattle.grid.specs.Runs.{run_held, runs_held}
use Rattle.grid.specs.Lines.{values, axis_of, length_at}
use Rattle.network.specs.Entries.{length_table, get_or_table}
use Rattle.grid.proofs.Places.{length_at_most}

-- ---- the runs of four arrays

-- they are n
pub length_runs : (x1 y1 x2 y2 : List ℕ) (n : ℕ) → length (runs_held x1 y1 x2 y2 n) ≡ n
unfolding runs_held
length_runs x1 y1 x2 y2 n = length_table (run_held x1 y1 x2 y2) n

-- run i of them
pub run_at_lem : (x1 y1 x2 y2 : List ℕ) (n i : ℕ) → i < n → run_at (runs_held x1 y1 x2 y2 n) i ≡ run_held x1 y1 x2 y2 i
unfolding runs_held
run_at_lem x1 y1 x2 y2 n i h = get_or_table (run_held x1 y1 x2 y2) n i (origin to origin) h

-- x and y values alike: two numbers of each run, run after run
abbrev pairs : (Run → ℕ) → (Run → ℕ) → List Run → List ℕ
pairs p q [] = []
pairs p q (r ∷ runs) = p r ∷ q r ∷ pairs p q runs

-- the x values are such pairs
xs_are : (runs : List Run) → xs runs ≡ pairs (λ r. r.first.x) (λ r. r.second.x) runs
xs_are [] = refl
xs_are (r ∷ runs) = ap (λ l. r.first.x ∷ r.second.x ∷ l) (xs_are runs)

-- and so are the y values
ys_are : (runs : List Run) → ys runs ≡ pairs (λ r. r.first.y) (λ r. r.second.y) runs
ys_are [] = refl
ys_are (r ∷ runs) = ap (λ l. r.first.y ∷ r.second.y ∷ l) (ys_are runs)

module _ (p q : Run → ℕ) where
  -- the pairs of two lists
  pairs_append : (a b : List Run) → pairs p q (a ++ b) ≡ pairs p q a ++ pairs p q b
  pairs_append [] b = refl
  pairs_append (r ∷ a) b = ap (λ l. p r ∷ q r ∷ l) (pairs_append a b)

  -- the pairs of a table of runs
  pairs_table : (f : ℕ → Run) (n : ℕ) → pairs p q (table f n) ≡ each n (λ i. p (f i) ∷ q (f i) ∷ [])
  pairs_table f zero = refl
  pairs_table f (suc n) = pairs_append (table f n) (f n ∷ []) ∙ ap (λ l. l ++ (p (f n) ∷ q (f n) ∷ [])) (pairs_table f n)

-- their x values
pub xs_runs : (x1 y1 x2 y2 : List ℕ) (n : ℕ) → xs (runs_held x1 y1 x2 y2 n) ≡ values x1 x2 n
unfolding runs_held values
xs_runs x1 y1 x2 y2 n = xs_are (runs_held x1 y1 x2 y2 n) ∙ pairs_table _ _ (run_held x1 y1 x2 y2) n

-- and their y values
pub ys_runs : (x1 y1 x2 y2 : List ℕ) (n : ℕ) → ys (runs_held x1 y1 x2 y2 n) ≡ values y1 y2 n
unfolding runs_held values
ys_runs x1 y1 x2 y2 n = ys_are (runs_held x1 y1 x2 y2 n) ∙ pairs_table _ _ (run_held x1 y1 x2 y2) n

-- the lines of an axis are the columns of the Hanan grid
pub columns_are : (x1 y1 x2 y2 : List ℕ) (n : ℕ) → (hanan (runs_held x1 y1 x2 y2 n)).columns ≡ distinct (values x1 x2 n)
columns_are x1 y1 x2 y2 n = ap distinct (xs_runs x1 y1 x2 y2 n)

-- and on the other axis
pub rows_are : (x1 y1 x2 y2 : List ℕ) (n : ℕ) → (hanan (runs_held x1 y1 x2 y2 n)).rows ≡ distinct (values y1 y2 n)
rows_are x1 y1 x2 y2 n = ap distinct (ys_runs x1 y1 x2 y2 n)

-- so an axis that holds the distinct values holds the grid's lines
pub axis_columns : (x1 y1 x2 y2 : List ℕ) (n : ℕ) (a : Axis) → a ≡ axis_of (distinct (values x1 x2 n)) → a ≡ axis_of (hanan (runs_held x1 y1 x2 y2 n)).columns
axis_columns x1 y1 x2 y2 n a e = e ∙ ap axis_of (sym (columns_are x1 y1 x2 y2 n))

-- and on the other axis
pub axis_rows : (x1 y1 x2 y2 : List ℕ) (n : ℕ) (a : Axis) → a ≡ axis_of (distinct (values y1 y2 n)) → a ≡ axis_of (hanan (runs_held x1 y1 x2 y2 n)).rows
axis_rows x1 y1 x2 y2 n a e = e ∙ ap axis_of (sym (rows_are x1 y1 x2 y2 n))

-- every run is placed on that grid
pub run_placed : (x1 y1 x2 y2 : List ℕ) (n i : ℕ) → i < n → Placed (hanan (runs_held x1 y1 x2 y2 n)) (run_held x1 y1 x2 y2 i)
run_placed x1 y1 x2 y2 n i h =
    subst (Placed (hanan (runs_held x1 y1 x2 y2 n))) (run_at_lem x1 y1 x2 y2 n i h)
    (hanan_placed_at (runs_held x1 y1 x2 y2 n) i (rw (length_runs x1 y1 x2 y2 n) h))

-- where no coordinate is above m, no line is
pub lines_below : (first second : List ℕ) (n m : ℕ) → ((i : ℕ) → i < n → (get_or first i 0 ≤ m) × (get_or second i 0 ≤ m))
    → (i : ℕ) → i < length (distinct (values first second n)) → get_or (distinct (values first second n)) i 0 ≤ m
unfolding values
lines_below first second n m h i k =
    let v = get_or (distinct (values first second n)) i 0 in
    let (a, b, e) = distinct_listed (values first second n) v (i, k, refl) in
    let (j, l, o) = each_member n (λ i. get_or first i 0 ∷ get_or second i 0 ∷ []) (Memᴰ.cast (sym e) (index_member 0 (values first second n) a b)) in
    go v j (h j l) (Memᴰ.cases_cons o)
  where
    go : (v j : ℕ) → (get_or first j 0 ≤ m) × (get_or second j 0 ≤ m) → (v ≡ get_or first j 0) ⊎ Member v (get_or second j 0 ∷ []) → v ≤ m
    go v j b (inl e) = omega arith
    go v j b (inr o) = omega (arith, Memᴰ.eq_of_singleton o)

-- and no edge is longer
pub length_within : (first second : List ℕ) (n m : ℕ) → ((i : ℕ) → i < n → (get_or first i 0 ≤ m) × (get_or second i 0 ≤ m))
    → (i : ℕ) → suc i < length (distinct (values first second n)) → length_at (distinct (values first second n)) i ≤ m
length_within first second n m h i k = length_at_most (distinct (values first second n)) i m (lines_below first second n m h (suc i) k)
