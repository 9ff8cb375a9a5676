-- The edges of a grid by the indexes of their lower ends: which they are, and sums over them.
use mathlib.Core.Path.{◌≡◌, refl, sym, ap₂, ◌∙◌, subst}
use mathlib.Core.Logic.{◌⊎◌, inl, inr}
use mathlib.Core.List.Memᴰ
use mathlib.Core.List.Memᴰ.{head as here}
use mathlib.Core.List.{[], ◌∷◌, Memᴰ as Member}
use mathlib.Core.Bool.{Bool, true}
use Prim.Native.Nat.{ℕ, suc, pred, ◌+◌, ◌<◌}
use native.Mathlib.Omega.{arith}
use lib.ListN.{length}
use Rattle.network.specs.Lists.{sum, any, each}
use Rattle.network.specs.Grid.{Grid, Edge, across, upward, across_at, upward_at, edges}
use Rattle.network.proofs.Lists.{any_true, true_any, each_member, member_each}
use Rattle.network.proofs.Sums.{sum_cong, sum_append, sum_to, sum_each, sum_to_cong, double_zero, double_one}
use Rattle.network.proofs.Rising.{one_index}

-- e is an edge of the grid
pub data OfGrid (g : Grid) : Edge → Type 0 where
  across_of : (i j : ℕ) → suc i < length g.columns → j < length g.rows → OfGrid g (across_at g i j)
  upward_of : (i j : ℕ) → i < length g.columns → suc j < length g.rows → OfGrid g (upward_at g i j)

-- an edge has a length
abbrev pub Proper : Edge → Type 0
Proper (across x x' y) = x < x'
Proper (upward x y y') = y < y'

-- every edge of a grid has
pub proper : (g : Grid) (e : Edge) → OfGrid g e → Proper e
proper g e (across_of i j h k) = g.columns_rise i h
proper g e (upward_of i j h k) = g.rows_rise j k

-- ---- the list of the edges has those and no others

-- e is f i j for some i below n and j below m
abbrev Rowwise : (n m : ℕ) → (ℕ → ℕ → Edge) → Edge → Type 0
Rowwise n m f e = (i : ℕ) × (i < n) × ((j : ℕ) × (j < m) × (e ≡ f i j))

-- an element of the rows has such an i and j
rowwise : (n m : ℕ) (f : ℕ → ℕ → Edge) {e : Edge} → Member e (each n (λ i. each m (λ j. f i j ∷ []))) → Rowwise n m f e
rowwise n m f k =
    let (i, h, o) = each_member n (λ i. each m (λ j. f i j ∷ [])) k in
    let (j, l, q) = each_member m (λ j. f i j ∷ []) o in
    (i, h, (j, l, Memᴰ.eq_of_singleton q))

-- an edge of the list is one of the grid
pub edge_of : (g : Grid) {e : Edge} → Member e (edges g) → OfGrid g e
unfolding edges
edge_of g {e} m = go (Memᴰ.append_cases (each (pred (length g.columns)) (λ i. each (length g.rows) (λ j. across_at g i j ∷ []))) m)
  where
    go : Member e (each (pred (length g.columns)) (λ i. each (length g.rows) (λ j. across_at g i j ∷ [])))
        ⊎ Member e (each (length g.columns) (λ i. each (pred (length g.rows)) (λ j. upward_at g i j ∷ [])))
        → OfGrid g e
    go (inl k) =
        let (i, h, (j, l, q)) = rowwise (pred (length g.columns)) (length g.rows) (across_at g) k in
        subst (OfGrid g) (sym q) (across_of i j (omega arith) l)
    go (inr k) =
        let (i, h, (j, l, q)) = rowwise (length g.columns) (pred (length g.rows)) (upward_at g) k in
        subst (OfGrid g) (sym q) (upward_of i j h (omega arith))

-- and an edge of the grid is in the list
pub of_edge : (g : Grid) {e : Edge} → OfGrid g e → Member e (edges g)
unfolding edges
of_edge g (across_of i j h k) =
    Memᴰ.append_left (each (length g.columns) (λ i. each (pred (length g.rows)) (λ j. upward_at g i j ∷ [])))
    (member_each (pred (length g.columns)) (λ i. each (length g.rows) (λ j. across_at g i j ∷ [])) i (omega arith)
    (member_each (length g.rows) (λ j. across_at g i j ∷ []) j k (here refl)))
of_edge g (upward_of i j h k) =
    Memᴰ.append_right (each (pred (length g.columns)) (λ i. each (length g.rows) (λ j. across_at g i j ∷ [])))
    (member_each (length g.columns) (λ i. each (pred (length g.rows)) (λ j. upward_at g i j ∷ [])) i h
    (member_each (pred (length g.rows)) (λ j. upward_at g i j ∷ []) j (omega arith) (here refl)))

-- ---- sums and tests over the edges

-- the sum over the edges is the sum over their indexes
pub sum_edges : (g : Grid) (w : Edge → ℕ)
    → sum w (edges g)
    ≡ sum_to (pred (length g.columns)) (λ i. sum_to (length g.rows) (λ j. w (across_at g i j)))
    + sum_to (length g.columns) (λ i. sum_to (pred (length g.rows)) (λ j. w (upward_at g i j)))
unfolding edges
sum_edges g w =
    sum_append w (each (pred (length g.columns)) (λ i. each (length g.rows) (λ j. across_at g i j ∷ []))) _
    ∙ ap₂ ◌+◌ (rows (pred (length g.columns)) (length g.rows) (across_at g)) (rows (length g.columns) (pred (length g.rows)) (upward_at g))
  where
    rows : (n m : ℕ) (f : ℕ → ℕ → Edge) → sum w (each n (λ i. each m (λ j. f i j ∷ []))) ≡ sum_to n (λ i. sum_to m (λ j. w (f i j)))
    rows n m f =
        sum_each w n (λ i. each m (λ j. f i j ∷ []))
        ∙ sum_to_cong n _ _ (λ i h. sum_each w m (λ j. f i j ∷ []) ∙ sum_to_cong m _ _ (λ j k. omega arith))

-- terms that are equal at every edge of the grid have equal sums
pub edges_cong : (g : Grid) (v w : Edge → ℕ) → ((e : Edge) → OfGrid g e → v e ≡ w e) → sum v (edges g) ≡ sum w (edges g)
edges_cong g v w h = sum_cong v w (edges g) (λ e m. h e (edge_of g m))

-- some edge of the grid passes a test, and back
pub edges_any : (g : Grid) (t : Edge → Bool) → any t (edges g) ≡ true → (e : Edge) × OfGrid g e × (t e ≡ true)
edges_any g t h = let (e, m, k) = any_true t (edges g) h in (e, edge_of g m, k)

-- where one does the test finds it
pub any_edges : (g : Grid) (t : Edge → Bool) (e : Edge) → OfGrid g e → t e ≡ true → any t (edges g) ≡ true
any_edges g t e o h = true_any t (of_edge g o) h

-- each edge is listed once: where the terms of all others are 0, the sum is the term of one
pub edges_one : (g : Grid) (w : Edge → ℕ) {e : Edge} → OfGrid g e → ((f : Edge) → OfGrid g f → (f ≡ e → ⊥) → w f ≡ 0) → sum w (edges g) ≡ w e
edges_one g w (across_of a b h k) z =
    let other : (i j : ℕ) → suc i < length g.columns → j < length g.rows → (i ≡ a → j ≡ b → ⊥) → across_at g i j ≡ across_at g a b → ⊥
    = λ i j l m n e. n (one_index g.columns g.columns_rise i a (omega arith) (omega arith) (cc)) (one_index g.rows g.rows_rise j b m k (cc)) in
    omega (
      arith,
      sum_edges g w,
      double_one (pred (length g.columns)) (length g.rows) a b (λ i j. w (across_at g i j)) (omega arith) k (λ i j l m n.
          z (across_at g i j) (across_of i j (omega arith) m) (other i j (omega arith) m n)),
      double_zero (length g.columns) (pred (length g.rows)) (λ i j. w (upward_at g i j)) (λ i j l m.
          z (upward_at g i j) (upward_of i j l (omega arith)) (λ e. let y : ◌≡◌ {A = ℕ} 0 1 = cc in omega arith)),
    )
edges_one g w (upward_of a b h k) z =
    let other : (i j : ℕ) → i < length g.columns → suc j < length g.rows → (i ≡ a → j ≡ b → ⊥) → upward_at g i j ≡ upward_at g a b → ⊥
    = λ i j l m n e. n (one_index g.columns g.columns_rise i a l h (cc)) (one_index g.rows g.rows_rise j b (omega arith) (omega arith) (cc)) in
    omega (
      arith,
      sum_edges g w,
      double_one (length g.columns) (pred (length g.rows)) a b (λ i j. w (upward_at g i j)) h (omega arith) (λ i j l m n.
          z (upward_at g i j) (upward_of i j l (omega arith)) (other i j l (omega arith) n)),
      double_zero (pred (length g.columns)) (length g.rows) (λ i j. w (across_at g i j)) (λ i j l m.
          z (across_at g i j) (across_of i j (omega arith) m) (λ e. let y : ◌≡◌ {A = ℕ} 0 1 = cc in omega arith)),
    )
