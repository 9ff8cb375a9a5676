-- Distinct points. A point behind a list adds one to them unless it is among the list's points; a map that keeps points apart keeps their
-- number; and the distinct points of a list of vertices are as many as the vertices that are among them.
use mathlib.Core.Path.{◌≡◌, refl, sym, ap, ap₂, ◌∙◌}
use mathlib.Core.Bool.{Bool, true, false, cond, ◌||◌, or-false}
use mathlib.Core.List.{List, [], ◌∷◌, ◌++◌, map, append-nil, append_assoc}
use Prim.Native.Nat.{ℕ, ◌+◌, ◌*◌, ◌≤◌, ◌<◌}
use native.Mathlib.Omega.{arith}
use lib.ListN.{length}
use Rattle.network.specs.Lists.{All, unique}
use Rattle.network.specs.Plane.{Point, same_point}
use Rattle.network.specs.Grid.{Grid}
use Rattle.network.specs.Route.{Vertex}
use Rattle.network.specs.Steps.{vertex}
use Rattle.network.specs.Passes.{among}
use Rattle.network.proofs.Tests.{same_test, is_false, cond_one}
use Rattle.network.proofs.Rising.{one_index}
use Rattle.network.proofs.Sums.{sum_to, sum_to_most, double_zero, double_more}
use Rattle.network.proofs.Lanes.{point_path}
use Rattle.network.proofs.Repeats.{unique_one}
use Rattle.network.proofs.Corners.{point_true, true_point}

-- ---- the same point

-- the test is symmetric
same_turned : (p q : Point) → same_point p q ≡ same_point q p
same_turned p q =
    same_test (same_point p q) (same_point q p)
    (λ e. rw (point_true p q e) (true_point q q refl))
    (λ e. rw (point_true q p e) (true_point p p refl))

-- ---- one point more

-- among a list and one more
among_last : (p q : Point) (l : List Point) → among p (l ++ q ∷ []) ≡ among p l || same_point p q
among_last p q [] = or-false (same_point p q)
among_last p q (r ∷ l) = go (same_point p r) (among_last p q l)
  where
    go : (b : Bool) → among p (l ++ q ∷ []) ≡ among p l || same_point p q → b || among p (l ++ q ∷ []) ≡ (b || among p l) || same_point p q
    go true e = refl
    go false e = e

-- whether q stays and whether p is new, if a point behind q's list may be q itself
new_or_not : (a s m : Bool) (u : ℕ) → (s ≡ true → m ≡ a) → cond (a || s) 0 1 + (u + cond m 0 1) ≡ cond a 0 1 + u + cond (s || m) 0 1
new_or_not true true m u e = rw (e refl) (omega arith)
new_or_not true false m u e = omega arith
new_or_not false true m u e = rw (e refl) (omega arith)
new_or_not false false m u e = omega arith

-- a point behind the list is new unless it is among its points
unique_last : (l : List Point) (p : Point) → length (unique same_point (l ++ p ∷ [])) ≡ length (unique same_point l) + cond (among p l) 0 1
unfolding unique
unique_last [] p = refl
unique_last (q ∷ l) p =
    let e : (same_point q p ≡ true → among p l ≡ among q l) = λ s. rw (point_true q p s) in
    unique_one same_point q (l ++ p ∷ [])
    ∙ rw (among_last q p l, unique_last l p, same_turned p q) (new_or_not (among q l) (same_point q p) (among p l) (length (unique same_point l)) e)
    ∙ ap (λ n. n + cond (among p (q ∷ l)) 0 1) (sym (unique_one same_point q l))

-- ---- points that a map keeps apart

module _ (m : Point → Point) (In : Point → Type 0) (apart : (p q : Point) → In p → In q → same_point (m p) (m q) ≡ same_point p q) where
  -- an image is among the images exactly if its point is among the points
  among_map : (p : Point) (l : List Point) → In p → All In l → among (m p) (map m l) ≡ among p l
  among_map p [] h a = refl
  among_map p (q ∷ l) h a = ap₂ ◌||◌ (apart p q h a.0) (among_map p l h a.1)

  -- they have as many distinct images
  pub unique_map : (l : List Point) → All In l → length (unique same_point (map m l)) ≡ length (unique same_point l)
  unfolding unique
  unique_map [] a = refl
  unique_map (p ∷ l) a =
      unique_one same_point (m p) (map m l)
      ∙ rw (among_map p l a.0 a.1, unique_map l a.1) (sym (unique_one same_point p l))

-- ---- points behind the list

-- a longer list has no fewer
pub unique_append : (l k : List Point) → length (unique same_point l) ≤ length (unique same_point (l ++ k))
unique_append l [] = rw (append-nil l) (omega arith)
unique_append l (p ∷ k) = rw (← append_assoc l (p ∷ []) k) (omega (arith, unique_append (l ++ p ∷ []) k, unique_last l p))

-- ---- vertices of a grid

module _ (g : Grid) where
  -- how many vertices of the grid pass a test
  abbrev vertex_count : (Point → Bool) → ℕ
  vertex_count t = sum_to (length g.columns) (λ i. sum_to (length g.rows) (λ j. cond (t (vertex g i j)) 1 0))

  -- a vertex stands at one place
  other_vertex : (i j a b : ℕ) → i < length g.columns → j < length g.rows → a < length g.columns → b < length g.rows → (i ≡ a → j ≡ b → ⊥)
      → same_point (vertex g i j) (vertex g a b) ≡ false
  other_vertex i j a b h k m n d =
      is_false (same_point (vertex g i j) (vertex g a b)) (λ t.
      let e = point_true (vertex g i j) (vertex g a b) t in
      d (one_index g.columns g.columns_rise i a h m (ap (λ (p : Point). p.x) e)) (one_index g.rows g.rows_rise j b k n (ap (λ (p : Point). p.y) e)))

  -- the distinct points of a list of vertices are as many as the vertices among them
  pub unique_vertices : (l : List Point) → All (Vertex g) l → length (unique same_point l) ≡ vertex_count (λ p. among p l)
  unfolding unique
  unique_vertices [] v = sym (double_zero (length g.columns) (length g.rows) (λ i j. 0) (λ i j h k. refl))
  unique_vertices (p ∷ l) v =
      let (a, h, x) = v.0.column in
      let (b, k, y) = v.0.row in
      let e : vertex g a b ≡ p = point_path x y in
      unique_one same_point p l
      ∙ omega (
        arith,
        unique_vertices l v.1,
        double_more (length g.columns) (length g.rows) a b (cond (among p l) 0 1)
            (λ i j. cond (among (vertex g i j) (p ∷ l)) 1 0) (λ i j. cond (among (vertex g i j) l) 1 0) h k
            (λ i j m n d. rw (← e, other_vertex i j a b m n h k d))
            (rw (e, true_point p p refl) (one (among p l))),
      )
    where
      one : (c : Bool) → 1 ≡ cond c 1 0 + cond c 0 1
      one true = refl
      one false = refl

  -- so with at most c rows they are no more than c times the columns
  pub unique_few : (c : ℕ) → length g.rows ≤ c → (l : List Point) → All (Vertex g) l → length (unique same_point l) ≤ length g.columns * c
  unique_few c most l v =
      rw (unique_vertices l v)
      (sum_to_most (length g.columns) c (λ i. sum_to (length g.rows) (λ j. cond (among (vertex g i j) l) 1 0))
      (λ i h. omega (arith, sum_to_most (length g.rows) 1 (λ j. cond (among (vertex g i j) l) 1 0) (λ j k. cond_one (among (vertex g i j) l)))))
