-- The vertices of the route that a step list draws, and its corners: its start, the vertices at which its direction changes, and its end. `trail` and
-- `turns` list them by looking at the steps alone, so that they say the same on every grid.
use mathlib.Core.Path.{◌≡◌, refl, ap, ◌∙◌}
use mathlib.Core.Bool.{Bool, true, false, not, ◌&&◌, or-true}
use mathlib.Core.List.{List, [], ◌∷◌, map}
use Prim.Native.Nat.{ℕ, suc, ◌+◌, ◌≤◌, ◌<◌}
use native.Mathlib.Omega.{arith}
use borrow.Author.Tests.{eq-eqb, ne_eqb}
use lib.ListN.{length, get_or}
use lib.Dec.{eqb}
use Rattle.network.specs.Lists.{All}
use Rattle.network.specs.Plane.{Point}
use Rattle.network.specs.Grid.{Grid}
use Rattle.network.specs.Steps.{Dir, hor, ver, steps, Lane, extent, at, Fits, spot, draw_from, drawn}
use Rattle.network.specs.Corners.{straight_on, corners_from, corners}
use Rattle.network.proofs.Corners.{corner_on, corner_at}
use Rattle.network.proofs.Lanes.{lane_apart}
use Rattle.route.specs.Walker.{heading_of}

-- a vertex that is passed: it stands in front of the list where the way turns there
abbrev pub passing : Bool → Point → List Point → List Point
passing true p l = p ∷ l
passing false p l = l

-- a vertex on a way: whether it is a corner, and the heading with which the way goes on
pub record Visit : Type 0 where
  pub spot : Point
  pub corner : Bool
  pub heading : ℕ

-- the corners among the vertices of a way
abbrev pub bends : List Visit → List Point
bends [] = []
bends (v ∷ l) = passing v.corner v.spot (bends l)

-- the vertices from column i and row j on, reached with a heading, on the steps of a list; f gives the vertices
abbrev pub trail : (ℕ → ℕ → Point) → ℕ → ℕ → ℕ → List Dir → List Visit
trail f i j h [] = record { spot = f i j; corner = true; heading = h } ∷ []
trail f i j h (hor ∷ s) = record { spot = f i j; corner = not (eqb 0 h); heading = 0 } ∷ trail f (suc i) j 0 s
trail f i j h (ver ∷ s) = record { spot = f i j; corner = not (eqb 1 h); heading = 1 } ∷ trail f i (suc j) 1 s

-- the corners among them
abbrev pub turns : (ℕ → ℕ → Point) → ℕ → ℕ → ℕ → List Dir → List Point
turns f i j h s = bends (trail f i j h s)

-- a vertex that is passed is one corner at most
passing_length : (b : Bool) (p : Point) (l : List Point) → length (passing b p l) ≤ suc (length l)
passing_length true p l = omega arith
passing_length false p l = omega arith

-- a corner for each step at most, and the last
pub turns_length : (f : ℕ → ℕ → Point) (i j h : ℕ) (s : List Dir) → length (turns f i j h s) ≤ suc (length s)
turns_length f i j h [] = omega arith
turns_length f i j h (hor ∷ s) = omega (arith, turns_length f (suc i) j 0 s, passing_length (not (eqb 0 h)) (f i j) (turns f (suc i) j 0 s))
turns_length f i j h (ver ∷ s) = omega (arith, turns_length f i (suc j) 1 s, passing_length (not (eqb 1 h)) (f i j) (turns f i (suc j) 1 s))

-- they are vertices of the way
module _ (P : Point → Type 0) (f : ℕ → ℕ → Point) (I J : ℕ) (holds : (i j : ℕ) → i ≤ I → j ≤ J → P (f i j)) where
  -- a corner that is passed is such a vertex
  passing_all : (b : Bool) (i j : ℕ) → i ≤ I → j ≤ J → (l : List Point) → All P l → All P (passing b (f i j) l)
  passing_all true i j p q l a = (holds i j p q, a)
  passing_all false i j p q l a = a

  -- so all are
  pub turns_all : (i j h : ℕ) (s : List Dir) → i + steps hor s ≤ I → j + steps ver s ≤ J → All P (turns f i j h s)
  unfolding steps
  turns_all i j h [] p q = (holds i j (omega arith) (omega arith), tt)
  turns_all i j h (hor ∷ s) p q =
      passing_all (not (eqb 0 h)) i j (omega arith) (omega arith) (turns f (suc i) j 0 s) (turns_all (suc i) j 0 s (omega arith) (omega arith))
  turns_all i j h (ver ∷ s) p q =
      passing_all (not (eqb 1 h)) i j (omega arith) (omega arith) (turns f i (suc j) 1 s) (turns_all i (suc j) 1 s (omega arith) (omega arith))

-- the same steps turn at the same vertices, wherever these are
module _ (f g : ℕ → ℕ → Point) (m : Point → Point) (I J : ℕ) (same : (i j : ℕ) → i ≤ I → j ≤ J → m (f i j) ≡ g i j) where
  -- a vertex that is passed
  passing_map : (b : Bool) (i j : ℕ) → i ≤ I → j ≤ J → (l k : List Point) → map m l ≡ k → map m (passing b (f i j) l) ≡ passing b (g i j) k
  passing_map true i j p q l k e = cc (same i j p q)
  passing_map false i j p q l k e = e

  -- all of them
  pub turns_map : (i j h : ℕ) (s : List Dir) → i + steps hor s ≤ I → j + steps ver s ≤ J → map m (turns f i j h s) ≡ turns g i j h s
  unfolding steps
  turns_map i j h [] p q = cc (same i j (omega arith) (omega arith))
  turns_map i j h (hor ∷ s) p q =
      passing_map (not (eqb 0 h)) i j (omega arith) (omega arith) (turns f (suc i) j 0 s) (turns g (suc i) j 0 s)
      (turns_map (suc i) j 0 s (omega arith) (omega arith))
  turns_map i j h (ver ∷ s) p q =
      passing_map (not (eqb 1 h)) i j (omega arith) (omega arith) (turns f i (suc j) 1 s) (turns g i (suc j) 1 s)
      (turns_map i (suc j) 1 s (omega arith) (omega arith))

-- ---- the corners of a drawn route

-- a vertex before (i, j) on the line by which d leads there
abbrev pub origin : (ℕ → ℕ → Point) → Dir → ℕ → ℕ → ℕ → Point
origin f hor k i j = f k j
origin f ver k i j = f i k

-- it is before (i, j)
abbrev pub Behind : Dir → ℕ → ℕ → ℕ → Type 0
Behind hor k i j = k < i
Behind ver k i j = k < j

module _ (g : Grid) (X Y : Lane) (fx : Fits g.columns X) (fy : Fits g.rows Y) where
  -- a way along one line goes straight on, and one from a row to a column, or from a column to a row, turns
  on_row : (k i j : ℕ) → straight_on (spot g X Y k j) (spot g X Y i j) (spot g X Y (suc i) j) ≡ true
  unfolding straight_on
  on_row k i j =
      let x : ℕ → ℕ = λ n. get_or g.columns (at X n) 0 in
      rw (eq-eqb (get_or g.rows (at Y j) 0) (get_or g.rows (at Y j) 0) refl) (or-true (eqb (x k) (x i) && eqb (x i) (x (suc i))))

  -- along a column
  on_column : (k i j : ℕ) → straight_on (spot g X Y i k) (spot g X Y i j) (spot g X Y i (suc j)) ≡ true
  unfolding straight_on
  on_column k i j = rw (eq-eqb (get_or g.columns (at X i) 0) (get_or g.columns (at X i) 0) refl)

  -- from a row to a column
  off_row : (k i j : ℕ) → k < i → i ≤ extent X → suc j ≤ extent Y → straight_on (spot g X Y k j) (spot g X Y i j) (spot g X Y i (suc j)) ≡ false
  unfolding straight_on
  off_row k i j h p q =
      rw (
        ne_eqb _ _ (lane_apart g.columns g.columns_rise X fx k i h p),
        ne_eqb _ _ (lane_apart g.rows g.rows_rise Y fy j (suc j) (omega arith) q),
        eq-eqb (get_or g.rows (at Y j) 0) (get_or g.rows (at Y j) 0) refl,
      )

  -- from a column to a row
  off_column : (k i j : ℕ) → k < j → j ≤ extent Y → suc i ≤ extent X → straight_on (spot g X Y i k) (spot g X Y i j) (spot g X Y (suc i) j) ≡ false
  unfolding straight_on
  off_column k i j h p q =
      rw (
        ne_eqb _ _ (lane_apart g.rows g.rows_rise Y fy k j h p),
        ne_eqb _ _ (lane_apart g.columns g.columns_rise X fx i (suc i) (omega arith) q),
        eq-eqb (get_or g.columns (at X i) 0) (get_or g.columns (at X i) 0) refl,
      )

  -- from a vertex that the way came by along d, the corners are the turns
  turns_from : (s : List Dir) (d : Dir) (k i j : ℕ) → Behind d k i j → i + steps hor s ≤ extent X → j + steps ver s ≤ extent Y
      → corners_from (origin (spot g X Y) d k i j) (spot g X Y i j) (draw_from g X Y i j s) ≡ turns (spot g X Y) i j (heading_of d) s
  unfolding steps
  turns_from [] d k i j b p q = refl
  turns_from (hor ∷ s) hor k i j b p q =
      corner_on _ _ _ (draw_from g X Y (suc i) j s) (on_row k i j) ∙ turns_from s hor k (suc i) j (omega arith) (omega arith) (omega arith)
  turns_from (ver ∷ s) hor k i j b p q =
      corner_at _ _ _ (draw_from g X Y i (suc j) s) (off_row k i j b (omega arith) (omega arith))
      ∙ ap (λ l. spot g X Y i j ∷ l) (turns_from s ver j i (suc j) (omega arith) (omega arith) (omega arith))
  turns_from (hor ∷ s) ver k i j b p q =
      corner_at _ _ _ (draw_from g X Y (suc i) j s) (off_column k i j b (omega arith) (omega arith))
      ∙ ap (λ l. spot g X Y i j ∷ l) (turns_from s hor i (suc i) j (omega arith) (omega arith) (omega arith))
  turns_from (ver ∷ s) ver k i j b p q =
      corner_on _ _ _ (draw_from g X Y i (suc j) s) (on_column k i j) ∙ turns_from s ver k i (suc j) (omega arith) (omega arith) (omega arith)

  -- The corners of the route that a step list draws are its turns; a walk that stands still, with no heading, turns at its first step.
  pub corners_turns : (s : List Dir) → steps hor s ≤ extent X → steps ver s ≤ extent Y → corners (drawn g X Y s) ≡ turns (spot g X Y) 0 0 2 s
  unfolding steps
  corners_turns [] p q = refl
  corners_turns (hor ∷ s) p q = ap (λ l. spot g X Y 0 0 ∷ l) (turns_from s hor 0 1 0 (omega arith) (omega arith) (omega arith))
  corners_turns (ver ∷ s) p q = ap (λ l. spot g X Y 0 0 ∷ l) (turns_from s ver 0 0 1 (omega arith) (omega arith) (omega arith))
