-- The leaves of a centre are separate, and an edge's owner is the run, of those that the centre meets, whose box has it.
use mathlib.Core.Path.{◌≡◌, refl, sym, ◌∙◌}
use mathlib.Core.Bool.{Bool, true, false, cond, true≢false}
use mathlib.Core.List.{List}
use Prim.Native.Nat.{ℕ, ◌+◌, ◌<◌}
use native.Mathlib.Omega.{arith}
use native.Mathlib.Decide.{ℕ_discrete}
use lib.ListN.{length}
use Rattle.network.specs.Plane.{Run}
use Rattle.network.specs.Grid.{Edge, inside}
use Rattle.network.specs.Graph.{run_at, meets}
use Rattle.network.specs.Steps.{Dir, other}
use Rattle.network.proofs.Edges.{OfGrid}
use Rattle.network.proofs.Meeting.{edge_overlap, true_meets, meets_listed}
use Rattle.sharing.specs.Box.{Box, hi, nowhere, falls}
use Rattle.sharing.specs.Instance.{none, owner_if, owner}
use Rattle.sharing.specs.View.{View, edge, Shows}
use Rattle.sharing.specs.Star.{star_of, Centred}
use Rattle.sharing.proofs.Owners.{Lies, EdgeIn, Separate, owner_is, owner_none}
use Rattle.sharing.proofs.View.{Seen, edge_of, lies_inside, lies_edges}

-- no edge lies in the box of a single point
nowhere_lies : (d : Dir) (s t : ℕ) → Lies nowhere d s t → ⊥
unfolding hi
nowhere_lies d s t i = omega (arith, i.along_high)

-- a box that shows a run has its points on the grid's lines
pub shows_seen : (v : View) (r : Run) (b : Box) → Shows v r b → Seen v b
shows_seen v r b s d = (s.first_fits d, s.second_fits d)

-- the edge along d from (s, t), counted from the first point of a box; and it lies in the box a
abbrev pub edge_from : View → Box → Dir → ℕ → ℕ → Edge
edge_from v b d s t = edge v d (b.first d + s) (b.first (other d) + t)

abbrev pub LiesFrom : Box → Box → Dir → ℕ → ℕ → Type 0
LiesFrom b a d s t = Lies a d (b.first d + s) (b.first (other d) + t)

module _ (v : View) (runs : List Run) (box : ℕ → Box) (c : ℕ) (C : Centred v runs box c) where
  -- every run's box has its points on the grid's lines
  pub seen : (k : ℕ) → k < length runs → Seen v (box k)
  seen k h = shows_seen v (run_at runs k) (box k) (C.shows k h)

  -- the box of a leaf is its run's
  pub leaf_is : (k : ℕ) → meets v.grid runs c k ≡ true → (star_of v runs box c).leaf k ≡ box k
  leaf_is k m = rw m

  -- an edge lies in a leaf's box exactly if the centre meets the run and the edge lies in the run's box
  pub leaf_lies : (d : Dir) (k s t : ℕ) → EdgeIn (star_of v runs box c) d k s t → (meets v.grid runs c k ≡ true) × LiesFrom (box c) (box k) d s t
  leaf_lies d k s t i = go (meets v.grid runs c k) i
    where
      go : (m : Bool) → LiesFrom (box c) (cond m (box k) nowhere) d s t → (m ≡ true) × LiesFrom (box c) (box k) d s t
      go true i = (refl, i)
      go false i = absurd (nowhere_lies d _ _ i)

  -- and back
  pub lies_leaf : (d : Dir) (k s t : ℕ) → meets v.grid runs c k ≡ true → LiesFrom (box c) (box k) d s t → EdgeIn (star_of v runs box c) d k s t
  lies_leaf d k s t m i = go (meets v.grid runs c k) m
    where
      go : (m : Bool) → m ≡ true → LiesFrom (box c) (cond m (box k) nowhere) d s t
      go true e = i
      go false e = absurd (true≢false (sym e))

  -- in the plane it lies in the run's box, and is an edge of the grid
  leaf_inside : (d : Dir) (k s t : ℕ) → EdgeIn (star_of v runs box c) d k s t
      → OfGrid v.grid (edge_from v (box c) d s t) × (inside (edge_from v (box c) d s t) (run_at runs k) ≡ true)
  leaf_inside d k s t i =
      let (m, j) = leaf_lies d k s t i in
      let h = meets_listed v.grid runs c k m in
      let o = lies_edges v (box k) (seen k h) d _ _ j in
      (edge_of v d _ _ o, rw (C.shows k h).same_run at (lies_inside v (box k) (seen k h) d _ _ o j))

  -- no two leaves meet, so no edge lies in the boxes of two
  pub separate : Separate (star_of v runs box c)
  separate =
      record {
        listed = λ d k s t i. meets_listed v.grid runs c k (leaf_lies d k s t i).0;
        one = λ d j k s t x y. go d j k s t x y (ℕ_discrete j k);
      }
    where
      go : (d : Dir) (j k s t : ℕ) → EdgeIn (star_of v runs box c) d j s t → EdgeIn (star_of v runs box c) d k s t → Dec (j ≡ k) → j ≡ k
      go d j k s t x y (yes e) = e
      go d j k s t x y (no n) =
          let (o, a) = leaf_inside d j s t x in
          let (p, b) = leaf_inside d k s t y in
          absurd (true≢false (sym (true_meets v.grid runs j k n (edge_overlap v.grid (run_at runs j) (run_at runs k) (edge_from v (box c) d s t) o a b))
          ∙ C.apart j k (leaf_lies d j s t x).0 (leaf_lies d k s t y).0))

  -- the owner, by the boxes of the runs that the centre meets
  pub leaf_owner_lem : (d : Dir) (k s t : ℕ) → meets v.grid runs c k ≡ true → LiesFrom (box c) (box k) d s t
      → owner (star_of v runs box c) d s t ≡ owner_if (falls (box k)) k
  leaf_owner_lem d k s t m i = owner_is (star_of v runs box c) d s t separate k (lies_leaf d k s t m i) ∙ rw m

  -- where no leaf's box has the edge there is none
  pub no_owner : (d : Dir) (s t : ℕ) → ((k : ℕ) → meets v.grid runs c k ≡ true → LiesFrom (box c) (box k) d s t → ⊥)
      → owner (star_of v runs box c) d s t ≡ none
  no_owner d s t h = owner_none (star_of v runs box c) d s t (λ k i. let (m, j) = leaf_lies d k s t i in h k m j)
