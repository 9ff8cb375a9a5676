-- What the table is filled from: a centre, which goes right and up, and the boxes of its leaves. A vertex of the centre's box is known by its
-- lines counted from the centre's first point: s along a direction d, and t across.
use Rattle.std.specs.Prelude.{Bool, true, false, cond, ℕ, zero, suc, ◌+◌, ◌≤◌, ◌<◌}
use Rattle.network.specs.Steps.{Dir, other}
use Rattle.sharing.specs.Box.{Box, lies_in, falls}

pub record Instance : Type 0 where
  -- how many edges the centre passes along d
  pub size : Dir → ℕ
  -- the length of the edges along d from line s to line s + 1
  pub len : Dir → ℕ → ℕ
  -- the place of the centre's first point
  pub start : Dir → ℕ
  -- how many runs there are, and the box of each that is a leaf; `nowhere` for the others
  pub many : ℕ
  pub leaf : ℕ → Box

-- the edge along d from (s, t) is in the centre's box
pub record Inside (I : Instance) (d : Dir) (s t : ℕ) : Type 0 where
  pub along : s < I.size d
  pub across : t ≤ I.size (other d)

-- An edge's owner is the leaf whose box it lies in (no edge lies in the boxes of two). A `same` leaf slopes as the centre does or is straight, a
-- `cross` leaf slopes the other way.
pub data Owner : Type 0 where
  none : Owner
  same : ℕ → Owner
  cross : ℕ → Owner

abbrev pub owner_if : Bool → ℕ → Owner
owner_if true k = cross k
owner_if false k = same k

abbrev pub leaf_owner : Instance → ℕ → Owner
leaf_owner I k = owner_if (falls (I.leaf k)) k

-- the edge along d from (s, t) lies in the box of leaf k
abbrev pub in_leaf : Instance → ℕ → Dir → ℕ → ℕ → Bool
in_leaf I k d s t = lies_in (I.leaf k) d (I.start d + s) (I.start (other d) + t)

-- the owner among the runs below n
unfoldable pub owner_below : Instance → ℕ → Dir → ℕ → ℕ → Owner
owner_below I zero d s t = none
owner_below I (suc k) d s t = cond (in_leaf I k d s t) (leaf_owner I k) (owner_below I k d s t)

abbrev pub owner : Instance → Dir → ℕ → ℕ → Owner
owner I d s t = owner_below I I.many d s t
