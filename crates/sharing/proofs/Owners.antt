-- Owners: an edge's owner is the leaf whose box it lies in, where no edge lies in the boxes of two.
use mathlib.Core.Path.{◌≡◌, refl, ◌∙◌}
use mathlib.Core.Bool.{Bool, true, false, cond, ◌&&◌, false≢true}
use Prim.Native.Nat.{ℕ, zero, suc, ◌+◌, ◌≤◌, ◌<◌}
use native.Mathlib.Omega.{arith}
use native.Mathlib.Decide.{ℕ_discrete}
use borrow.Author.Tests.{leb-true, le-leb}
use Rattle.network.specs.Steps.{Dir, other}
use Rattle.network.proofs.Tests.{and_split, and_join}
use Rattle.sharing.specs.Box.{Box, lo, hi, passes, lies_in, falls}
use Rattle.sharing.specs.Instance.{Instance, none, same, cross, owner_if, leaf_owner, in_leaf, owner_below, owner}

-- ---- an edge in a box

-- an edge lies in a box, in numbers
pub record Lies (b : Box) (d : Dir) (s t : ℕ) : Type 0 where
  pub along_low : lo b d ≤ s
  pub along_high : s < hi b d
  pub across_low : lo b (other d) ≤ t
  pub across_high : t ≤ hi b (other d)

-- the test for a line in a box, as facts
passes_true : (b : Box) (d : Dir) (s : ℕ) → passes b d s ≡ true → (lo b d ≤ s) × (s ≤ hi b d)
unfolding passes
passes_true b d s h = let (x, y) = and_split _ _ h in (leb-true (lo b d) s x, leb-true s (hi b d) y)

-- and back
true_passes : (b : Box) (d : Dir) (s : ℕ) → lo b d ≤ s → s ≤ hi b d → passes b d s ≡ true
unfolding passes
true_passes b d s h k = and_join _ _ (le-leb (lo b d) s h) (le-leb s (hi b d) k)

-- the test says exactly that
pub lies_in_lem : (b : Box) (d : Dir) (s t : ℕ) → lies_in b d s t ≡ true → Lies b d s t
unfolding lies_in
lies_in_lem b d s t h =
    let (x, y) = and_split (passes b d s && passes b d (suc s)) (passes b (other d) t) h in
    let (z, w) = and_split (passes b d s) (passes b d (suc s)) x in
    omega (arith, passes_true b d s z, passes_true b d (suc s) w, passes_true b (other d) t y)

-- and back
pub in_lies : (b : Box) (d : Dir) (s t : ℕ) → Lies b d s t → lies_in b d s t ≡ true
unfolding lies_in
in_lies b d s t i =
    and_join _ _ (and_join _ _ (true_passes b d s (omega arith) (omega arith)) (true_passes b d (suc s) (omega arith) (omega arith)))
    (true_passes b (other d) t (omega arith) (omega arith))

-- the edge along d from (s, t) lies in the box of leaf k
abbrev pub EdgeIn : Instance → Dir → ℕ → ℕ → ℕ → Type 0
EdgeIn I d k s t = Lies (I.leaf k) d (I.start d + s) (I.start (other d) + t)

-- ---- owners

-- the leaves are runs of the list, and no edge lies in the boxes of two
pub record Separate (I : Instance) : Type 0 where
  pub listed : (d : Dir) (k s t : ℕ) → EdgeIn I d k s t → k < I.many
  pub one : (d : Dir) (j k s t : ℕ) → EdgeIn I d j s t → EdgeIn I d k s t → j ≡ k

-- equal owners are the same leaf, of the same kind
owner_leaf : (x : Bool) (j : ℕ) (y : Bool) (k : ℕ) → owner_if x j ≡ owner_if y k → (x ≡ y) × (j ≡ k)
owner_leaf true j true k e = (refl, cc)
owner_leaf true j false k e = (cc, cc)
owner_leaf false j true k e = (cc, cc)
owner_leaf false j false k e = (refl, cc)

module _ (I : Instance) (d : Dir) (s t : ℕ) where
  -- the owner among the first n leaves has the edge in its box
  below_in : (n : ℕ) (x : Bool) (k : ℕ) → owner_below I n d s t ≡ owner_if x k → (falls (I.leaf k) ≡ x) × EdgeIn I d k s t
  unfolding owner_below
  below_in zero true k e = absurd (let z : ◌≡◌ {A = ℕ} 0 1 = cc in omega arith)
  below_in zero false k e = absurd (let z : ◌≡◌ {A = ℕ} 0 1 = cc in omega arith)
  below_in (suc j) x k e = go (in_leaf I j d s t) refl (below_in j x k) e
    where
      go : (b : Bool) → in_leaf I j d s t ≡ b → (owner_below I j d s t ≡ owner_if x k → (falls (I.leaf k) ≡ x) × EdgeIn I d k s t)
          → cond b (leaf_owner I j) (owner_below I j d s t) ≡ owner_if x k → (falls (I.leaf k) ≡ x) × EdgeIn I d k s t
      go true i h e = let (f, l) = owner_leaf (falls (I.leaf j)) j x k e in (rw l at f, rw l at (lies_in_lem (I.leaf j) d _ _ i))
      go false i h e = h e

  -- an edge lies in its owner's box; a cross owner falls, and a same owner does not
  pub cross_in : (k : ℕ) → owner I d s t ≡ cross k → (falls (I.leaf k) ≡ true) × EdgeIn I d k s t
  cross_in k e = below_in I.many true k e

  -- of a same owner
  pub same_in : (k : ℕ) → owner I d s t ≡ same k → (falls (I.leaf k) ≡ false) × EdgeIn I d k s t
  same_in k e = below_in I.many false k e

  -- a leaf that has the edge in its box is the owner among the first n
  below_is : Separate I → (n k : ℕ) → k < n → EdgeIn I d k s t → owner_below I n d s t ≡ leaf_owner I k
  unfolding owner_below
  below_is S zero k h i = absurd (omega arith)
  below_is S (suc j) k h i = go (in_leaf I j d s t) refl (λ l. below_is S j k l i)
    where
      less : Dec (k ≡ j) → in_leaf I j d s t ≡ false → k < j
      less (yes q) e = absurd (false≢true (let z = in_lies (I.leaf k) d _ _ i in cc))
      less (no q) e = omega arith

      go : (b : Bool) → in_leaf I j d s t ≡ b → (k < j → owner_below I j d s t ≡ leaf_owner I k) → cond b (leaf_owner I j) (owner_below I j d s t) ≡ leaf_owner I k
      go true e r = rw (S.one d j k s t (lies_in_lem (I.leaf j) d _ _ e) i)
      go false e r = r (less (ℕ_discrete k j) e)

  -- the leaf whose box has the edge is its owner
  pub owner_is : Separate I → (k : ℕ) → EdgeIn I d k s t → owner I d s t ≡ leaf_owner I k
  owner_is S k i = below_is S I.many k (S.listed d k s t i) i

  -- a leaf that falls is a cross owner
  pub cross_is : Separate I → (k : ℕ) → falls (I.leaf k) ≡ true → EdgeIn I d k s t → owner I d s t ≡ cross k
  cross_is S k f i = owner_is S k i ∙ rw f

  -- where no leaf's box has the edge there is none among the first n
  none_below : (n : ℕ) → ((k : ℕ) → EdgeIn I d k s t → ⊥) → owner_below I n d s t ≡ none
  unfolding owner_below
  none_below zero h = refl
  none_below (suc j) h = go (in_leaf I j d s t) refl (none_below j h)
    where
      go : (b : Bool) → in_leaf I j d s t ≡ b → owner_below I j d s t ≡ none → cond b (leaf_owner I j) (owner_below I j d s t) ≡ none
      go true e r = absurd (h j (lies_in_lem (I.leaf j) d _ _ e))
      go false e r = r

  -- an edge in no leaf's box has no owner
  pub owner_none : ((k : ℕ) → EdgeIn I d k s t → ⊥) → owner I d s t ≡ none
  owner_none h = none_below I.many h
