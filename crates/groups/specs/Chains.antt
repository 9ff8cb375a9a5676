-- Groups and their centres, said by chains: "two runs are in one group when a chain of meetings joins them" (02, C-16). As in network's `Graph`, `joined i j`
-- says that i and j are neighbours in some graph.
use Rattle.std.specs.Prelude.{◌≡◌, Bool, true, false, ℕ}

-- a chain from i: no step, or one more step to a neighbour
pub data Chain (joined : ℕ → ℕ → Bool) (i : ℕ) : ℕ → Type 0 where
  start : Chain joined i i
  link : {j k : ℕ} → Chain joined i j → joined j k ≡ true → Chain joined i k

-- the group of i is a star with the centre c: "some run, the centre, meets every other run and no two others meet" (01, Lines, boxes, meeting)
pub record StarOf (joined : ℕ → ℕ → Bool) (i c : ℕ) : Type 0 where
  pub member : Chain joined i c
  pub joins : (j : ℕ) → Chain joined i j → (j ≡ c → ⊥) → joined c j ≡ true
  pub leaves : (j k : ℕ) → Chain joined i j → Chain joined i k → (j ≡ c → ⊥) → (k ≡ c → ⊥) → joined j k ≡ false
