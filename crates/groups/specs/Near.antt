-- What a vertex sees of its neighbours, among the numbers below m: how a star is known, and its centre. That this says the same as groups and centres, the
-- laws of `proofs/Near.antt` say.
use Rattle.std.specs.Prelude.{Bool, cond, ◌&&◌, ◌||◌, ℕ, eqb, ltb, get_or}
use Rattle.network.specs.Lists.{every, select}
use Rattle.network.specs.Graph.{below, degree}

module _ (joined : ℕ → ℕ → Bool) (m : ℕ) where
  -- the first neighbour of i
  unfoldable pub first_of : ℕ → ℕ
  first_of i = get_or (select (joined i) (below m)) 0 m

  -- i has one neighbour at most
  unfoldable pub is_lone : ℕ → Bool
  is_lone i = ltb (degree joined (below m) i) 2

  -- it has, or its neighbours all have
  unfoldable pub is_local : ℕ → Bool
  is_local i = is_lone i || every is_lone (select (joined i) (below m))

  -- the neighbour of a vertex that has one, unless the two are a pair and the vertex is the lower; else the vertex itself
  unfoldable pub near_centre : ℕ → ℕ
  near_centre i =
      cond (eqb (degree joined (below m) i) 1) (cond (eqb (degree joined (below m) (first_of i)) 1 && ltb i (first_of i)) i (first_of i)) i
