-- Groups and their centres, to be computed (02, C-16): of a graph on the numbers below n, as `meets` is for the runs of a job. That they are the groups and
-- the centres that chains make, `ByChains` says.
use Rattle.std.specs.Prelude.{Bool, ◌||◌, List, [], ◌∷◌, ℕ, zero, suc, eqb, length, get_or}
use Rattle.network.specs.Lists.{any, every, select}
use Rattle.network.specs.Graph.{below, is_centre, centres}

-- j is one of the list, or joined to one of it
unfoldable pub reached : (ℕ → ℕ → Bool) → List ℕ → ℕ → Bool
reached joined l j = any (λ m. eqb m j || joined m j) l

module _ (joined : ℕ → ℕ → Bool) (n : ℕ) where
  -- the list with all that are joined to one of it, rising
  unfoldable pub grown : List ℕ → List ℕ
  grown l = select (reached joined l) (below n)

  -- what chains of at most k steps from i lead to
  unfoldable pub spread : ℕ → ℕ → List ℕ
  spread i zero = i ∷ []
  spread i (suc k) = grown (spread i k)

  -- the group of i, rising: no chain has to be longer than n steps
  unfoldable pub group_of : ℕ → List ℕ
  group_of i = spread i n

  -- the lowest of the group of i
  unfoldable pub lowest : ℕ → ℕ
  lowest i = get_or (group_of i) 0 i

-- Where `rep i` stands for i, as the lowest of its group does: the numbers below n that stand for themselves.
unfoldable pub heads : (ℕ → ℕ) → ℕ → List ℕ
heads rep n = select (λ i. eqb (rep i) i) (below n)

module _ (joined : ℕ → ℕ → Bool) (n : ℕ) where
  -- how many groups there are: each is counted at its lowest
  unfoldable pub group_count : ℕ
  group_count = length (heads (lowest joined n) n)

  -- the group of i has a centre
  unfoldable pub in_star : ℕ → Bool
  in_star i = any (is_centre joined (group_of joined n i)) (group_of joined n i)

  -- "every group is a star"
  unfoldable pub all_stars : Bool
  all_stars = every in_star (below n)

  -- "the centre of each run's group", the lowest where there are two
  unfoldable pub centre_of : ℕ → ℕ
  centre_of i = get_or (centres joined (group_of joined n i)) 0 0
