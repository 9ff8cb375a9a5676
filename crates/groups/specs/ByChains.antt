-- What is computed of groups and centres, said by chains alone.
use Rattle.std.specs.Prelude.{◌≡◌, ◌↔◌, Bool, true, ℕ, ◌≤◌, ◌<◌, length}
use mathlib.Core.List.{Memᴰ as Member}
use Rattle.network.specs.Grid.{Rising}
use Rattle.groups.specs.Chains.{Chain, StarOf}
use Rattle.groups.specs.Groups.{group_of, lowest, heads, group_count, all_stars, centre_of}

pub record ByChains (joined : ℕ → ℕ → Bool) (n : ℕ) : Type 0 where
  -- a group is what chains lead to
  pub group : (i j : ℕ) → i < n → Member j (group_of joined n i) ↔ Chain joined i j
  -- the test says that every group is a star
  pub stars : (all_stars joined n ≡ true) ↔ ((i : ℕ) → i < n → (c : ℕ) × StarOf joined i c)
  -- and then the centre is a centre, and no other is lower
  pub centre : all_stars joined n ≡ true → (i : ℕ) → i < n → StarOf joined i (centre_of joined n i)
  pub lowest_centre : all_stars joined n ≡ true → (i c : ℕ) → i < n → StarOf joined i c → centre_of joined n i ≤ c
  -- what is counted rises, so nothing is counted twice; every number is in the group of one of them, and no two of them are in one group
  pub counted : group_count joined n ≡ length (heads (lowest joined n) n)
  pub once : Rising (heads (lowest joined n) n)
  pub every_group : (i : ℕ) → i < n → (r : ℕ) × Member r (heads (lowest joined n) n) × Chain joined r i
  pub one_a_group : (r s : ℕ) → Member r (heads (lowest joined n) n) → Member s (heads (lowest joined n) n) → Chain joined r s → r ≡ s
