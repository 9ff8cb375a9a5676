-- Groups are equal or disjoint, who is joined is in one group, and each group is known by its lowest member.
-- The groups are those of a graph on the numbers below n.
use mathlib.Core.Path.{◌≡◌, refl, sym, ◌∙◌, subst}
use mathlib.Core.List.{List, [], ◌∷◌, Memᴰ as Member}
use mathlib.Core.Bool.{Bool, true}
use Prim.Native.Nat.{ℕ, zero, suc, ◌≤◌, ◌<◌}
use native.Mathlib.Omega.{arith}
use lib.ListN.{length, get_or}
use Rattle.network.specs.Grid.{Rising}
use Rattle.network.specs.Graph.{below}
use Rattle.network.specs.Entries.{below_rises}
use Rattle.network.proofs.Lists.{member_index, index_member}
use Rattle.network.proofs.Rising.{rising_le}
use Rattle.network.proofs.Hanan.{rising_unique}
use Rattle.groups.specs.Chains.{start, link}
use Rattle.groups.specs.Groups.{grown, spread, group_of, lowest, group_count}
use Rattle.groups.specs.Graph.{Graph}
use Rattle.groups.proofs.Parts.{select_rises, heads_most}
use Rattle.groups.proofs.Chains.{chain_on, chain_back, member_chain, chain_member, group_below}

-- a group rises
pub group_rises : (joined : ℕ → ℕ → Bool) (n i : ℕ) → Rising (group_of joined n i)
unfolding group_of spread grown
group_rises joined n i = rounds n
  where
    rounds : (k : ℕ) → Rising (spread joined n i k)
    rounds zero = λ a h. absurd (omega arith)
    rounds (suc k) = select_rises _ (below n) (below_rises n)

module _ {joined : ℕ → ℕ → Bool} {n : ℕ} (graph : Graph joined n) where
  -- ---- equal or disjoint

  -- a number is in its own group
  pub group_self : {i : ℕ} → i < n → Member i (group_of joined n i)
  group_self h = chain_member graph h start

  -- two numbers are each in the group of the other
  group_turn : {i j : ℕ} → i < n → j < n → Member j (group_of joined n i) → Member i (group_of joined n j)
  group_turn h k m = chain_member graph k (chain_back graph.both_ways (member_chain graph h m))

  -- the group of a member is part of the group
  group_part : {i j k : ℕ} → i < n → j < n → Member j (group_of joined n i) → Member k (group_of joined n j) → Member k (group_of joined n i)
  group_part h k m o = chain_member graph h (chain_on (member_chain graph h m) (member_chain graph k o))

  -- a member has the same group
  pub group_same : {i j : ℕ} → i < n → Member j (group_of joined n i) → group_of joined n j ≡ group_of joined n i
  group_same {i} {j} h m =
      let k = group_below graph h m in
      rising_unique (group_of joined n j) (group_of joined n i) (group_rises joined n j) (group_rises joined n i) (λ v o. group_part h k m o) (λ v o. group_part k h (group_turn h k m) o)

  -- groups with a common member are equal
  pub group_common : {i j k : ℕ} → i < n → j < n → Member k (group_of joined n i) → Member k (group_of joined n j) → group_of joined n i ≡ group_of joined n j
  group_common h k m o = sym (group_same h m) ∙ group_same k o

  -- who is joined is in one group
  pub joined_member : {i j : ℕ} → i < n → joined i j ≡ true → Member j (group_of joined n i)
  joined_member h t = chain_member graph h (link start t)

  -- so their groups are the same
  pub joined_group : {i j : ℕ} → i < n → joined i j ≡ true → group_of joined n i ≡ group_of joined n j
  joined_group h t = sym (group_same h (joined_member h t))

  -- ---- the lowest member

  nonempty : {i : ℕ} → i < n → 0 < length (group_of joined n i)
  nonempty {i} h = let (a, l, e) = member_index i (group_self h) in omega arith

  -- the lowest is a member
  pub lowest_member : {i : ℕ} → i < n → Member (lowest joined n i) (group_of joined n i)
  unfolding lowest
  lowest_member {i} h = index_member i (group_of joined n i) 0 (nonempty h)

  -- no member is lower
  pub lowest_least : {i j : ℕ} → i < n → Member j (group_of joined n i) → lowest joined n i ≤ j
  unfolding lowest
  lowest_least {i} {j} h m =
      let (a, l, e) = member_index 0 m in
      omega (arith, first (group_of joined n i) i 0 (nonempty h), rising_le (group_of joined n i) (group_rises joined n i) 0 a (omega arith) l)
    where
      first : (l : List ℕ) (a b : ℕ) → 0 < length l → get_or l 0 a ≡ get_or l 0 b
      first [] a b h = absurd (omega arith)
      first (c ∷ l) a b h = refl

  -- so it is below n
  pub lowest_below : {i : ℕ} → i < n → lowest joined n i < n
  lowest_below h = group_below graph h (lowest_member h)

  -- a member has the same lowest
  pub lowest_same : {i j : ℕ} → i < n → Member j (group_of joined n i) → lowest joined n j ≡ lowest joined n i
  lowest_same {i} {j} h m =
      let k = group_below graph h m in
      let e = group_same h m in
      let p = lowest_least h (subst (Member (lowest joined n j)) e (lowest_member k)) in
      let q = lowest_least k (subst (Member (lowest joined n i)) (sym e) (lowest_member h)) in
      omega arith

  -- and the lowest is its own
  pub lowest_own : (i : ℕ) → i < n → lowest joined n (lowest joined n i) ≡ lowest joined n i
  lowest_own i h = lowest_same h (lowest_member h)

  -- two numbers whose groups have the same lowest are in one group
  pub same_lowest : {i j : ℕ} → i < n → j < n → lowest joined n i ≡ lowest joined n j → group_of joined n i ≡ group_of joined n j
  same_lowest {i} {j} h k e = group_common h k (lowest_member h) (subst (λ r. Member r (group_of joined n j)) (sym e) (lowest_member k))

-- there are no more groups than numbers
pub groups_most : (joined : ℕ → ℕ → Bool) (n : ℕ) → group_count joined n ≤ n
unfolding group_count
groups_most joined n = heads_most (lowest joined n) n
