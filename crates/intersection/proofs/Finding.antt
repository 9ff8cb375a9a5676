-- What the finder's functions answer, put together: the test says whether every group is a star, and then each run knows its centre.
use mathlib.Core.Path.{◌≡◌, refl, sym, ap, ap₂, ◌∙◌}
use mathlib.Core.Bool.{Bool, true, false, cond, ◌&&◌, ◌||◌, true≢false}
use mathlib.Core.List.{List}
use Prim.Native.Nat.{ℕ, ◌+◌, ◌≤◌, ◌<◌}
use native.Mathlib.Numerals.{add-one}
use native.Mathlib.Omega.{arith}
use lib.ListN.{length, get_or}
use Rattle.std.specs.Prelude.{Some, None}
use Rattle.network.specs.Lists.{every, count, select}
use Rattle.network.specs.Graph.{below, degree}
use Rattle.network.proofs.Sums.{length_select}
use Rattle.network.proofs.Tests.{is_false}
use Rattle.network.proofs.Lists.{every_true, index_member, selected_member}
use Rattle.network.proofs.Leaves.{below_member, member_below}
use Rattle.grid.specs.Tables.{table, padded}
use Rattle.grid.proofs.Tables.{table_same}
use Rattle.groups.specs.Groups.{centre_of}
use Rattle.groups.specs.Graph.{Graph}
use Rattle.groups.specs.Near.{first_of, is_lone, is_local, near_centre}
use Rattle.groups.proofs.Near.{local_stars, near_is}
use Rattle.intersection.specs.Sets.{has, members, pack}
use Rattle.intersection.specs.Centres.{joined_in, centres_at, centres_in}
use Rattle.intersection.proofs.Digits.{has_pack}
use Rattle.intersection.proofs.Lists.{every_cong, every_below}

-- ---- one run

-- the test of a run, by the set of the runs that meet one run at most
pub local_is : (sets : List ℕ) (n i lone : ℕ) → Graph (joined_in sets) n → i < n → lone ≡ pack (is_lone (joined_in sets) 32) n
    → (has lone i || every (has lone) (members (get_or sets i 0))) ≡ is_local (joined_in sets) 32 i
unfolding is_local members
local_is sets n i lone g h e =
    ap₂ ◌||◌ (same i h) (every_cong (has lone) (is_lone (joined_in sets) 32) (select (joined_in sets i) (below 32))
    (λ j m. same j (g.within i j (selected_member (joined_in sets i) (below 32) m).1)))
  where
    same : (j : ℕ) → j < n → has lone j ≡ is_lone (joined_in sets) 32 j
    same j k = ap (λ s. has s j) e ∙ has_pack (is_lone (joined_in sets) 32) n j k

-- the lowest that a run meets is its first
pub first_is : (sets : List ℕ) (i : ℕ) → get_or (members (get_or sets i 0)) 0 32 ≡ first_of (joined_in sets) 32 i
unfolding first_of members
first_is sets i = refl

-- of the numbers below m that pass, the first is below m, if one does
first_passes : (t : ℕ → Bool) (m : ℕ) → count t (below m) ≡ 1 → get_or (select t (below m)) 0 m < m
first_passes t m d =
    let some : length (select t (below m)) ≡ 1 = length_select t (below m) ∙ d in
    below_member m (get_or (select t (below m)) 0 m) (selected_member t (below m) (index_member m (select t (below m)) 0 (omega arith))).0

-- so where a run meets one, that one is a run
pub first_below : (sets : List ℕ) (i : ℕ) → degree (joined_in sets) (below 32) i ≡ 1 → first_of (joined_in sets) 32 i < 32
unfolding first_of degree
first_below sets i d = first_passes (joined_in sets i) 32 d

-- ---- all runs

-- a run that passes: on to the next
pub every_on : (t : ℕ → Bool) (i : ℕ) → t i ≡ true → every t (below i) ≡ true → every t (below (i + 1)) ≡ true
every_on t i h e = ap (λ n. every t (below n)) (add-one i) ∙ every_below t i ∙ ap₂ ◌&&◌ e h

-- a run that fails
pub every_off : (t : ℕ → Bool) (i n : ℕ) → i < n → t i ≡ false → false ≡ every t (below n)
every_off t i n h f = sym (is_false (every t (below n)) (λ e. true≢false (sym (every_true t e (member_below n i h)) ∙ f)))

module _ (joined : ℕ → ℕ → Bool) (n : ℕ) (few : n ≤ 32) (graph : Graph joined n) where
  -- every group is a star
  pub found_each : every (is_local joined 32) (below n) ≡ true → (centres : List ℕ) → centres ≡ padded 32 (table (near_centre joined 32) n) → Some centres ≡ centres_in joined n
  found_each t centres e =
      let s = sym (local_stars graph 32 few) ∙ t in
      ap Some (e ∙ ap (padded 32) (table_same (near_centre joined 32) (centre_of joined n) n (near_is graph 32 few s)))
      ∙ sym (ap (λ b. cond b (Some (centres_at joined n)) None) s)

  -- or some group is none
  pub found_none : every (is_local joined 32) (below n) ≡ false → None ≡ centres_in joined n
  found_none f = sym (ap (λ b. cond b (Some (centres_at joined n)) None) (sym (local_stars graph 32 few) ∙ f))
