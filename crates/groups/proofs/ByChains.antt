-- What is computed of groups and centres is what chains make: `ByChains`.
use mathlib.Core.Path.{refl, sym, ◌∙◌}
use mathlib.Core.Logic.{◌⊎◌, inl, inr}
use mathlib.Core.Bool.{Bool}
use Prim.Native.Nat.{ℕ, ◌≤◌, ◌<◌}
use lib.Dec.{eqb}
use borrow.Author.Tests.{eq-eqb}
use Rattle.network.specs.Graph.{below}
use Rattle.network.specs.Entries.{below_rises}
use Rattle.network.proofs.Numbers.{order}
use Rattle.network.proofs.Lists.{member_selected}
use Rattle.network.proofs.Leaves.{member_below}
use Rattle.network.proofs.Centres.{IsCentre}
use Rattle.groups.specs.Chains.{StarOf}
use Rattle.groups.specs.Groups.{group_of, lowest, heads, group_count, centre_of}
use Rattle.groups.specs.ByChains.{ByChains}
use Rattle.groups.specs.Graph.{Graph}
use Rattle.groups.proofs.Parts.{select_rises, head_of}
use Rattle.groups.proofs.Chains.{chain_back, member_chain, chain_member}
use Rattle.groups.proofs.Groups.{lowest_member, lowest_below, lowest_own, lowest_same}
use Rattle.groups.proofs.Stars.{stars_centre, centre_stars}

module _ {joined : ℕ → ℕ → Bool} {n : ℕ} (graph : Graph joined n) where
  -- a centre of the group, by its members and by chains
  centre_star : {i c : ℕ} → i < n → IsCentre joined (group_of joined n i) c → StarOf joined i c
  centre_star h C =
      record {
        member = member_chain graph h C.member;
        joins = λ j m d. C.joins j (chain_member graph h m) d;
        leaves = λ j k m o d e. C.leaves j k (chain_member graph h m) (chain_member graph h o) d e;
      }

  pub star_centre : {i c : ℕ} → i < n → StarOf joined i c → IsCentre joined (group_of joined n i) c
  star_centre h S =
      record {
        member = chain_member graph h S.member;
        joins = λ j m d. S.joins j (member_chain graph h m) d;
        leaves = λ j k m o d e. S.leaves j k (member_chain graph h m) (member_chain graph h o) d e;
      }

  -- THEOREM: groups, stars, centres and the number of groups are those of chains
  pub by_chains : ByChains joined n
  unfolding group_count heads
  by_chains =
      record {
        group = λ i j h. (λ m. member_chain graph h m, λ c. chain_member graph h c);
        stars = (λ t i h. (centre_of joined n i, centre_star h (stars_centre t h).0), λ s. centre_stars (λ i h. let (c, S) = s i h in (c, star_centre h S)));
        centre = λ t i h. centre_star h (stars_centre t h).0;
        lowest_centre = λ t i c h S. least (order (centre_of joined n i) c) (λ l. (stars_centre t h).1 c l (star_centre h S));
        counted = refl;
        once = select_rises (λ i. eqb (lowest joined n i) i) (below n) (below_rises n);
        every_group = λ i h. (
          lowest joined n i,
          member_selected (λ i. eqb (lowest joined n i) i) (below n) (member_below n (lowest joined n i) (lowest_below graph h))
              (eq-eqb (lowest joined n (lowest joined n i)) (lowest joined n i) (lowest_own graph i h)),
          chain_back graph.both_ways (member_chain graph h (lowest_member graph h)),
        );
        one_a_group = λ r s m o c. let (h, e) = head_of (lowest joined n) n r m in
            let (k, f) = head_of (lowest joined n) n s o in
            sym e ∙ sym (lowest_same graph h (chain_member graph h c)) ∙ f;
      }
    where
      least : {a b : ℕ} → (a ≤ b) ⊎ (b < a) → (b < a → ⊥) → a ≤ b
      least (inl h) f = h
      least (inr h) f = absurd (f h)
