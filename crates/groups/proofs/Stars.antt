-- Each group a star: the test, the centres that it gives, and that there are as many centres as groups.
use mathlib.Core.Path.{◌≡◌, refl, sym, ap, ◌∙◌, subst}
use mathlib.Core.List.{List, [], ◌∷◌, Memᴰ as Member}
use mathlib.Core.Bool.{Bool, true, false, cond, true≢false}
use Prim.Native.Nat.{ℕ, ◌<◌}
use native.Mathlib.Decide.{ℕ_discrete}
use native.Mathlib.Omega.{arith}
use lib.Dec.{eqb}
use lib.ListN.{length, get_or}
use borrow.Author.Tests.{eqb-true, eq-eqb}
use Rattle.network.specs.Lists.{sum}
use Rattle.network.specs.Graph.{below, is_centre, centres}
use Rattle.network.proofs.Sums.{sum_cong, sum_select, sum_ones, sum_one}
use Rattle.network.proofs.Tests.{is_false}
use Rattle.network.proofs.Lists.{any_true, true_any, every_true, true_every}
use Rattle.network.proofs.Centres.{IsCentre, centre_true, true_centre, centres_first, first_centres, centres_none}
use Rattle.network.proofs.Leaves.{below_member, member_below}
use Rattle.groups.specs.Chains.{Chain, start, link}
use Rattle.groups.specs.Groups.{group_of, lowest, heads, group_count, in_star, all_stars, centre_of}
use Rattle.groups.specs.Graph.{Graph}
use Rattle.groups.proofs.Parts.{sum_parts, head_of}
use Rattle.groups.proofs.Chains.{chain_member, member_chain, group_below}
use Rattle.groups.proofs.Groups.{group_rises, group_self, group_same, joined_group, lowest_below, lowest_same, lowest_own, same_lowest}

-- Each number below n has its centre: a centre is its own, the others are joined to theirs, and of two that are joined one is the centre of both.
pub record Stars (joined : ℕ → ℕ → Bool) (n : ℕ) (centre : ℕ → ℕ) : Type 0 where
  pub listed : (i : ℕ) → i < n → centre i < n
  pub own : (i : ℕ) → i < n → centre (centre i) ≡ centre i
  pub leaf : (i : ℕ) → i < n → ¬ (i ≡ centre i) → joined (centre i) i ≡ true
  pub together : (i j : ℕ) → i < n → j < n → joined i j ≡ true → centre i ≡ centre j
  pub apart : (i j : ℕ) → i < n → j < n → ¬ (i ≡ centre i) → ¬ (j ≡ centre j) → joined i j ≡ true → ⊥

-- the centre is the group's
pub centre_same : (joined : ℕ → ℕ → Bool) (n i j : ℕ) → group_of joined n i ≡ group_of joined n j → centre_of joined n i ≡ centre_of joined n j
unfolding centre_of
centre_same joined n i j e = ap (λ l. get_or (centres joined l) 0 0) e

module _ {joined : ℕ → ℕ → Bool} {n : ℕ} where
  -- ---- the test

  -- where every group has a centre, the centre of each run's group is its lowest
  pub stars_centre : all_stars joined n ≡ true → {i : ℕ} → i < n
      → IsCentre joined (group_of joined n i) (centre_of joined n i) × ((d : ℕ) → d < centre_of joined n i → IsCentre joined (group_of joined n i) d → ⊥)
  unfolding all_stars in_star centre_of
  stars_centre t {i} h = go (centres joined group) refl
    where
      group : List ℕ
      group = group_of joined n i

      some : (c : ℕ) × Member c group × (is_centre joined group c ≡ true)
      some = any_true (is_centre joined group) group (every_true (in_star joined n) t (member_below n i h))

      go : (l : List ℕ) → centres joined group ≡ l
          → IsCentre joined group (get_or l 0 0) × ((d : ℕ) → d < get_or l 0 0 → IsCentre joined group d → ⊥)
      go [] e = let (c, m, s) = some in absurd (centres_none joined group e c (centre_true joined group c m s))
      go (c ∷ l) e = centres_first joined group (group_rises joined n i) c l e

  -- and where every group has one, the test says so
  pub centre_stars : ((i : ℕ) → i < n → (c : ℕ) × IsCentre joined (group_of joined n i) c) → all_stars joined n ≡ true
  unfolding all_stars in_star
  centre_stars h =
      true_every (in_star joined n) (below n) (λ i m. let (c, k) = h i (below_member n i m) in
      true_any (is_centre joined (group_of joined n i)) k.member (true_centre joined (group_of joined n i) c k))

module _ {joined : ℕ → ℕ → Bool} {n : ℕ} (graph : Graph joined n) (t : all_stars joined n ≡ true) where
  -- ---- each run and its centre

  -- the centre is one of the group
  pub centre_member : {i : ℕ} → i < n → Member (centre_of joined n i) (group_of joined n i)
  centre_member h = (stars_centre t h).0.member

  -- so it is below n
  pub centre_below : {i : ℕ} → i < n → centre_of joined n i < n
  centre_below h = group_below graph h (centre_member h)

  -- LAW: the centres that the groups have
  pub stars : Stars joined n (centre_of joined n)
  stars =
      record {
        listed = λ i h. centre_below h;
        own = λ i h. centre_same joined n (centre_of joined n i) i (group_same graph h (centre_member h));
        leaf = λ i h d. (stars_centre t h).0.joins i (group_self graph h) d;
        together = λ i j h k s. centre_same joined n i j (joined_group graph h s);
        apart = λ i j h k d e s. two i j h k d e s (joined_group graph h s);
      }
    where
      two : (i j : ℕ) → i < n → j < n → ¬ (i ≡ centre_of joined n i) → ¬ (j ≡ centre_of joined n j) → joined i j ≡ true → group_of joined n i ≡ group_of joined n j → ⊥
      two i j h k d e s g =
          true≢false (sym s ∙ (stars_centre t h).0.leaves i j (group_self graph h) (subst (Member j) (sym g) (group_self graph k)) d (λ q. e (q ∙ centre_same joined n i j g)))

  -- ---- sums over the centres

  -- there are as many centres as groups: each group has one centre and one lowest
  pub centres_count : length (heads (centre_of joined n) n) ≡ group_count joined n
  unfolding group_count heads
  centres_count =
      sym (sum_ones (heads (centre_of joined n) n))
      ∙ sum_select (λ k. eqb (centre_of joined n k) k) (λ k. 1) (below n)
      ∙ sym (sum_parts (lowest joined n) n (λ k h. lowest_below graph h) (lowest_own graph) (λ r k. cond (eqb (centre_of joined n k) k) 1 0))
      ∙ sum_cong _ _ (heads (lowest joined n) n) (λ r m. part r (head_of (lowest joined n) n r m))
      ∙ sum_ones (heads (lowest joined n) n)
    where
      term : ℕ → ℕ → ℕ
      term r k = cond (eqb (lowest joined n k) r) (cond (eqb (centre_of joined n k) k) 1 0) 0

      other : (r k : ℕ) → r < n → lowest joined n r ≡ r → k < n → (k ≡ centre_of joined n r → ⊥) → (a : Bool) → eqb (lowest joined n k) r ≡ a → (b : Bool) → eqb (centre_of joined n k) k ≡ b
          → ◌≡◌ {A = ℕ} (cond a (cond b 1 0) 0) 0
      other r k h e l d true p true q =
          absurd (d (sym (eqb-true (centre_of joined n k) k q) ∙ centre_same joined n k r (same_lowest graph l h (eqb-true (lowest joined n k) r p ∙ sym e))))
      other r k h e l d true p false q = refl
      other r k h e l d false p b q = refl

      part : (r : ℕ) → (r < n) × (lowest joined n r ≡ r) → sum (term r) (below n) ≡ 1
      part r (h, e) =
          sum_one (term r) n (centre_of joined n r) (centre_below h) (λ k l d. other r k h e l d _ refl _ refl)
          ∙ rw (eq-eqb (lowest joined n (centre_of joined n r)) r (lowest_same graph h (centre_member h) ∙ e), eq-eqb (centre_of joined n (centre_of joined n r)) (centre_of joined n r) (stars.own r h))

-- the same centres, as another function gives them
pub stars_same : {joined : ℕ → ℕ → Bool} {n : ℕ} (f g : ℕ → ℕ) → ((i : ℕ) → i < n → f i ≡ g i) → Stars joined n f → Stars joined n g
stars_same {joined} {n} f g e S =
    record {
      listed = λ i h. omega (arith, e i h, S.listed i h);
      own = λ i h. ap g (sym (e i h)) ∙ sym (e (f i) (S.listed i h)) ∙ S.own i h ∙ e i h;
      leaf = λ i h d. ap (λ c. joined c i) (sym (e i h)) ∙ S.leaf i h (λ q. d (q ∙ e i h));
      together = λ i j h k t. sym (e i h) ∙ S.together i j h k t ∙ e j k;
      apart = λ i j h k d p t. S.apart i j h k (λ q. d (q ∙ e i h)) (λ q. p (q ∙ e j k)) t;
    }

-- ---- from centres to groups

module _ {joined : ℕ → ℕ → Bool} {n : ℕ} (graph : Graph joined n) {centre : ℕ → ℕ} (S : Stars joined n centre) where
  -- a chain leads to numbers of the same centre
  chain_centre : {i j : ℕ} → i < n → Chain joined i j → (j < n) × (centre i ≡ centre j)
  chain_centre h start = (h, refl)
  chain_centre h (link {j} {k} c t) =
      let (l, e) = chain_centre h c in
      let o = graph.within j k t in
      (o, e ∙ S.together j k l o t)

  member_centre : {i j : ℕ} → i < n → Member j (group_of joined n i) → (j < n) × (centre i ≡ centre j)
  member_centre h m = chain_centre h (member_chain graph h m)

  -- the centre of i is one of its group
  pub star_centre : {i : ℕ} → i < n → IsCentre joined (group_of joined n i) (centre i)
  star_centre {i} h =
      record {
        member = chain_member graph h (way (ℕ_discrete i (centre i)));
        joins = λ j m d. let (l, e) = member_centre h m in ap (λ c. joined c j) e ∙ S.leaf j l (λ q. d (q ∙ sym e));
        leaves = λ j k m o d f. let (l, e) = member_centre h m in
            let (p, q) = member_centre h o in
            is_false (joined j k) (S.apart j k l p (λ z. d (z ∙ sym e)) (λ z. f (z ∙ sym q)));
      }
    where
      way : Dec (i ≡ centre i) → Chain joined i (centre i)
      way (yes e) = subst (Chain joined i) e start
      way (no d) = link start (graph.both_ways i (centre i) ∙ S.leaf i h d)

  -- so every group is a star
  pub stars_all : all_stars joined n ≡ true
  stars_all = centre_stars (λ i h. (centre i, star_centre h))

  -- and where no lower number is a centre of the group, it is the centre
  pub centre_is : {i : ℕ} → i < n → ((d : ℕ) → d < centre i → IsCentre joined (group_of joined n i) d → ⊥) → centre_of joined n i ≡ centre i
  unfolding centre_of
  centre_is {i} h low =
      let (rest, e) = first_centres joined (group_of joined n i) (group_rises joined n i) (centre i) (star_centre h) low in
      ap (λ l. get_or l 0 0) e
