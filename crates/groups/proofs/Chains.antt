-- The group of i is exactly what chains from i lead to, and rises.
--
-- In each round the list grows by at least one number or holds all that is joined to it. There are n numbers, so after n rounds it holds all.
use mathlib.Core.Path.{◌≡◌, refl, sym, ◌∙◌, subst}
use mathlib.Core.Logic.{◌⊎◌, inl, inr}
use mathlib.Core.List.Memᴰ
use mathlib.Core.List.Memᴰ.{head as here}
use mathlib.Core.List.{List, Memᴰ as Member}
use mathlib.Core.Bool.{Bool, true, false, not, cond, ◌||◌, true≢false}
use Prim.Native.Nat.{ℕ, zero, suc, ◌≤◌, ◌<◌}
use native.Mathlib.Omega.{arith}
use lib.Dec.{eqb}
use borrow.Author.Tests.{eqb-true, eq-eqb}
use Rattle.network.specs.Lists.{any, every, count}
use Rattle.network.specs.Graph.{below}
use Rattle.network.proofs.Tests.{or_split, or_join}
use Rattle.network.proofs.Sums.{sum_zero, sum_less, count_le}
use Rattle.network.proofs.Lists.{any_true, true_any, every_true, every_fails, selected_member, member_selected}
use Rattle.network.proofs.Leaves.{below_member, member_below}
use Rattle.groups.specs.Chains.{Chain, start, link}
use Rattle.groups.specs.Groups.{reached, grown, spread, group_of}
use Rattle.groups.specs.Graph.{Graph}

-- ---- chains

-- one chain after another
pub chain_on : {joined : ℕ → ℕ → Bool} {i j k : ℕ} → Chain joined i j → Chain joined j k → Chain joined i k
chain_on c start = c
chain_on c (link d h) = link (chain_on c d) h

-- a chain turned round
pub chain_back : {joined : ℕ → ℕ → Bool} {i j : ℕ} → ((a b : ℕ) → joined a b ≡ joined b a) → Chain joined i j → Chain joined j i
chain_back s start = start
chain_back s (link {j} {k} c h) = chain_on (link start (s k j ∙ h)) (chain_back s c)

-- ---- one round

module _ (joined : ℕ → ℕ → Bool) where
  -- what is reached is in the list, or joined to one of it, and back
  reached_true : (l : List ℕ) (j : ℕ) → reached joined l j ≡ true → (m : ℕ) × Member m l × ((m ≡ j) ⊎ (joined m j ≡ true))
  unfolding reached
  reached_true l j h =
      let (m, k, t) = any_true (λ m. eqb m j || joined m j) l h in
      (m, k, go m (or_split (eqb m j) (joined m j) t))
    where
      go : (m : ℕ) → (eqb m j ≡ true) ⊎ (joined m j ≡ true) → (m ≡ j) ⊎ (joined m j ≡ true)
      go m (inl e) = inl (eqb-true m j e)
      go m (inr t) = inr t

  true_reached : (l : List ℕ) (m j : ℕ) → Member m l → (m ≡ j) ⊎ (joined m j ≡ true) → reached joined l j ≡ true
  unfolding reached
  true_reached l m j k h = true_any (λ m. eqb m j || joined m j) k (or_join (eqb m j) (joined m j) (go h))
    where
      go : (m ≡ j) ⊎ (joined m j ≡ true) → (eqb m j ≡ true) ⊎ (joined m j ≡ true)
      go (inl e) = inl (eq-eqb m j e)
      go (inr t) = inr t

-- ---- rounds

-- j is in the list
pub holds : List ℕ → ℕ → Bool
holds l j = any (λ m. eqb m j) l

pub holds_true : (l : List ℕ) (j : ℕ) → holds l j ≡ true → Member j l
unfolding holds
holds_true l j h =
    let (m, k, t) = any_true (λ m. eqb m j) l h in
    subst (λ i. Member i l) (eqb-true m j t) k

pub true_holds : (l : List ℕ) (j : ℕ) → Member j l → holds l j ≡ true
unfolding holds
true_holds l j m = true_any (λ m. eqb m j) m (eq-eqb j j refl)

module _ (joined : ℕ → ℕ → Bool) (n : ℕ) where
  -- a member of the grown list is in the list or joined to one of it, and back
  grown_member : (l : List ℕ) (j : ℕ) → Member j (grown joined n l) → (j < n) × (reached joined l j ≡ true)
  unfolding grown
  grown_member l j m = let (k, t) = selected_member (reached joined l) (below n) m in (below_member n j k, t)

  member_grown : (l : List ℕ) (j : ℕ) → j < n → reached joined l j ≡ true → Member j (grown joined n l)
  unfolding grown
  member_grown l j h t = member_selected (reached joined l) (below n) (member_below n j h) t

  module _ (i : ℕ) where
    -- every member ends a chain
    spread_chain : (k j : ℕ) → Member j (spread joined n i k) → Chain joined i j
    unfolding spread
    spread_chain zero j m = subst (Chain joined i) (sym (Memᴰ.eq_of_singleton m)) start
    spread_chain (suc k) j m =
        let (h, t) = grown_member (spread joined n i k) j m in
        let (a, o, s) = reached_true joined (spread joined n i k) j t in
        go a (spread_chain k a o) s
      where
        go : (a : ℕ) → Chain joined i a → (a ≡ j) ⊎ (joined a j ≡ true) → Chain joined i j
        go a c (inl e) = subst (Chain joined i) e c
        go a c (inr s) = link c s

    module _ (listed : i < n) where
      spread_below : (k j : ℕ) → Member j (spread joined n i k) → j < n
      unfolding spread
      spread_below zero j m = omega (arith, Memᴰ.eq_of_singleton m)
      spread_below (suc k) j m = (grown_member (spread joined n i k) j m).0

      member_spread : (k j : ℕ) → j < n → reached joined (spread joined n i k) j ≡ true → Member j (spread joined n i (suc k))
      unfolding spread
      member_spread k j h t = member_grown (spread joined n i k) j h t

      -- what is in stays in
      spread_keeps : (k j : ℕ) → Member j (spread joined n i k) → Member j (spread joined n i (suc k))
      spread_keeps k j m = member_spread k j (spread_below k j m) (true_reached joined (spread joined n i k) j j m (inl refl))

      spread_start : (k : ℕ) → Member i (spread joined n i k)
      unfolding spread
      spread_start zero = here refl
      spread_start (suc k) = spread_keeps k i (spread_start k)

      -- all that is joined to one of the list is in it
      Closed : List ℕ → Type 0
      Closed l = (m j : ℕ) → j < n → Member m l → joined m j ≡ true → Member j l

      -- how many numbers the list holds
      size : List ℕ → ℕ
      size l = count (holds l) (below n)

      still : (k : ℕ) → Closed (spread joined n i k) → Closed (spread joined n i (suc k))
      unfolding Closed spread
      still k c m j h o t =
          let (h', t') = grown_member (spread joined n i k) m o in
          let (a, p, s) = reached_true joined (spread joined n i k) m t' in
          spread_keeps k j (c m j h (go a p s) t)
        where
          go : (a : ℕ) → Member a (spread joined n i k) → (a ≡ m) ⊎ (joined a m ≡ true) → Member m (spread joined n i k)
          go a p (inl e) = subst (λ b. Member b (spread joined n i k)) e p
          go a p (inr s) = c a m (spread_below (suc k) m o) p s

      -- a round either adds nothing, or a number
      more : (k : ℕ) → Closed (spread joined n i k) ⊎ (size (spread joined n i k) < size (spread joined n i (suc k)))
      unfolding Closed size
      more k = go (every test (below n)) refl
        where
          l : List ℕ
          l = spread joined n i k

          test : ℕ → Bool
          test j = not (reached joined l j) || holds l j

          passed : (j : ℕ) → test j ≡ true → reached joined l j ≡ true → holds l j ≡ true
          passed j t r = rw r at t

          failed : (a b : Bool) → not a || b ≡ false → (a ≡ true) × (b ≡ false)
          failed true b e = (refl, e)
          failed false b e = absurd (true≢false e)

          le : (a b : Bool) → (a ≡ true → b ≡ true) → cond {A = ℕ} a 1 0 ≤ cond b 1 0
          le true b h = rw (h refl) (omega arith)
          le false true h = omega arith
          le false false h = omega arith

          go : (b : Bool) → every test (below n) ≡ b → Closed l ⊎ (size l < size (spread joined n i (suc k)))
          go true e = inl (λ m j h o t. holds_true l j (passed j (every_true test e (member_below n j h)) (true_reached joined l m j o (inr t))))
          go false e =
              let (j, m, f) = every_fails test (below n) e in
              let (r, o) = failed (reached joined l j) (holds l j) f in
              let new = true_holds (spread joined n i (suc k)) j (member_spread k j (below_member n j m) r) in
              inr (sum_less (λ a. cond (holds l a) 1 0) (λ a. cond (holds (spread joined n i (suc k)) a) 1 0)
              (λ a p. le (holds l a) (holds (spread joined n i (suc k)) a) (λ q. true_holds (spread joined n i (suc k)) a (spread_keeps k a (holds_true l a q))))
              m (rw (o, new) (omega arith)))

      -- after k rounds the list holds all that is joined to it, or more than k numbers
      many : (k : ℕ) → Closed (spread joined n i k) ⊎ (k < size (spread joined n i k))
      unfolding size
      many zero =
          let h = sum_less (λ a. 0) (λ a. cond (holds (spread joined n i 0) a) 1 0) (λ a m. omega arith) (member_below n i listed)
          (rw (true_holds (spread joined n i 0) i (spread_start 0)) (omega arith)) in
          inr (omega (arith, h, sum_zero (below n)))
      many (suc k) = go (many k) (more k)
        where
          go : Closed (spread joined n i k) ⊎ (k < size (spread joined n i k)) → Closed (spread joined n i k) ⊎ (size (spread joined n i k) < size (spread joined n i (suc k)))
              → Closed (spread joined n i (suc k)) ⊎ (suc k < size (spread joined n i (suc k)))
          go (inl c) s = inl (still k c)
          go (inr h) (inl c) = inl (still k c)
          go (inr h) (inr s) = inr (omega arith)

      closed : Closed (spread joined n i n)
      unfolding size
      closed = go (many n)
        where
          go : Closed (spread joined n i n) ⊎ (n < size (spread joined n i n)) → Closed (spread joined n i n)
          go (inl c) = c
          go (inr h) = absurd (omega (arith, count_le (holds (spread joined n i n)) n))

-- ---- the group

module _ {joined : ℕ → ℕ → Bool} {n : ℕ} (graph : Graph joined n) {i : ℕ} (listed : i < n) where
  -- LAW: j is in the group of i exactly if a chain joins them
  pub member_chain : {j : ℕ} → Member j (group_of joined n i) → Chain joined i j
  unfolding group_of
  member_chain {j} m = spread_chain joined n i _ j m

  pub chain_member : {j : ℕ} → Chain joined i j → Member j (group_of joined n i)
  unfolding group_of Closed
  chain_member start = spread_start joined n i listed _
  chain_member (link {j} {k} c t) = closed joined n i listed j k (graph.within j k t) (chain_member c) t

  -- and all of it are below n
  pub group_below : {j : ℕ} → Member j (group_of joined n i) → j < n
  unfolding group_of
  group_below {j} m = spread_below joined n i listed _ j m
