-- A set with one member names an owner. Then words are compared instead of leaves, one AND tells a cross owner, and the rule of an edge is the
-- rule of `sharing`.
use mathlib.Core.Path.{◌≡◌, refl, sym, ap, ap₂, ◌∙◌}
use mathlib.Core.Bool.{Bool, true, false, cond, not, ◌&&◌, true≢false}
use Prim.Native.Nat.{ℕ, suc, ◌^◌, ◌<◌, max}
use native.Mathlib.Omega.{arith}
use native.Mathlib.Nat.{lt_of_le_of_lt}
use native.Mathlib.Decide.{ℕ_discrete}
use lib.Bits.{bit_and, and_zero_l, and_le_l}
use lib.Dec.{eqb, ltb}
use lib.ListN.{get_or}
use lib.Pow.{pow_pos, pow-lt}
use borrow.Author.Tests.{eqb-true, eq-eqb, ne_eqb, lt-ltb}
use Rattle.sharing.specs.Instance.{Owner, none, same, cross}
use Rattle.sharing.specs.Table.{Flag, best, run, zero_if, unless, only, plus, best_of, run_word}
use Rattle.sharing.specs.Trace.{with, settle, share_of}
use Rattle.intersection.specs.Sets.{has, members}
use Rattle.intersection.proofs.Digits.{has_and, has_power, none_has, same_set}
use Rattle.intersection.proofs.Lists.{select_first}
use Rattle.table.specs.declared.fill.Edge.{Edge}
use Rattle.table.specs.declared.trace.Taken.{Taken}
use Rattle.table.specs.Rule.{pair, unless_own, if_own, all_of, stretch_of, rule_of}
use Rattle.table.specs.Walk.{is_cross, share_if, share_no}
use Rattle.table.proofs.Rule.{rule_free, rule_same, rule_cross}

-- the set o names the owner w, where the leaves in c slope the other way
pub data Names (c : ℕ) : ℕ → Owner → Type 0 where
  nobody : Names c 0 none
  alike : {k : ℕ} → k < 32 → has c k ≡ false → Names c (2 ^ k) (same k)
  unlike : {k : ℕ} → k < 32 → has c k ≡ true → Names c (2 ^ k) (cross k)

-- a flag as the code keeps it
abbrev pub is_run : Flag → Bool
is_run best = false
is_run run = true

-- ---- sets of one member

-- its member is in it
power_has : (k : ℕ) → has (2 ^ k) k ≡ true
power_has k = has_power k k ∙ eq-eqb k k refl

-- so it is not empty
power_some : (k : ℕ) → 2 ^ k ≡ 0 → ⊥
power_some k e = omega (arith, pow_pos k)

-- two powers are equal where their exponents are
power_same : (j k : ℕ) → eqb (2 ^ j) (2 ^ k) ≡ eqb j k
power_same j k = go (ℕ_discrete j k)
  where
    go : Dec (j ≡ k) → eqb (2 ^ j) (2 ^ k) ≡ eqb j k
    go (yes e) = eq-eqb (2 ^ j) (2 ^ k) (ap (λ n. 2 ^ n) e) ∙ sym (eq-eqb j k e)
    go (no n) =
        ne_eqb (2 ^ j) (2 ^ k) (λ e. n (eqb-true j k (sym (has_power k j) ∙ ap (λ m. has m j) (sym e) ∙ power_has j)))
        ∙ sym (ne_eqb j k n)

-- an AND with a set of one member tells if it is in the other set
and_out : (k c : ℕ) → has c k ≡ false → bit_and (2 ^ k) c ≡ 0
and_out k c h =
    same_set (suc k) (bit_and (2 ^ k) c) 0 (lt_of_le_of_lt (and_le_l (2 ^ k) c) (pow-lt (omega arith))) (pow_pos (suc k)) (λ j l. out j ∙ sym (none_has j))
  where
    go : (j : ℕ) (b : Bool) → eqb j k ≡ b → (b && has c j) ≡ false
    go j true e = ap (has c) (eqb-true j k e) ∙ h
    go j false e = refl

    out : (j : ℕ) → has (bit_and (2 ^ k) c) j ≡ false
    out j = has_and (2 ^ k) c j ∙ ap (λ b. b && has c j) (has_power k j) ∙ go j (eqb j k) refl

-- it is
and_in : (k c : ℕ) → has c k ≡ true → bit_and (2 ^ k) c ≡ 0 → ⊥
and_in k c h e = true≢false (sym (has_and (2 ^ k) c k ∙ ap₂ ◌&&◌ (power_has k) h) ∙ ap (λ m. has m k) e ∙ none_has k)

-- the lowest member of a set of one member
power_lowest : (k : ℕ) → k < 32 → get_or (members (2 ^ k)) 0 32 ≡ k
unfolding members
power_lowest k h =
    let s = select_first (has (2 ^ k)) 32 k h (power_has k) (λ j l. has_power k j ∙ ne_eqb j k (λ e. omega arith)) in
    ap (λ l. get_or l 0 32) s.1

-- the empty set answers 32
zero_lowest : get_or (members 0) 0 32 ≡ 32
unfolding members
zero_lowest = refl

-- ---- words for owners

-- comparing two sets compares the owners, where the second one is a cross leaf
same_own : (c a o : ℕ) (w : Owner) (k : ℕ) → Names c a w → Names c o (cross k) → (n : ℕ)
    → (unless w k n ≡ zero_if (eqb a o) n) × (only w k n ≡ zero_if (not (eqb a o)) n)
unfolding unless only
same_own c a o w k nobody (unlike {k = j} h e) n = let z = ne_eqb 0 (2 ^ j) (λ q. power_some j (sym q)) in (rw z, rw z)
same_own c a o w k (alike {k = i} h e) (unlike {k = j} h' e') n =
    let z = power_same i j ∙ ne_eqb i j (λ q. true≢false (sym e' ∙ ap (has c) (sym q) ∙ e)) in
    (rw z, rw z)
same_own c a o w k (unlike {k = i} h e) (unlike {k = j} h' e') n = (rw (power_same i j), rw (power_same i j))

-- two ways to leave a word out
zero_cond : (b : Bool) (n : ℕ) → (cond b 0 n ≡ zero_if b n) × (cond b n 0 ≡ zero_if (not b) n)
zero_cond true n = (refl, refl)
zero_cond false n = (refl, refl)

module _ (c : ℕ) (e : Edge) (w : Owner) (e-is : Names c e.own w) (o k : ℕ) (o_is : Names c o (cross k)) where
  -- the word that counts where k is left out
  pub unless_named : unless_own e o ≡ unless w k e.best
  unfolding unless_own
  unless_named = (zero_cond (eqb e.own o) e.best).0 ∙ sym (same_own c e.own o w k e-is o_is e.best).0

  -- and the word that counts for k alone
  pub if_named : if_own e o ≡ only w k e.run
  unfolding if_own
  if_named = (zero_cond (eqb e.own o) e.run).1 ∙ sym (same_own c e.own o w k e-is o_is e.run).1

-- the rule of an edge is that of its owner
module _ (c : ℕ) (along across : Edge) (x y : Owner) (along_is : Names c along.own x) (across_is : Names c across.own y) (start len : ℕ) where
  -- which words it reads is settled by the names of the edges before it
  pub named_rule : (o : ℕ) (w : Owner) → Names c o w → rule_of along across start o len c
      ≡ pair (best_of w (all_of along across start) (rule_of along across start o len c).run len)
      (run_word w (λ k. max (max (unless x k along.best) (unless y k across.best)) start) (λ k. only x k along.run) len)
  named_rule o w nobody = let r = rule_free along across start 0 len c refl in r
  named_rule o w (alike {k} h e) = rule_same along across start (2 ^ k) len c (power_some k) (and_out k c e)
  named_rule o w (unlike {k} h e) =
      let r = rule_cross along across start (2 ^ k) len c (power_some k) (and_in k c e) in
      let s : stretch_of along across start (2 ^ k) len
      ≡ max (plus (max (max (unless x k along.best) (unless y k across.best)) start) len) (plus (only x k along.run) len)
      = rw (
        unless_named c along x along_is (2 ^ k) k (unlike h e),
        unless_named c across y across_is (2 ^ k) k (unlike h e),
        if_named c along x along_is (2 ^ k) k (unlike h e),
      ) in
      r ∙ ap₂ pair (ap (λ p. max (all_of along across start) p.run) (sym r)) s

-- a cross owner is told by one AND
pub cross_named : (c : ℕ) (e : Edge) (w : Owner) → Names c e.own w → (b : Bool) → (is_cross e c && b ≡ is_run (settle w b))
cross_named c e w n b = go e.own w n
  where
    go : (o : ℕ) (w : Owner) → Names c o w → (not (eqb (bit_and o c) 0) && b) ≡ is_run (settle w b)
    go o w nobody = ap (λ m. not (eqb m 0) && b) (and_zero_l c)
    go o w (alike {k} h e) = rw (eq-eqb (bit_and (2 ^ k) c) 0 (and_out k c e))
    go o w (unlike {k} h e) = rw (ne_eqb (bit_and (2 ^ k) c) 0 (and_in k c e)) (run_if_lem b)
      where
        run_if_lem : (b : Bool) → b ≡ is_run (settle (cross k) b)
        run_if_lem true = refl
        run_if_lem false = refl

-- the leaf that an edge is shared with
pub share_named : (c : ℕ) (t : Taken) (w : Owner) (f : Flag) → Names c t.edge.own w → t.run ≡ is_run f
    → share_if (ltb (share_no t c) 32) (share_no t c) ≡ share_of w f
unfolding share_no
share_named c t w f n r = rw r (go t.edge.own w f n)
  where
    number : ℕ → Flag → ℕ
    number o f = cond (not (eqb (bit_and o c) 0) && not (is_run f)) 32 (get_or (members o) 0 32)

    of : (n : ℕ) → n < 32 → share_if (ltb n 32) n ≡ with n
    of n h = rw (lt-ltb n 32 h)

    go : (o : ℕ) (w : Owner) (f : Flag) → Names c o w → share_if (ltb (number o f) 32) (number o f) ≡ share_of w f
    go o w f nobody = ap (λ m. share_if (ltb m 32) m) (ap₂ (λ b m. cond (not (eqb b 0) && not (is_run f)) 32 m) (and_zero_l c) zero_lowest)
    go o w f (alike {k} h e) =
        ap (λ m. share_if (ltb m 32) m) (ap₂ (λ b m. cond (not b && not (is_run f)) 32 m) (eq-eqb (bit_and (2 ^ k) c) 0 (and_out k c e)) (power_lowest k h)) ∙ of k h
    go o w best (unlike {k} h e) =
        ap (λ m. share_if (ltb m 32) m) (ap₂ (λ b m. cond (not b && true) 32 m) (ne_eqb (bit_and (2 ^ k) c) 0 (and_in k c e)) (power_lowest k h))
    go o w run (unlike {k} h e) =
        ap (λ m. share_if (ltb m 32) m) (ap₂ (λ b m. cond (not b && false) 32 m) (ne_eqb (bit_and (2 ^ k) c) 0 (and_in k c e)) (power_lowest k h)) ∙ of k h
