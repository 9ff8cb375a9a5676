-- Sets as the lists of their members: how many there are, the lowest, a part of another set, and the set of a test.
use mathlib.Core.Path.{◌≡◌, refl, sym, ap, ap₂, ◌∙◌}
use mathlib.Core.Bool.{Bool, true, false, not, cond, ◌&&◌, ◌||◌, true≢false}
use mathlib.Core.Logic.{◌⊎◌, inl, inr}
use mathlib.Core.List.{List, [], ◌∷◌}
use Prim.Native.Nat.{ℕ, zero, suc, ◌+◌, ◌^◌, ◌≤◌, ◌<◌, zero-le}
use native.Mathlib.Nat.{add_comm, zero-add, one-mul, eq-or-lt_of_le, lt_of_lt_of_le, lt_of_le_of_lt}
use native.Mathlib.Omega.{arith}
use lib.Dec.{eqb}
use lib.ListN.{get_or}
use lib.Pow.{pow_pos, pow_mono}
use lib.Bits.{bit_and, and_le_l}
use lib.Count.{ones, ones_cat, count_trailing_zeros, trailing_le}
use borrow.Author.Tests.{eq-eqb, ne_eqb, eqb-true}
use Rattle.network.specs.Lists.{every, count, select}
use Rattle.network.specs.Graph.{below}
use Rattle.network.proofs.Numbers.{order}
use Rattle.network.proofs.Tests.{same_test}
use Rattle.network.proofs.Lists.{every_true, true_every}
use Rattle.network.proofs.Leaves.{below_member, member_below}
use Rattle.network.proofs.Sums.{count_below}
use Rattle.intersection.specs.Sets.{has, members, pack}
use Rattle.intersection.proofs.Digits.{none_has, has_and, pack_lt, pack_has, has_pack, has_pack_above, same_set, trailing_below, trailing_at}
use Rattle.intersection.proofs.Lists.{every_select, select_none, select_first}

-- ---- how many

-- one digit more
cond_ones : (b : Bool) (n r : ℕ) → r < 2 ^ n → ones (cond b (2 ^ n) 0 + r) ≡ ones r + cond b 1 0
unfolding ones
cond_ones true n r h = ap (λ (m : ℕ). ones (m + r)) (sym (one-mul (2 ^ n))) ∙ ones_cat n 1 r h ∙ add_comm 1 (ones r)
cond_ones false n r h = ap ones (zero-add r) ∙ omega arith

-- the ones of the set of a test
ones_pack : (f : ℕ → Bool) (n : ℕ) → ones (pack f n) ≡ count f (below n)
unfolding pack ones
ones_pack f zero = refl
ones_pack f (suc n) = cond_ones (f n) n (pack f n) (pack_lt f n) ∙ ap (λ (m : ℕ). m + cond (f n) 1 0) (ones_pack f n) ∙ sym (count_below f n)

-- the ones of a word are its members
pub ones_count : (s : ℕ) → s < 2 ^ 32 → ones s ≡ count (has s) (below 32)
ones_count s h = ap ones (sym (pack_has s 32 h)) ∙ ones_pack (has s) 32

-- the set of the numbers below n that pass has as many members as pass
pub count_pack : (f : ℕ → Bool) (n : ℕ) → n ≤ 32 → count (has (pack f n)) (below 32) ≡ count f (below n)
count_pack f n h = sym (ones_count (pack f n) (lt_of_lt_of_le (pack_lt f n) (pow_mono h))) ∙ ones_pack f n

-- ---- the members of the set of a test

-- ---- the lowest

module _ (s : ℕ) (h : s < 2 ^ 32) where
  -- no member, and the word is 0
  lowest_none : count_trailing_zeros 32 s ≡ 32 → (s ≡ 0) × (members s ≡ [])
  unfolding members
  lowest_none e = (
    same_set 32 s 0 h (pow_pos 32) (λ j l. none j l ∙ sym (none_has j)),
    select_none (has s) (below 32) (λ j m. none j (below_member 32 j m)),
  )
    where
      none : (j : ℕ) → j < 32 → has s j ≡ false
      none j l = trailing_below 32 s j (omega arith)

  -- or a first member, and the word is not 0
  lowest_some : count_trailing_zeros 32 s < 32 → (0 < s) × ((rest : List ℕ) × (members s ≡ count_trailing_zeros 32 s ∷ rest))
  unfolding members
  lowest_some l = (positive (eq-or-lt_of_le (zero-le {n = s})), select_first (has s) 32 (count_trailing_zeros 32 s) l (trailing_at 32 s l) (trailing_below 32 s))
    where
      positive : (0 ≡ s) ⊎ (0 < s) → 0 < s
      positive (inl e) = absurd (true≢false (sym (trailing_at 32 s l) ∙ ap (λ (m : ℕ). has m (count_trailing_zeros 32 s)) (sym e) ∙ none_has (count_trailing_zeros 32 s)))
      positive (inr k) = k

  -- the trailing zeros count up to the first member
  pub lowest_is : count_trailing_zeros 32 s ≡ get_or (members s) 0 32
  lowest_is = go (eq-or-lt_of_le (trailing_le 32 s))
    where
      go : (count_trailing_zeros 32 s ≡ 32) ⊎ (count_trailing_zeros 32 s < 32) → count_trailing_zeros 32 s ≡ get_or (members s) 0 32
      go (inl e) = e ∙ sym (ap (λ (l : List ℕ). get_or l 0 32) (lowest_none e).1)
      go (inr l) = sym (ap (λ (l : List ℕ). get_or l 0 32) (lowest_some l).1.1)

-- ---- a part of another set

-- a part, digit by digit, and back
implied : (a b : Bool) → a && b ≡ a → not a || b ≡ true
implied true b e = e
implied false b e = refl

-- a test that implies another adds nothing to it
implies : (a b : Bool) → not a || b ≡ true → a && b ≡ a
implies true b e = e
implies false b e = refl

-- the code's comparison of a & b with a
pub subset_is : (a b : ℕ) → a < 2 ^ 32 → eqb (bit_and a b) a ≡ every (has b) (members a)
unfolding members
subset_is a b h = same_test (eqb (bit_and a b) a) (every (has b) (members a)) there back
  where
    rule : every (has b) (select (has a) (below 32)) ≡ every (λ j. not (has a j) || has b j) (below 32)
    rule = every_select (has b) (has a) (below 32)

    there : eqb (bit_and a b) a ≡ true → every (has b) (select (has a) (below 32)) ≡ true
    there e =
        let q = eqb-true (bit_and a b) a e in
        rule ∙ true_every (λ j. not (has a j) || has b j) (below 32) (λ j m. implied (has a j) (has b j) (sym (has_and a b j) ∙ ap (λ (m : ℕ). has m j) q))

    back : every (has b) (select (has a) (below 32)) ≡ true → eqb (bit_and a b) a ≡ true
    back e =
        eq-eqb (bit_and a b) a
        (same_set 32 (bit_and a b) a (lt_of_le_of_lt (and_le_l a b) h) h
        (λ j l. has_and a b j ∙ implies (has a j) (has b j) (every_true (λ j. not (has a j) || has b j) (sym rule ∙ e) (member_below 32 j l))))

-- ---- one member more

-- the next number passes: it is added
pub pack_add : (f : ℕ → Bool) (i s r : ℕ) → i < 32 → r < 2 ^ 32 → f i ≡ true → s ≡ pack f i → ((j : ℕ) → has r j ≡ (eqb j i || has s j)) → r ≡ pack f (suc i)
pack_add f i s r h k t e p =
    same_set 32 r (pack f (suc i)) k (lt_of_lt_of_le (pack_lt f (suc i)) (pow_mono h)) (λ j l. p j ∙ ap (λ (m : ℕ). eqb j i || has m j) e ∙ go j (order j i))
  where
    upto : (j : ℕ) → (j ≡ i) ⊎ (j < i) → (eqb j i || has (pack f i) j) ≡ has (pack f (suc i)) j
    upto j (inl q) = ap (λ (b : Bool). b || has (pack f i) j) (eq-eqb j i q) ∙ sym (has_pack f (suc i) j (omega arith) ∙ ap f q ∙ t)
    upto j (inr l) = ap₂ ◌||◌ (ne_eqb j i (omega arith)) (has_pack f i j l) ∙ sym (has_pack f (suc i) j (omega arith))

    go : (j : ℕ) → (j ≤ i) ⊎ (i < j) → (eqb j i || has (pack f i) j) ≡ has (pack f (suc i)) j
    go j (inl l) = upto j (eq-or-lt_of_le l)
    go j (inr l) = ap₂ ◌||◌ (ne_eqb j i (omega arith)) (has_pack_above f i j (omega arith)) ∙ sym (has_pack_above f (suc i) j l)

-- the next number fails
pub pack_skip : (f : ℕ → Bool) (i : ℕ) → f i ≡ false → pack f (suc i) ≡ pack f i
unfolding pack
pack_skip f i e = ap (λ (b : Bool). cond b (2 ^ i) 0 + pack f i) e ∙ zero-add (pack f i)
