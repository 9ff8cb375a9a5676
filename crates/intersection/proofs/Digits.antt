-- The members of a set are its digits: of `|`, of `&`, of 2 ^ i, and of the set of the numbers that pass a test.
use mathlib.Core.Path.{◌≡◌, refl, sym, ap, ap₂, ◌∙◌, subst}
use mathlib.Core.Bool.{Bool, true, false, not, cond, ◌&&◌, ◌||◌, or_comm, and-true, and-false, true≢false}
use mathlib.Core.Logic.{◌⊎◌, inl, inr}
use Prim.Native.Nat.{ℕ, zero, suc, ◌+◌, ◌-◌, ◌*◌, ◌/◌, ◌%◌, ◌^◌, ◌≤◌, ◌<◌, min, max, zero-le}
use native.Mathlib.Nat.{
  mod-lt,
  mod-one,
  mod_self,
  mod-eq_of_lt,
  div_self,
  div-one,
  div-eq_of_lt,
  eq-or-lt_of_le,
  le_of_suc-le-suc,
  not-suc-le-zero,
  zero-add,
  zero-mul,
  one-mul,
  le_refl,
  lt_of_lt_of_le,
  lt_of_le_of_lt,
  zero-lt-suc,
  pow-suc,
}
use native.Mathlib.Numerals.{one-add}
use native.Mathlib.Decide.{dec_le}
use native.Mathlib.Omega.{arith}
use lib.Dec.{eqb, lit<}
use lib.Arith.{digits_mod}
use lib.Pow.{pow_pos, pow-lt, pow_mono, field, mod-mod-pow, low, high, mod-pow-add, shr-shr}
use lib.Bits.{bit_and, bit_or, and_step, or_step, and_shr, or_shr, and_le_l}
use lib.Count.{count_trailing_zeros, under}
use borrow.Author.Tests.{eq-eqb, ne_eqb, eqb-true}
use Rattle.intersection.specs.Sets.{has, pack}

-- ---- the digits of a number

-- a digit is 1 or 0
digit_is : (d : ℕ) → d < 2 → d ≡ cond (eqb d 1) 1 0
digit_is zero h = refl
digit_is (suc zero) h = refl
digit_is (suc (suc d)) h = absurd (not-suc-le-zero (le_of_suc-le-suc (le_of_suc-le-suc h)))

-- a digit is below 2
digit_lt : (s j : ℕ) → s / 2 ^ j % 2 < 2
digit_lt s j = mod-lt (s / 2 ^ j) (zero-lt-suc 1)

-- a digit below n is a digit of the number's n low digits
pub low_has : (s n j : ℕ) → j < n → has (s % 2 ^ n) j ≡ has s j
low_has s n j h =
    let e : (n - (1 + j)) + (1 + j) ≡ n = omega arith in
    ap (λ (d : ℕ). eqb d 1)
    (sym (field (s % 2 ^ n) 1 j)
    ∙ ap (λ (m : ℕ). s % 2 ^ m % 2 ^ (1 + j) / 2 ^ j) (sym e)
    ∙ ap (λ (m : ℕ). m / 2 ^ j) (mod-mod-pow s (n - (1 + j)) (1 + j))
    ∙ field s 1 j)

-- no digit stands at or above a number's length
pub high_has : (s n j : ℕ) → s < 2 ^ n → n ≤ j → has s j ≡ false
high_has s n j h l = ap (λ (q : ℕ). eqb (q % 2) 1) (div-eq_of_lt (lt_of_lt_of_le h (pow_mono l)))

-- the empty set has no member
pub none_has : (j : ℕ) → has 0 j ≡ false
none_has j = high_has 0 0 j (lit< tt) zero-le

-- 2 ^ n and what is below it
top_has : (n r : ℕ) → r < 2 ^ n → has (2 ^ n + r) n ≡ true
top_has n r h =
    ap (λ (m : ℕ). eqb ((m + r) / 2 ^ n % 2) 1) (sym (one-mul (2 ^ n))) ∙ ap (λ (q : ℕ). eqb (q % 2) 1) (high 1 n h)

-- a digit below the top one
under_has : (n r j : ℕ) → r < 2 ^ n → j < n → has (2 ^ n + r) j ≡ has r j
under_has n r j h l =
    sym (low_has (2 ^ n + r) n j l)
    ∙ ap (λ (m : ℕ). has m j) (ap (λ (m : ℕ). (m + r) % 2 ^ n) (sym (one-mul (2 ^ n))) ∙ low 1 n h)

-- the digit behind the first
pub half_has : (s j : ℕ) → has (s / 2) j ≡ has s (suc j)
half_has s j = ap (λ (q : ℕ). eqb (q % 2) 1) (shr-shr s 1 j ∙ ap (λ (m : ℕ). s / 2 ^ m) (one-add j))

-- ---- `|`, `&` and `1 << i`

-- the greater of two digits is 1 where one of them is
or_one : (a b : Bool) → eqb (max (cond a 1 0) (cond b 1 0)) 1 ≡ (a || b)
or_one true true = refl
or_one true false = refl
or_one false true = refl
or_one false false = refl

-- and the lesser where both are
and_one : (a b : Bool) → eqb (min (cond a 1 0) (cond b 1 0)) 1 ≡ (a && b)
and_one true true = refl
and_one true false = refl
and_one false true = refl
and_one false false = refl

-- the lowest digit of a union
or_low : (a b : ℕ) → bit_or a b % 2 ≡ max (a % 2) (b % 2)
or_low a b =
    let ha = mod-lt a (zero-lt-suc 1) in
    let hb = mod-lt b (zero-lt-suc 1) in
    ap (λ (x : ℕ). x % 2) (or_step a b) ∙ digits_mod (bit_or (a / 2) (b / 2)) (omega arith)

-- of an intersection
and_low : (a b : ℕ) → bit_and a b % 2 ≡ min (a % 2) (b % 2)
and_low a b =
    let ha = mod-lt a (zero-lt-suc 1) in
    let hb = mod-lt b (zero-lt-suc 1) in
    ap (λ (x : ℕ). x % 2) (and_step a b) ∙ digits_mod (bit_and (a / 2) (b / 2)) (omega arith)

-- the members of a union
pub has_or : (a b j : ℕ) → has (bit_or a b) j ≡ (has a j || has b j)
has_or a b j =
    ap (λ (x : ℕ). eqb (x % 2) 1) (or_shr a b j) ∙ ap (λ (x : ℕ). eqb x 1) (or_low (a / 2 ^ j) (b / 2 ^ j))
    ∙ ap₂ (λ (x y : ℕ). eqb (max x y) 1) (digit_is (a / 2 ^ j % 2) (digit_lt a j)) (digit_is (b / 2 ^ j % 2) (digit_lt b j))
    ∙ or_one (has a j) (has b j)

-- the members of an intersection
pub has_and : (a b j : ℕ) → has (bit_and a b) j ≡ (has a j && has b j)
has_and a b j =
    ap (λ (x : ℕ). eqb (x % 2) 1) (and_shr a b j) ∙ ap (λ (x : ℕ). eqb x 1) (and_low (a / 2 ^ j) (b / 2 ^ j))
    ∙ ap₂ (λ (x y : ℕ). eqb (min x y) 1) (digit_is (a / 2 ^ j % 2) (digit_lt a j)) (digit_is (b / 2 ^ j % 2) (digit_lt b j))
    ∙ and_one (has a j) (has b j)

-- 2 ^ i has the member i alone
pub has_power : (i j : ℕ) → has (2 ^ i) j ≡ eqb j i
has_power i j = go (dec_le j i)
  where
    at : (j ≡ i) ⊎ (j < i) → has (2 ^ i) j ≡ eqb j i
    at (inl e) = ap (λ (k : ℕ). has (2 ^ i) k) e ∙ ap (λ (q : ℕ). eqb (q % 2) 1) (div_self (pow_pos i)) ∙ sym (eq-eqb j i e)
    at (inr l) = sym (low_has (2 ^ i) i j l) ∙ ap (λ (m : ℕ). has m j) (mod_self (2 ^ i)) ∙ none_has j ∙ sym (ne_eqb j i (omega arith))

    go : Dec (j ≤ i) → has (2 ^ i) j ≡ eqb j i
    go (yes l) = at (eq-or-lt_of_le l)
    go (no n) =
        let l : i < j = omega arith in
        high_has (2 ^ i) j j (pow-lt l) (le_refl j) ∙ sym (ne_eqb j i (omega arith))

-- the code's `1 << i`, at 32 and at 64 digits
pub shl_one : (w i : ℕ) → i < w → 1 * 2 ^ i % 2 ^ w ≡ 2 ^ i
shl_one w i h = ap (λ (m : ℕ). m % 2 ^ w) (one-mul (2 ^ i)) ∙ mod-eq_of_lt (pow-lt h)

-- the members of the code's `s | (1 << i)`
pub has_add : (s i : ℕ) → i < 32 → (j : ℕ) → has (bit_or s (1 * 2 ^ i % 2 ^ 32)) j ≡ (eqb j i || has s j)
has_add s i h j =
    ap (λ (m : ℕ). has (bit_or s m) j) (shl_one 32 i h) ∙ has_or s (2 ^ i) j ∙ or_comm (has s j) (has (2 ^ i) j)
    ∙ ap (λ (b : Bool). b || has s j) (has_power i j)

-- ---- the set of the numbers that pass

-- one digit more
cond_lt : (b : Bool) (n r : ℕ) → r < 2 ^ n → cond b (2 ^ n) 0 + r < 2 ^ suc n
cond_lt true n r h = rw pow-suc (omega arith)
cond_lt false n r h = rw pow-suc (omega arith)

-- no numbers, no members
pub pack_none : (f : ℕ → Bool) → pack f 0 ≡ 0
unfolding pack
pack_none f = refl

-- a set of numbers below n fits n digits
pub pack_lt : (f : ℕ → Bool) (n : ℕ) → pack f n < 2 ^ n
unfolding pack
pack_lt f zero = lit< tt
pack_lt f (suc n) = cond_lt (f n) n (pack f n) (pack_lt f n)

-- a digit at its place
cond_digit : (d n : ℕ) → d < 2 → cond (eqb d 1) (2 ^ n) 0 ≡ d * 2 ^ n
cond_digit zero n h = sym (zero-mul (2 ^ n))
cond_digit (suc zero) n h = sym (one-mul (2 ^ n))
cond_digit (suc (suc d)) n h = absurd (not-suc-le-zero (le_of_suc-le-suc (le_of_suc-le-suc h)))

-- a number's n low digits are the set of its members below n
pack_low : (s n : ℕ) → pack (has s) n ≡ s % 2 ^ n
unfolding pack
pack_low s zero = sym (mod-one s)
pack_low s (suc n) =
    ap₂ (λ (x y : ℕ). x + y) (cond_digit (s / 2 ^ n % 2) n (digit_lt s n)) (pack_low s n)
    ∙ sym (mod-pow-add s 1 n) ∙ ap (λ (m : ℕ). s % 2 ^ m) (one-add n)

-- a set is the set of its members
pub pack_has : (s n : ℕ) → s < 2 ^ n → pack (has s) n ≡ s
pack_has s n h = pack_low s n ∙ mod-eq_of_lt h

-- the digit that was put on top, and those under it
cond_top : (b : Bool) (n r : ℕ) → r < 2 ^ n → has (cond b (2 ^ n) 0 + r) n ≡ b
cond_top true n r h = top_has n r h
cond_top false n r h = ap (λ (m : ℕ). has m n) (zero-add r) ∙ high_has r n n h (le_refl n)

-- a digit under it
cond_under : (b : Bool) (n r j : ℕ) → r < 2 ^ n → j < n → has (cond b (2 ^ n) 0 + r) j ≡ has r j
cond_under true n r j h l = under_has n r j h l
cond_under false n r j h l = ap (λ (m : ℕ). has m j) (zero-add r)

-- the members of the set of what passes: those numbers below n
pub has_pack : (f : ℕ → Bool) (n j : ℕ) → j < n → has (pack f n) j ≡ f j
unfolding pack
has_pack f zero j h = absurd (not-suc-le-zero h)
has_pack f (suc n) j h = go (λ (l : j < n). has_pack f n j l) (eq-or-lt_of_le (le_of_suc-le-suc h))
  where
    go : (j < n → has (pack f n) j ≡ f j) → (j ≡ n) ⊎ (j < n) → has (cond (f n) (2 ^ n) 0 + pack f n) j ≡ f j
    go ih (inl e) = subst (λ (k : ℕ). has (cond (f n) (2 ^ n) 0 + pack f n) k ≡ f k) (sym e) (cond_top (f n) n (pack f n) (pack_lt f n))
    go ih (inr l) = cond_under (f n) n (pack f n) j (pack_lt f n) l ∙ ih l

-- and no others
pub has_pack_above : (f : ℕ → Bool) (n j : ℕ) → n ≤ j → has (pack f n) j ≡ false
has_pack_above f n j h = high_has (pack f n) n j (pack_lt f n) h

-- what passes below n decides the set
pub pack_same : (f g : ℕ → Bool) (n : ℕ) → ((j : ℕ) → j < n → f j ≡ g j) → pack f n ≡ pack g n
unfolding pack
pack_same f g zero h = refl
pack_same f g (suc n) h = ap₂ (λ (b : Bool) (r : ℕ). cond b (2 ^ n) 0 + r) (h n (le_refl (suc n))) (pack_same f g n (λ j l. h j (omega arith)))

-- two sets with the same members are equal
pub same_set : (n a b : ℕ) → a < 2 ^ n → b < 2 ^ n → ((j : ℕ) → j < n → has a j ≡ has b j) → a ≡ b
same_set n a b ha hb h = sym (pack_has a n ha) ∙ pack_same (has a) (has b) n h ∙ pack_has b n hb

-- ---- trailing zeros

-- the digits before them are 0
pub trailing_below : (k s j : ℕ) → j < count_trailing_zeros k s → has s j ≡ false
unfolding count_trailing_zeros
trailing_below zero s j h = absurd (not-suc-le-zero h)
trailing_below (suc k) s j h = go (λ i l. trailing_below k (s / 2) i l) (s % 2) refl j h
  where
    go : ((i : ℕ) → i < count_trailing_zeros k (s / 2) → has (s / 2) i ≡ false)
        → (d : ℕ) → s % 2 ≡ d → (i : ℕ) → i < under d (count_trailing_zeros k (s / 2)) → has s i ≡ false
    go ih zero e zero l = ap (λ (q : ℕ). eqb (q % 2) 1) (div-one s) ∙ ap (λ (d : ℕ). eqb d 1) e
    go ih zero e (suc i) l = sym (half_has s i) ∙ ih i (le_of_suc-le-suc l)
    go ih (suc d) e i l = absurd (not-suc-le-zero l)

-- and the digit there is 1, where there is one
pub trailing_at : (k s : ℕ) → count_trailing_zeros k s < k → has s (count_trailing_zeros k s) ≡ true
unfolding count_trailing_zeros
trailing_at zero s h = absurd (not-suc-le-zero h)
trailing_at (suc k) s h = go (λ l. trailing_at k (s / 2) l) (s % 2) refl h
  where
    go : (count_trailing_zeros k (s / 2) < k → has (s / 2) (count_trailing_zeros k (s / 2)) ≡ true)
        → (d : ℕ) → s % 2 ≡ d → under d (count_trailing_zeros k (s / 2)) < suc k → has s (under d (count_trailing_zeros k (s / 2))) ≡ true
    go ih zero e l = sym (half_has s (count_trailing_zeros k (s / 2))) ∙ ih (le_of_suc-le-suc l)
    go ih (suc zero) e l = ap (λ (q : ℕ). eqb (q % 2) 1) (div-one s) ∙ ap (λ (d : ℕ). eqb d 1) e
    go ih (suc (suc d)) e l = absurd (omega (arith, mod-lt s (zero-lt-suc 1)))

-- ---- one member

-- the code's `s & (1 << i)` is not 0 exactly if i is a member
pub member_is : (s i : ℕ) → s < 2 ^ 32 → i < 32 → not (eqb (bit_and s (1 * 2 ^ i % 2 ^ 32)) 0) ≡ has s i
member_is s i h l = ap (λ (m : ℕ). not (eqb (bit_and s m) 0)) (shl_one 32 i l) ∙ go (has s i) refl
  where
    at : (j : ℕ) → has (bit_and s (2 ^ i)) j ≡ (has s j && eqb j i)
    at j = has_and s (2 ^ i) j ∙ ap (λ (b : Bool). has s j && b) (has_power i j)

    go : (b : Bool) → has s i ≡ b → not (eqb (bit_and s (2 ^ i)) 0) ≡ b
    go true e =
        ap not
        (ne_eqb (bit_and s (2 ^ i)) 0
        (λ z. true≢false (sym (at i ∙ ap₂ ◌&&◌ e (eq-eqb i i refl)) ∙ ap (λ (m : ℕ). has m i) z ∙ none_has i)))
    go false e =
        ap not
        (eq-eqb (bit_and s (2 ^ i)) 0
        (same_set 32 (bit_and s (2 ^ i)) 0 (lt_of_le_of_lt (and_le_l s (2 ^ i)) h) (pow_pos 32) (λ j k. at j ∙ none j (eqb j i) refl ∙ sym (none_has j))))
      where
        none : (j : ℕ) (b : Bool) → eqb j i ≡ b → has s j && b ≡ false
        none j true q = and-true (has s j) ∙ ap (has s) (eqb-true j i q) ∙ e
        none j false q = and-false (has s j)
