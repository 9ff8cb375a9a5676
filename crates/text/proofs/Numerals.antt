-- Decimal numerals. A number below ten is its own digit, and any other is the numeral of its tenth and one digit more; so `decimal n` is the
-- numeral of n, and the only one.
use mathlib.Core.Path.{◌≡◌, refl, sym, ap, ◌∙◌}
use mathlib.Core.List.{List, [], ◌∷◌, ◌++◌, append_assoc, append-nil}
use Prim.Native.Nat.{ℕ, zero, suc, ◌+◌, ◌-◌, ◌*◌, ◌/◌, ◌%◌, ◌^◌, ◌≤◌, ◌<◌}
use native.Mathlib.Nat.{pow-succ'}
use native.Mathlib.Decide.{dec_lt}
use native.Mathlib.Omega.{arith}
use borrow.Author.Tests.{lt-ltb, le-ltb}
use lib.ListN.{length, length-append}
use Rattle.network.specs.Lists.{All}
use Rattle.network.proofs.Lists.{all_append}
use Rattle.text.specs.Numerals.{digits, decimal, value_from, NoZeroBefore, Numeral}

-- ---- the two ways in which a numeral is made

-- a number below ten is one digit
digits_small : (k n : ℕ) → n < 10 → digits (suc k) n ≡ (48 + n) ∷ []
unfolding digits
digits_small k n h = rw (lt-ltb n 10 h, digits)

-- any other is its tenth, and then its last digit
digits_next : (k n : ℕ) → 10 ≤ n → digits (suc k) n ≡ digits k (n / 10) ++ ((48 + n % 10) ∷ [])
unfolding digits
digits_next k n h = rw (le-ltb n 10 h, digits)

-- what holds of a number below ten, and of any other, holds of all
by_ten : {A : Type 0} (n : ℕ) → (n < 10 → A) → (10 ≤ n → A) → A
by_ten {A} n f g = go (dec_lt n 10)
  where
    go : Dec (n < 10) → A
    go (yes h) = f h
    go (no h) = g (omega arith)

-- more places than n + 1 change nothing
digits_enough : (k j n : ℕ) → n < k → n < j → digits k n ≡ digits j n
digits_enough zero j n h l = absurd (omega arith)
digits_enough (suc k) zero n h l = absurd (omega arith)
digits_enough (suc k) (suc j) n h l =
    by_ten n (λ s. digits_small k n s ∙ sym (digits_small j n s))
    (λ s. digits_next k n s ∙ ap (λ ds. ds ++ ((48 + n % 10) ∷ [])) (digits_enough k j (n / 10) (omega arith) (omega arith)) ∙ sym (digits_next j n s))

-- a number below ten is one digit
pub decimal_small : (n : ℕ) → n < 10 → decimal n ≡ (48 + n) ∷ []
unfolding decimal
decimal_small n h = digits_small n n h

-- any other is its tenth, and then its last digit
pub decimal_next : (n : ℕ) → 10 ≤ n → decimal n ≡ decimal (n / 10) ++ ((48 + n % 10) ∷ [])
unfolding decimal
decimal_next n h = digits_next n n h ∙ ap (λ ds. ds ++ ((48 + n % 10) ∷ [])) (digits_enough n (suc (n / 10)) (n / 10) (omega arith) (omega arith))

-- ---- `decimal n` is the numeral of n

-- the value of digits behind digits
value_append : (n : ℕ) (ds es : List ℕ) → value_from n (ds ++ es) ≡ value_from (value_from n ds) es
value_append n [] es = refl
value_append n (d ∷ ds) es = value_append (n * 10 + (d - 48)) ds es

-- one digit more, behind a numeral that is not 0
first_more : (ds : List ℕ) (d : ℕ) → NoZeroBefore ds → 1 ≤ value_from 0 ds → All (λ d. (48 ≤ d) × (d ≤ 57)) ds → NoZeroBefore (ds ++ (d ∷ []))
first_more [] d z h a = absurd z
first_more (e ∷ []) d z h a = omega (arith, a.0)
first_more (e ∷ f ∷ ds) d z h a = z

-- The numeral of a number, by the number of places: the last digit is n % 10, and the digits before it are the numeral of n / 10.
digits_numeral : (k n : ℕ) → n < k → Numeral n (digits k n)
digits_numeral zero n h = absurd (omega arith)
digits_numeral (suc k) n h =
    by_ten n (λ s. rw (digits_small k n s) (record { digit = ((omega arith, omega arith), tt); first = tt; value = omega arith }))
    (λ s.
    let r = digits_numeral k (n / 10) (omega arith) in
    let v : 1 ≤ value_from 0 (digits k (n / 10)) = omega (arith, r.value) in
    rw (digits_next k n s) (record {
      digit = all_append _ (digits k (n / 10)) ((48 + n % 10) ∷ []) r.digit ((omega arith, omega arith), tt);
      first = first_more (digits k (n / 10)) (48 + n % 10) r.first v r.digit;
      value = value_append 0 (digits k (n / 10)) ((48 + n % 10) ∷ []) ∙ ap (λ m. m * 10 + (48 + n % 10 - 48)) r.value ∙ omega arith;
    }))

-- A number's text is its decimal numeral: digits, no zero in front, and the number's value.
pub decimal_numeral : (n : ℕ) → Numeral n (decimal n)
unfolding decimal
decimal_numeral n = digits_numeral (suc n) n (omega arith)

-- ---- and the only one

-- digits behind the numeral of a number that is not 0
decimal_behind : (n : ℕ) (ds : List ℕ) → 1 ≤ n → All (λ d. (48 ≤ d) × (d ≤ 57)) ds → decimal n ++ ds ≡ decimal (value_from n ds)
decimal_behind n [] h a = append-nil (decimal n)
decimal_behind n (d ∷ ds) h a =
    let m = n * 10 + (d - 48) in
    let q : m / 10 ≡ n = omega (arith, a.0) in
    let e : 48 + m % 10 ≡ d = omega (arith, a.0) in
    let s : decimal m ≡ decimal n ++ (d ∷ []) = decimal_next m (omega arith) ∙ rw (q, e) in
    sym (append_assoc (decimal n) (d ∷ []) ds) ∙ ap (λ l. l ++ ds) (sym s) ∙ decimal_behind m ds (omega arith) a.1

-- There is no other numeral of a number.
pub numeral_unique : (n : ℕ) (ds : List ℕ) → Numeral n ds → ds ≡ decimal n
numeral_unique n [] r = absurd r.first
numeral_unique n (d ∷ []) r =
    let e : d ≡ 48 + n = omega (arith, r.digit.0, r.value) in
    rw (e, decimal_small n (omega (arith, r.digit.0, r.value)))
numeral_unique n (d ∷ e ∷ ds) r =
    let v : 0 * 10 + (d - 48) ≡ d - 48 = omega arith in
    let c : 48 + (d - 48) ≡ d = omega (arith, r.first) in
    let s : decimal (d - 48) ≡ d ∷ [] = decimal_small (d - 48) (omega (arith, r.digit.0)) ∙ ap (λ x. x ∷ []) c in
    ap (λ l. l ++ (e ∷ ds)) (sym s) ∙ decimal_behind (d - 48) (e ∷ ds) (omega (arith, r.first)) r.digit.1
    ∙ ap (λ m. decimal (value_from m (e ∷ ds))) (sym v) ∙ ap decimal r.value

-- ---- how long numerals are

-- a number below the (k + 1)th power of ten has at most k + 1 digits
pub decimal_length : (k n : ℕ) → n < 10 ^ suc k → length (decimal n) ≤ suc k
decimal_length zero n h = rw (decimal_small n h) (omega arith)
decimal_length (suc k) n h =
    by_ten n (λ s. rw (decimal_small n s) (omega arith))
    (λ s.
    let l : n / 10 < 10 ^ suc k = omega (arith, pow-succ' 10 (suc k)) in
    rw (decimal_next n s) (omega (arith, length-append (decimal (n / 10)) ((48 + n % 10) ∷ []), decimal_length k (n / 10) l)))
