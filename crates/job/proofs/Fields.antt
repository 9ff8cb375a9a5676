-- Little-endian numbers and their bytes: reading undoes writing, and writing undoes reading. Both go digit by digit to base 256.
-- Assumes nothing.
use Prim.Native.Nat.{ℕ, zero, suc, ◌+◌, ◌*◌, ◌/◌, ◌%◌, ◌^◌, ◌<◌, ◌≤◌}
use mathlib.Core.Path.{◌≡◌, sym, ap, ◌∙◌}
use mathlib.Core.List.{List, [], ◌∷◌, ◌++◌}
use native.Mathlib.Omega.{arith}
use native.Mathlib.Nat.{div-add-mod, div-div-eq-div-mul, div-one, div-eq_of_lt, mod-eq_of_lt, add-mul-mod_self_left, add-mul-div_left, zero-add, pow-succ'}
use native.Mathlib.Numerals.{add-one, add-two, add-three, add-four}
use lib.ListN.{length, get_or, drop}
use lib.Seq.{drop-cons, get_or-drop}
use Rattle.job.specs.Fields.{word2, word4}
use Rattle.job.specs.Written.{bytes2, bytes4, Bytes}

-- a part of a list of bytes is one
pub bytes_drop : (k : ℕ) (s : List ℕ) → Bytes s → Bytes (drop k s)
bytes_drop k s h i = rw get_or-drop (h (k + i))

-- a number is read back from its bytes
pub word2_bytes : (v : ℕ) → v < 65536 → (rest : List ℕ) → word2 (bytes2 v ++ rest) 0 ≡ v
word2_bytes v h rest = omega arith

-- four digits make their number
sum4 : (v q₁ q₂ q₃ r₀ r₁ r₂ : ℕ) → 256 * q₁ + r₀ ≡ v → 256 * q₂ + r₁ ≡ q₁ → 256 * q₃ + r₂ ≡ q₂ → r₀ + 256 * r₁ + 65536 * r₂ + 16777216 * q₃ ≡ v
sum4 v q₁ q₂ q₃ r₀ r₁ r₂ e₁ e₂ e₃ = omega arith

-- the same for four bytes
pub word4_bytes : (v : ℕ) → v < 2 ^ 32 → (rest : List ℕ) → word4 (bytes4 v ++ rest) 0 ≡ v
word4_bytes v h rest =
    let e₂ = sym (div-div-eq-div-mul v 256 256) in
    let e₃ = sym (div-div-eq-div-mul v 65536 256) ∙ ap (λ (q : ℕ). q / 256) e₂ in
    let top : v / 256 / 256 / 256 < 256 = omega arith in
    rw (e₃, e₂, mod-eq_of_lt top)
    (sum4 v (v / 256) (v / 256 / 256) (v / 256 / 256 / 256) _ _ _ (div-add-mod v 256) (div-add-mod (v / 256) 256) (div-add-mod (v / 256 / 256) 256))

-- the number whose digits are these bytes, the lowest first
abbrev value : List ℕ → ℕ
value [] = 0
value (b ∷ bs) = b + 256 * value bs

-- the lowest digit of a number, and what is above it
first_digit : (b q : ℕ) → b < 256 → (b + 256 * q) % 256 ≡ b
first_digit b q h = add-mul-mod_self_left b 256 q ∙ mod-eq_of_lt h

later_digits : (b q : ℕ) → b < 256 → (b + 256 * q) / 256 ≡ q
later_digits b q h = add-mul-div_left b q (omega arith) ∙ rw (div-eq_of_lt h) (zero-add q)

-- digit k of that number is byte k
digit : (bs : List ℕ) → Bytes bs → (k : ℕ) → k < length bs → value bs / 256 ^ k % 256 ≡ get_or bs k 0
digit [] h k l = absurd (omega arith)
digit (b ∷ bs) h zero l = rw div-one (first_digit b (value bs) (h 0))
digit (b ∷ bs) h (suc k) l =
    ap (λ (q : ℕ). (b + 256 * value bs) / q % 256) (pow-succ' 256 k)
    ∙ ap (λ (q : ℕ). q % 256) (sym (div-div-eq-div-mul (b + 256 * value bs) 256 (256 ^ k)))
    ∙ ap (λ (q : ℕ). q / 256 ^ k % 256) (later_digits b (value bs) (h 0))
    ∙ digit bs (λ i. h (suc i)) k (omega arith)

-- a list of bytes with one more in front is one
no_bytes : Bytes []
no_bytes i = omega arith

more_bytes : (b : ℕ) (bs : List ℕ) → b < 256 → Bytes bs → Bytes (b ∷ bs)
more_bytes b bs h hs zero = h
more_bytes b bs h hs (suc i) = hs i

-- the bytes of a number with two digits, and with four, are its digits
digits2 : (a b : ℕ) → a < 256 → b < 256 → bytes2 (a + 256 * b) ≡ a ∷ b ∷ []
digits2 a b ha hb =
    let hs = more_bytes a (b ∷ []) ha (more_bytes b [] hb no_bytes) in
    let e : a + 256 * b ≡ value (a ∷ b ∷ []) = omega arith in
    rw e (λ i. first_digit a (value (b ∷ [])) ha i ∷ digit (a ∷ b ∷ []) hs 1 (omega arith) i ∷ [])

digits4 : (a b c d : ℕ) → a < 256 → b < 256 → c < 256 → d < 256
    → bytes4 (a + 256 * b + 65536 * c + 16777216 * d) ≡ a ∷ b ∷ c ∷ d ∷ []
digits4 a b c d ha hb hc hd =
    let bs = a ∷ b ∷ c ∷ d ∷ [] in
    let hs : Bytes bs = more_bytes a (b ∷ c ∷ d ∷ []) ha (more_bytes b (c ∷ d ∷ []) hb (more_bytes c (d ∷ []) hc (more_bytes d [] hd no_bytes))) in
    let e : a + 256 * b + 65536 * c + 16777216 * d ≡ value bs = omega arith in
    rw e
    (λ i. first_digit a (value (b ∷ c ∷ d ∷ [])) ha i ∷ digit bs hs 1 (omega arith) i ∷ digit bs hs 2 (omega arith) i ∷ digit bs hs 3 (omega arith) i ∷ [])

-- the bytes of a number that is read are those that stand there
pub bytes2_word : (b : List ℕ) (i : ℕ) → Bytes b → i + 2 ≤ length b → drop i b ≡ bytes2 (word2 b i) ++ drop (i + 2) b
bytes2_word b i h l =
    let l₀ : i < length b = omega arith in
    let l₁ : suc i < length b = omega arith in
    rw (add-one, add-two)
    (rw (drop-cons b i 0 l₀, drop-cons b (suc i) 0 l₁) (ap (λ t. t ++ drop (suc (suc i)) b) (sym (digits2 _ _ (h i) (h (suc i))))))

-- the same for four bytes
pub bytes4_word : (b : List ℕ) (i : ℕ) → Bytes b → i + 4 ≤ length b → drop i b ≡ bytes4 (word4 b i) ++ drop (i + 4) b
bytes4_word b i h l =
    let l₀ : i < length b = omega arith in
    let l₁ : suc i < length b = omega arith in
    let l₂ : suc (suc i) < length b = omega arith in
    let l₃ : suc (suc (suc i)) < length b = omega arith in
    rw (add-one, add-two, add-three, add-four)
    (rw (drop-cons b i 0 l₀, drop-cons b (suc i) 0 l₁, drop-cons b (suc (suc i)) 0 l₂, drop-cons b (suc (suc (suc i))) 0 l₃)
    (ap (λ t. t ++ drop (suc (suc (suc (suc i)))) b) (sym (digits4 _ _ _ _ (h i) (h (suc i)) (h (suc (suc i))) (h (suc (suc (suc i))))))))
