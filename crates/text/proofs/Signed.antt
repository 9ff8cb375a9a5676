-- Integers in decimal: the text of a word, and that the word of a coordinate is read as its decimetres.
use mathlib.Core.Path.{◌≡◌, ap, ◌∙◌}
use mathlib.Core.List.{◌++◌}
use Prim.Native.Nat.{ℕ, suc, ◌-◌, ◌^◌, ◌≤◌, ◌<◌}
use native.Mathlib.Decide.{dec_lt}
use native.Mathlib.Omega.{arith}
use borrow.Author.Tests.{lt-ltb, le-ltb}
use lib.ListN.{length}
use mir.Syntax.{w32}
use mir.Val.{to_z}
use Rattle.job.specs.Fields.{word_of, decimetres}
use Rattle.job.proofs.Signed.{biased_of_word, signed_decimetres}
use Rattle.text.specs.Numerals.{ascii, decimal, signed}
use Rattle.text.proofs.Numerals.{decimal_length}

-- a word below 2^31 is its own number
pub signed_low : (w : ℕ) → w < 2 ^ 31 → signed (to_z w32 w) ≡ decimal w
signed_low w h = simp (lt-ltb w (2 ^ 31) h)

-- any other stands for the number that is 2^32 less
pub signed_high : (w : ℕ) → 2 ^ 31 ≤ w → w < 2 ^ 32 → signed (to_z w32 w) ≡ ascii "-" ++ decimal (2 ^ 32 - w)
signed_high w h l = let e : suc (2 ^ 32 - suc w) ≡ 2 ^ 32 - w = omega arith in simp (le-ltb w (2 ^ 31) h) (ap (λ n. ascii "-" ++ decimal n) e)

-- the word of a coordinate is read as its decimetres
pub word_decimetres : (c : ℕ) → c ≤ 2000000 → to_z w32 (word_of c) ≡ decimetres c
word_decimetres c h =
    let e = biased_of_word c h in
    signed_decimetres (word_of c) (omega arith) (omega (arith, e)) ∙ ap decimetres e

-- a coordinate takes at most eight characters
pub decimetres_length : (c : ℕ) → c ≤ 2000000 → length (signed (decimetres c)) ≤ 8
decimetres_length c h = go (dec_lt c 1000000)
  where
    go : Dec (c < 1000000) → length (signed (decimetres c)) ≤ 8
    go (yes l) = simp (lt-ltb c 1000000 l) (omega (arith, decimal_length 6 (suc (1000000 - suc c)) (omega arith)))
    go (no l) = let k : 1000000 ≤ c = omega arith in simp (le-ltb c 1000000 k) (omega (arith, decimal_length 6 (c - 1000000) (omega arith)))
