-- A coordinate's word is its 32-bit two's complement, and its biased number is that plus 1,000,000. `to_z w32` is the machine's signed
-- reading of a word: the word itself below 2^31, and the word less 2^32 from there on.
-- Assumes nothing.
use Prim.Native.Nat.{ℕ, suc, ◌+◌, ◌-◌, ◌^◌, ◌<◌, ◌≤◌}
use mathlib.Core.Path.{◌≡◌, sym, ap, ◌∙◌}
use mathlib.Core.Logic.{◌↔◌}
use native.Mathlib.Omega.{arith}
use native.Mathlib.Decide.{dec_lt}
use borrow.Author.Tests.{lt-ltb, le-ltb}
use lib.Dec.{leb→le, le→leb}
use lib.IntN.{pos, negsuc, neg_ℤ, ◌+ℤ◌, ◌-ℤ◌, +ℤ-neg_ℤ_cancel}
use lib.Signed.{◌≤ℤ◌}
use mir.Syntax.{w32}
use mir.Val.{to_z}
use Rattle.job.specs.Fields.{biased_of, word_of, decimetres}

-- a word is that of its own biased number, and a biased coordinate that of its own word
pub word_of_biased : (w : ℕ) → w < 2 ^ 32 → word_of (biased_of w) ≡ w
word_of_biased w h = omega arith

pub biased_of_word : (c : ℕ) → c ≤ 2000000 → biased_of (word_of c) ≡ c
biased_of_word c h = omega arith

-- the signed reading of a word below 2^31, and from 2^31 on
low : (w : ℕ) → w < 2147483648 → to_z w32 w ≡ pos w
low w h = simp (lt-ltb w 2147483648 h)

high : (w : ℕ) → 2147483648 ≤ w → to_z w32 w ≡ negsuc (4294967296 - suc w)
high w h = simp (le-ltb w 2147483648 h)

-- either half of the words
by_half : {A : Type 0} (w : ℕ) → (w < 2147483648 → A) → (2147483648 ≤ w → A) → A
by_half {A} w f g = go (dec_lt w 2147483648)
  where
    go : Dec (w < 2147483648) → A
    go (yes h) = f h
    go (no h) = g (omega arith)

-- a biased number up to 2,000,000 is the signed reading plus 1,000,000
pub signed_value : (w : ℕ) → w < 2 ^ 32 → biased_of w ≤ 2000000 → pos (biased_of w) ≡ to_z w32 w +ℤ pos 1000000
signed_value w fits h =
    by_half w (λ l. rw (low w l) (let e : biased_of w ≡ w + 1000000 = omega arith in ap pos e))
    (λ l.
    let e : biased_of w ≡ 1000000 - suc (4294967296 - suc w) = omega arith in
    let g : suc (4294967296 - suc w) ≤ 1000000 = omega arith in
    rw (high w l) (simp (le-ltb 1000000 (suc (4294967296 - suc w)) g) (ap pos e)))

-- so the signed reading is the decimetres
pub signed_decimetres : (w : ℕ) → w < 2 ^ 32 → biased_of w ≤ 2000000 → to_z w32 w ≡ decimetres (biased_of w)
signed_decimetres w fits h = sym (+ℤ-neg_ℤ_cancel (to_z w32 w) (pos 1000000)) ∙ ap (λ z. z -ℤ pos 1000000) (sym (signed_value w fits h))

-- a biased number is up to 2,000,000 exactly if the signed reading lies from -1,000,000 to 1,000,000
pub signed_range : (w : ℕ) → w < 2 ^ 32 → (biased_of w ≤ 2000000) ↔ ((neg_ℤ (pos 1000000) ≤ℤ to_z w32 w) × (to_z w32 w ≤ℤ pos 1000000))
signed_range w fits =
    by_half w
    (λ l. rw (low w l) (
      λ h. (record { le = tt }, record { le = le→leb w 1000000 (omega arith) }),
      λ h. let g = leb→le w 1000000 h.1.le in omega arith,
    ))
    (λ l. rw (high w l) (
      λ h. (record { le = le→leb (4294967296 - suc w) 999999 (omega arith) }, record { le = tt }),
      λ h. let g = leb→le (4294967296 - suc w) 999999 h.0.le in omega arith,
    ))
