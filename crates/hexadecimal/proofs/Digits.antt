-- Reading digits: byte k is what pair k stands for, and there are half as many bytes as digits; so the stores copy the bytes one by one.
use mathlib.Core.Path.{◌≡◌, refl, sym, ap, ap₂, ◌∙◌}
use mathlib.Core.List.{List, [], ◌∷◌, ◌++◌}
use Prim.Native.Nat.{ℕ, zero, suc, ◌+◌, ◌*◌, ◌/◌, ◌≤◌, ◌<◌, min}
use native.Mathlib.Nat.{zero-add}
use native.Mathlib.Numerals.{add-one}
use native.Mathlib.Decide.{dec_le}
use native.Mathlib.Omega.{arith}
use lib.ListN.{length, take, drop, set, get_or, length-set}
use lib.Seq.{take_all, length-take-le, paste, paste-suc}
use Rattle.hexadecimal.proofs.Counting.{prefix_len_of_le}
use Rattle.hexadecimal.specs.Digits.{digit_of, bytes_of, Unhexed}

-- ---- bytes

-- two digits a byte
bytes_length : (digits : List ℕ) → length (bytes_of digits) ≡ length digits / 2
unfolding bytes_of
bytes_length [] = refl
bytes_length (a ∷ []) = refl
bytes_length (a ∷ b ∷ digits) = omega (arith, bytes_length digits)

-- byte k is what pair k stands for
bytes_at : (digits : List ℕ) (k : ℕ) → k < length digits / 2
    → get_or (bytes_of digits) k 0 ≡ 16 * digit_of (get_or digits (2 * k) 0) + digit_of (get_or digits (2 * k + 1) 0)
unfolding bytes_of
bytes_at [] k h = absurd (omega arith)
bytes_at (a ∷ []) k h = absurd (omega arith)
bytes_at (a ∷ b ∷ digits) zero h = refl
bytes_at (a ∷ b ∷ digits) (suc k) h =
    let e : 2 * suc k ≡ suc (suc (2 * k)) = omega arith in
    let d : 2 * suc k + 1 ≡ suc (suc (2 * k + 1)) = omega arith in
    bytes_at digits k (omega arith) ∙ sym (ap₂ (λ i j. 16 * digit_of (get_or (a ∷ b ∷ digits) i 0) + digit_of (get_or (a ∷ b ∷ digits) j 0)) e d)

-- ---- the loop

-- the first k bytes stand at the front of xs
pub record Stored (digits xs ys : List ℕ) (n k : ℕ) : Type 0 where
  pub count : n ≡ min (length digits / 2) (length xs)
  pub same : length ys ≡ length xs
  pub bytes : ys ≡ paste xs 0 (bytes_of digits) k

module _ (digits xs ys : List ℕ) (n k : ℕ) (i : Stored digits xs ys n k) where
  -- one byte more
  pub stored_next : (b : ℕ) → k < n → b ≡ 16 * digit_of (get_or digits (2 * k) 0) + digit_of (get_or digits (2 * k + 1) 0)
      → Stored digits xs (set ys k b) n (k + 1)
  stored_next b h e =
      let l : k < length digits / 2 = omega (arith, i.count) in
      let v : b ≡ get_or (bytes_of digits) k 0 = e ∙ sym (bytes_at digits k l) in
      record {
        count = i.count;
        same = length-set ys k b ∙ i.same;
        bytes =
            ap₂ (λ zs a. set zs k a) i.bytes v
            ∙ ap (λ j. set (paste xs 0 (bytes_of digits) k) j (get_or (bytes_of digits) k 0)) (sym (zero-add k))
            ∙ paste-suc xs 0 (bytes_of digits) k 0 (omega (arith, i.count)) (omega (arith, bytes_length digits))
            ∙ ap (paste xs 0 (bytes_of digits)) (sym (add-one k));
      }

  -- as many bytes are stored as there are, or as there is room for
  stored_cut : k ≡ n → take k (bytes_of digits) ≡ take (length xs) (bytes_of digits)
  stored_cut h = go (dec_le (length digits / 2) (length xs))
    where
      go : Dec (length digits / 2 ≤ length xs) → take k (bytes_of digits) ≡ take (length xs) (bytes_of digits)
      go (yes l) =
          take_all k (bytes_of digits) (omega (arith, i.count, bytes_length digits))
          ∙ sym (take_all (length xs) (bytes_of digits) (omega (arith, bytes_length digits)))
      go (no l) = let e : k ≡ length xs = omega (arith, i.count) in ap (λ j. take j (bytes_of digits)) e

  -- all that are due are stored, and m is how many they are
  pub stored_all : (m : ℕ) → k ≡ n → m ≡ n → Unhexed digits xs ys m
  stored_all m e h =
      let size = length-take-le k (bytes_of digits) (omega (arith, e, i.count, bytes_length digits)) in
      rw h (record {
        bytes = i.bytes ∙ ap₂ (λ front j. front ++ drop j xs) (stored_cut e) (zero-add k ∙ e);
        size = sym e ∙ sym size ∙ ap length (stored_cut e);
        counts = prefix_len_of_le _ _ (omega (arith, i.count, i.same));
      })
