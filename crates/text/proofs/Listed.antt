-- A text in a buffer, cut where the buffer is full: one text behind another is their concatenation, cut at the same place.
use mathlib.Core.Path.{◌≡◌, refl, sym, ap, ◌∙◌}
use mathlib.Core.List.{List, [], ◌∷◌, ◌++◌, append-nil}
use Prim.Native.Nat.{ℕ, ◌+◌, ◌-◌, ◌≤◌, ◌<◌, min}
use native.Mathlib.Decide.{dec_le}
use native.Mathlib.Omega.{arith}
use lib.ListN.{length, take, drop, set, length-append, length-take, length-drop}
use lib.Seq.{take_all, take-append-le, take-append-add, length-take-le}
use borrow.Rule.Slice.PartMut.{mid_of, put_mid}
use Rattle.fields.specs.Bytes.{over, Wrote}
use Rattle.fields.proofs.Over.{wrote_next}
use Rattle.text.specs.Listed.{Listed}

-- the first n elements of two lists
take_append : {A : Type 0} (n : ℕ) (a b : List A) → take n (a ++ b) ≡ take n a ++ take (n - length a) b
take_append {A} n a b = go (dec_le n (length a))
  where
    go : Dec (n ≤ length a) → take n (a ++ b) ≡ take n a ++ take (n - length a) b
    go (yes h) =
        let e : n - length a ≡ 0 = omega arith in
        take-append-le n a b h ∙ sym (ap (λ k. take n a ++ take k b) e ∙ append-nil (take n a))
    go (no h) =
        let e : n ≡ length a + (n - length a) = omega arith in
        ap (λ k. take k (a ++ b)) e ∙ take-append-add a b (n - length a) ∙ ap (λ l. l ++ take (n - length a) b) (sym (take_all n a (omega arith)))

-- a cut text is no longer than the buffer
cut_length : (t xs : List ℕ) → length (take (length xs) t) ≤ length xs
cut_length t xs = omega (arith, length-take (length xs) t)

-- the buffer keeps its length
cut_same : (t xs ys : List ℕ) (n : ℕ) → Wrote (take (length xs) t) xs ys n → length ys ≡ length xs
unfolding over
cut_same t xs ys n w = ap length w.bytes ∙ simp (length-append, length-drop) (omega (arith, cut_length t xs))

-- what follows from the bytes that were written
listed : (t xs ys : List ℕ) (n : ℕ) → Wrote (take (length xs) t) xs ys n → Listed t xs ys n
listed t xs ys n w =
    let h : n ≤ length ys = omega (arith, w.size, cut_length t xs, cut_same t xs ys n w) in
    record { wrote = w; within = h; front = omega (arith, length-take n ys) }

-- the same of a listed text
pub listed_same : (t xs ys : List ℕ) (n : ℕ) → Listed t xs ys n → length ys ≡ length xs
listed_same t xs ys n p = cut_same t xs ys n p.wrote

-- nothing written
pub listed_none : (xs : List ℕ) → Listed [] xs xs 0
unfolding over
listed_none xs = listed [] xs xs 0 (rw (take_all {A = ℕ} (length xs) [] (omega arith)) (record { bytes = refl; size = refl }))

-- a text behind another, in the rest of the buffer, `&mut ys[n..]`
pub listed_next : (a b xs ys zs : List ℕ) (n m : ℕ) → Listed a xs ys n → Listed b (mid_of n (length ys - n) ys) zs m
    → Listed (a ++ b) xs (put_mid n (length ys - n) ys zs) (n + m)
listed_next a b xs ys zs n m p q =
    let same = cut_same a xs ys n p.wrote in
    let mid : length (mid_of n (length ys - n) ys) ≡ length xs - length a =
    length-take (length ys - n) (drop n ys) ∙ omega (arith, length-drop n ys, p.wrote.size, length-take (length xs) a)
    in
    let w = wrote_next (take (length xs) a) _ xs ys zs n m p.wrote.size p.wrote.bytes q.wrote in
    listed (a ++ b) xs (put_mid n (length ys - n) ys zs) (n + m) (rw (take_append (length xs) a b, ← mid) w)

-- a text for which there is room is written whole
pub listed_whole : (t xs ys : List ℕ) (n : ℕ) → Listed t xs ys n → length t ≤ length xs → Wrote t xs ys n
listed_whole t xs ys n p h = rw (take_all (length xs) t h) at p.wrote

-- ---- one byte, and a copy

-- no room
pub listed_full : (t xs : List ℕ) → length xs ≡ 0 → Listed t xs xs 0
unfolding over
listed_full t xs h = listed t xs xs 0 (rw h (record { bytes = refl; size = refl }))

-- one byte at the front
pub listed_byte : (b : ℕ) (xs : List ℕ) → 0 < length xs → Listed (b ∷ []) xs (set xs 0 b) 1
unfolding over
listed_byte b [] h = absurd (omega arith)
listed_byte b (x ∷ xs) h =
    listed (b ∷ []) (x ∷ xs) (b ∷ xs) 1 (rw (take_all (length (x ∷ xs)) (b ∷ []) (omega arith)) (record { bytes = refl; size = refl }))

-- as much of ws at the front as there is, or as there is room for
pub listed_copy : (ws xs : List ℕ) (n : ℕ) → n ≡ min (length ws) (length xs) → Listed ws xs (take n ws ++ drop n xs) n
unfolding over
listed_copy ws xs n h =
    let k : length (take n ws) ≡ n = length-take-le n ws (omega arith) in
    listed ws xs (take n ws ++ drop n xs) n (rw (← same (dec_le (length ws) (length xs))) (record { bytes = rw k refl; size = sym k }))
  where
    same : Dec (length ws ≤ length xs) → take n ws ≡ take (length xs) ws
    same (yes l) = take_all n ws (omega arith) ∙ sym (take_all (length xs) ws l)
    same (no l) = let e : n ≡ length xs = omega arith in ap (λ (j : ℕ). take j ws) e
