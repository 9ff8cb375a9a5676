-- What a decoded record says of its bytes.
-- Assumes nothing.
use Prim.Native.Nat.{ℕ, ◌+◌, ◌-◌, ◌<◌, ◌≤◌}
use mathlib.Core.Path.{◌≡◌, refl}
use mathlib.Core.List.{List, [], ◌∷◌}
use mathlib.Core.Bool.{Bool, true, false, cond}
use native.Mathlib.Omega.{arith}
use borrow.Author.Tests.{eqb-true, eqb-false, ltb-true, ltb-false}
use lib.Dec.{ltb, eqb}
use lib.ListN.{length, get_or, drop}
use Rattle.job.specs.declared.Record.{Record}
use Rattle.job.specs.declared.Record.TheVariants as rec
use Rattle.job.specs.Fields.{word2, word4}
use Rattle.job.specs.Applies.{Kind, head, run, end, byte_of, size_of, Starts}
use Rattle.job.specs.Records.{run_body, decoded, record_of}

-- what holds of each side of a test, with what the test says there, holds of the side that it picks
pub by_test : {A : Type 0} (P : A → Type 0) (b : Bool) {x y : A} → (b ≡ true → P x) → (b ≡ false → P y) → P (cond b x y)
by_test P true f g = f refl
by_test P false f g = g refl

-- the bytes end inside a record at the place, or before it
pub data CutAt (s : List ℕ) (p : ℕ) : Type 0 where
  inside : (k : Kind) → Starts k s p → length s < p + size_of k → CutAt s p
  before_end : p ≡ length s → CutAt s p

-- the kind at the place is none
pub record UnknownAt (s : List ℕ) (p : ℕ) : Type 0 where
  pub within : p < length s
  pub none : (k : Kind) → get_or s p 0 ≡ byte_of k → ⊥

-- what a record says of the bytes that it was decoded from: a whole one, that its body is long enough and the fields are where they are
abbrev pub Says : List ℕ → Record → Type 0
Says bytes (rec.Head number) = (get_or bytes 0 0 ≡ 0x48) × (4 ≤ length (drop 1 bytes)) × (number ≡ word4 (drop 1 bytes) 0)
Says bytes (rec.Run r) = (get_or bytes 0 0 ≡ 0x52) × (18 ≤ length (drop 1 bytes)) × (r ≡ run_body (drop 1 bytes))
Says bytes (rec.End count) = (get_or bytes 0 0 ≡ 0x5A) × (2 ≤ length (drop 1 bytes)) × (count ≡ word2 (drop 1 bytes) 0)
Says bytes rec.Unknown = UnknownAt bytes 0
Says bytes rec.Cut = CutAt bytes 0

module _ (kind : ℕ) (b : List ℕ) where
  -- bytes that end before the record of their kind does
  cut_says : (k : Kind) → kind ≡ byte_of k → length b < size_of k - 1 → CutAt (kind ∷ b) 0
  cut_says k e l = inside k (omega arith, e) (omega arith)

  -- a kind that is none of the three
  unknown_says : (kind ≡ 0x48 → ⊥) → (kind ≡ 0x52 → ⊥) → (kind ≡ 0x5A → ⊥) → UnknownAt (kind ∷ b) 0
  unknown_says h r e = record { within = omega arith; none = elim [ head ↦ h | run ↦ r | end ↦ e ] }

  -- a decoded record says what its kind and body are
  says : Says (kind ∷ b) (decoded kind b)
  unfolding decoded
  says =
      by_test (Says (kind ∷ b)) (eqb kind 0x48)
      (λ t. by_test (Says (kind ∷ b)) (ltb (length b) 4) (λ l. cut_says head (eqb-true _ _ t) (ltb-true _ _ l)) (λ l. (eqb-true _ _ t, ltb-false _ _ l, refl)))
      (λ h. by_test (Says (kind ∷ b)) (eqb kind 0x52)
      (λ t. by_test (Says (kind ∷ b)) (ltb (length b) 18) (λ l. cut_says run (eqb-true _ _ t) (ltb-true _ _ l)) (λ l. (eqb-true _ _ t, ltb-false _ _ l, refl)))
      (λ r. by_test (Says (kind ∷ b)) (eqb kind 0x5A)
      (λ t. by_test (Says (kind ∷ b)) (ltb (length b) 2) (λ l. cut_says end (eqb-true _ _ t) (ltb-true _ _ l)) (λ l. (eqb-true _ _ t, ltb-false _ _ l, refl)))
      (λ e. unknown_says (eqb-false _ _ h) (eqb-false _ _ r) (eqb-false _ _ e))))

-- the same of the record that the bytes begin with
pub record_says : (bytes : List ℕ) → Says bytes (record_of bytes)
unfolding record_of
record_says [] = before_end refl
record_says (kind ∷ b) = says kind b
