-- The first 632 bytes decide: 5 of the head and 19 of each record up to the 33rd run. A list that is longer than a prefix of 19 bytes
-- or more begins with the same record and is as long as every test asks, so each step is the same; a shorter one is its own prefix.
-- Assumes nothing.
use Prim.Native.Nat.{ℕ, zero, suc, ◌+◌, ◌-◌, ◌*◌, ◌<◌, ◌≤◌}
use mathlib.Core.Path.{◌≡◌, refl, sym, ap, ap₂, fun_ext, ◌∙◌}
use mathlib.Core.List.{List, [], ◌∷◌}
use mathlib.Core.Bool.{cond}
use native.Mathlib.Omega.{arith}
use native.Mathlib.Nat.{sub-zero, zero-sub, suc-sub-suc}
use native.Mathlib.Decide.{dec_le}
use borrow.Author.Tests.{lt-ltb, le-ltb}
use lib.ListN.{length, take, drop}
use lib.Dec.{eqb}
use lib.Seq.{take_all, take-nil, get_or-take, length-take-le}
use Rattle.job.specs.declared.Record.{Record}
use Rattle.job.specs.declared.Record.TheVariants as rec
use Rattle.job.specs.Fields.{word2, word4, biased_of}
use Rattle.job.specs.Records.{run_body, decoded, record_of}
use Rattle.job.specs.Parse.{end_step, step_by, step_of, proceed, read_from, first_by, parse}

-- the rest of a prefix is a prefix of the rest
pub drop_take : {A : Type 0} (k m : ℕ) (l : List A) → drop k (take m l) ≡ take (m - k) (drop k l)
drop_take zero m l = rw sub-zero
drop_take (suc k) zero l = rw zero-sub
drop_take (suc k) (suc m) [] = sym (take-nil (suc m - suc k))
drop_take (suc k) (suc m) (x ∷ l) = rw suc-sub-suc (drop_take k m l)

module _ (m : ℕ) (b : List ℕ) where
  -- a field that lies in the prefix is the same there
  pub word2_take : (i : ℕ) → i + 2 ≤ m → word2 (take m b) i ≡ word2 b i
  word2_take i h = rw (get_or-take m b i 0 (omega arith), get_or-take m b (i + 1) 0 (omega arith))

  pub word4_take : (i : ℕ) → i + 4 ≤ m → word4 (take m b) i ≡ word4 b i
  word4_take i h =
      rw (get_or-take m b i 0 (omega arith), get_or-take m b (i + 1) 0 (omega arith), get_or-take m b (i + 2) 0 (omega arith), get_or-take m b (i + 3) 0 (omega arith))

  module _ (enough : 18 ≤ m) (longer : m ≤ length b) where
    -- so is a whole run
    run_take : run_body (take m b) ≡ run_body b
    run_take = λ i. record {
      number = word2_take 0 (omega arith) i;
      x1 = biased_of (word4_take 2 (omega arith) i);
      y1 = biased_of (word4_take 6 (omega arith) i);
      x2 = biased_of (word4_take 10 (omega arith) i);
      y2 = biased_of (word4_take 14 (omega arith) i);
    }

    -- so is every record, where the list has more bytes than a record needs
    decoded_take : (kind : ℕ) → decoded kind (take m b) ≡ decoded kind b
    unfolding decoded
    decoded_take kind =
        let l = length-take-le m b longer in
        simp (
          le-ltb (length (take m b)) 4 (omega arith),
          le-ltb (length (take m b)) 18 (omega arith),
          le-ltb (length (take m b)) 2 (omega arith),
          le-ltb (length b) 4 (omega arith),
          le-ltb (length b) 18 (omega arith),
          le-ltb (length b) 2 (omega arith),
        )
        (λ i. cond (eqb kind 0x48) (rec.Head (word4_take 0 (omega arith) i))
        (cond (eqb kind 0x52) (rec.Run (run_take i)) (cond (eqb kind 0x5A) (rec.End (word2_take 0 (omega arith) i)) rec.Unknown)))

-- the record that a longer list begins with stands in its prefix
record_take : (m : ℕ) (bytes : List ℕ) → 19 ≤ m → m < length bytes → record_of (take m bytes) ≡ record_of bytes
unfolding record_of
record_take m [] enough longer = absurd (omega arith)
record_take zero (kind ∷ b) enough longer = absurd (omega arith)
record_take (suc m) (kind ∷ b) enough longer = decoded_take m b (omega arith) (omega arith) kind

-- a prefix of 19 bytes or more has the same step
step_by_take : (at n last m : ℕ) (bytes : List ℕ) (g : Record) → 19 ≤ m → m < length bytes → step_by at n last (take m bytes) g ≡ step_by at n last bytes g
unfolding step_by end_step
step_by_take at n last m bytes rec.Unknown enough longer = refl
step_by_take at n last m bytes rec.Cut enough longer = refl
step_by_take at n last m bytes (rec.Head number) enough longer = refl
step_by_take at n last m bytes (rec.Run r) enough longer = refl
step_by_take at n last m bytes (rec.End count) enough longer =
    let l = length-take-le m bytes (omega arith) in
    simp (lt-ltb 3 (length (take m bytes)) (omega arith), lt-ltb 3 (length bytes) (omega arith))

-- what holds of a longer list and of the prefix that is the list itself holds of every prefix
pub by_length : {A : Type 0} (f : List ℕ → A) (m : ℕ) (bytes : List ℕ) → (m < length bytes → f (take m bytes) ≡ f bytes) → f (take m bytes) ≡ f bytes
by_length f m bytes h = go (dec_le (length bytes) m)
  where
    go : Dec (length bytes ≤ m) → f (take m bytes) ≡ f bytes
    go (yes l) = ap f (take_all m bytes l)
    go (no l) = h (omega arith)

-- the same of every list
step_take : (at n last m : ℕ) (bytes : List ℕ) → 19 ≤ m → step_of at n last (take m bytes) ≡ step_of at n last bytes
step_take at n last m bytes enough =
    by_length (step_of at n last) m bytes
    (λ longer. ap (step_by at n last (take m bytes)) (record_take m bytes enough longer) ∙ step_by_take at n last m bytes (record_of bytes) enough longer)

-- a prefix that holds as many records as are looked at is read as the whole
read_take : (records number at n last m : ℕ) (bytes : List ℕ) → 19 * records ≤ m → read_from records number at n last (take m bytes) ≡ read_from records number at n last bytes
unfolding read_from
read_take zero number at n last m bytes enough = refl
read_take (suc records) number at n last m bytes enough =
    ap₂ (proceed number)
    (fun_ext (λ r.
    ap (read_from records number (at + 19) (suc n) r.number) (drop_take 19 m bytes)
    ∙ read_take records number (at + 19) (suc n) r.number (m - 19) (drop 19 bytes) (omega arith)))
    (step_take at n last m bytes (omega arith))

-- whatever the first record is
first_take : (g : Record) (m : ℕ) (bytes : List ℕ) → 627 ≤ m → first_by g (take m bytes) ≡ first_by g bytes
unfolding first_by
first_take rec.Unknown m bytes enough = refl
first_take rec.Cut m bytes enough = refl
first_take (rec.Head number) m bytes enough = read_take 33 number 5 0 0 m bytes enough
first_take (rec.Run r) m bytes enough = refl
first_take (rec.End count) m bytes enough = refl

-- no byte after the first 632 changes what is read
pub parse_prefix : (m : ℕ) (s : List ℕ) → 632 ≤ m → parse (take m s) ≡ parse s
unfolding parse
parse_prefix m s enough =
    ap₂ first_by (by_length record_of m s (λ longer. record_take m s (omega arith) longer)) (drop_take 5 m s)
    ∙ first_take (record_of s) (m - 5) (drop 5 s) (omega arith)
