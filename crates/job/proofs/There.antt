-- What stands at a place of a job's bytes, in the words of `Applies` and `Decoded`. The reader decodes what is left of the bytes from the place on, so each
-- byte and each length is carried from there to the whole.
-- Assumes nothing.
use Prim.Native.Nat.{ℕ, zero, suc, ◌+◌, ◌*◌, ◌≤◌, ◌<◌}
use mathlib.Core.Path.{◌≡◌, refl, sym, ap, ◌∙◌}
use mathlib.Core.List.{List}
use native.Mathlib.Omega.{arith}
use native.Mathlib.Nat.{add-zero}
use lib.ListN.{length, get_or, drop, length-drop}
use lib.Seq.{get_or-drop}
use Rattle.job.specs.declared.Run.{Run}
use Rattle.job.specs.declared.Record.{Record}
use Rattle.job.specs.declared.Record.TheVariants as rec
use Rattle.job.specs.Fields.{word2, word4, biased_of}
use Rattle.job.specs.Applies.{Kind, head, run, end, byte_of, size_of, Whole, Behind, number_at, coordinate_at}
use Rattle.job.specs.Records.{run_body, record_of}
use Rattle.job.proofs.Decoded.{CutAt, inside, before_end, UnknownAt, Says, record_says}

-- the run whose record stands at a place
abbrev pub run_at : List ℕ → ℕ → Run
run_at s p =
    record {
      number = number_at s p;
      x1 = coordinate_at s p 0;
      y1 = coordinate_at s p 1;
      x2 = coordinate_at s p 2;
      y2 = coordinate_at s p 3;
    }

-- what a record says of the place where it was decoded
abbrev pub There : List ℕ → ℕ → Record → Type 0
There s p rec.Unknown = UnknownAt s p
There s p rec.Cut = CutAt s p
There s p (rec.Head number) = Whole head s p
There s p (rec.Run r) = Whole run s p × (r ≡ run_at s p)
There s p (rec.End count) = Whole end s p × (count ≡ number_at s p)

module _ (s : List ℕ) (p : ℕ) where
  -- the byte at the place
  kind_there : get_or (drop p s) 0 0 ≡ get_or s p 0
  kind_there = get_or-drop p s 0 0 ∙ ap (λ (i : ℕ). get_or s i 0) (add-zero p)

  -- a byte of the body
  byte_there : (i q : ℕ) → q ≡ p + (1 + i) → get_or (drop 1 (drop p s)) i 0 ≡ get_or s q 0
  byte_there i q e = get_or-drop 1 (drop p s) i 0 ∙ get_or-drop p s (1 + i) 0 ∙ ap (λ (j : ℕ). get_or s j 0) (sym e)

  -- a number of two bytes in the body
  pub word2_there : (i q : ℕ) → q ≡ p + (1 + i) → word2 (drop 1 (drop p s)) i ≡ word2 s q
  word2_there i q e = λ j. byte_there i q e j + 256 * byte_there (i + 1) (q + 1) (omega arith) j

  -- a number of four
  pub word4_there : (i q : ℕ) → q ≡ p + (1 + i) → word4 (drop 1 (drop p s)) i ≡ word4 s q
  word4_there i q e = λ j.
      byte_there i q e j
      + 256 * byte_there (i + 1) (q + 1) (omega arith) j
      + 65536 * byte_there (i + 2) (q + 2) (omega arith) j
      + 16777216 * byte_there (i + 3) (q + 3) (omega arith) j

  -- a run in the body
  run_there : run_body (drop 1 (drop p s)) ≡ run_at s p
  run_there = λ j. record {
    number = word2_there 0 (p + 1) (omega arith) j;
    x1 = biased_of (word4_there 2 (p + 3 + 4 * 0) (omega arith) j);
    y1 = biased_of (word4_there 6 (p + 3 + 4 * 1) (omega arith) j);
    x2 = biased_of (word4_there 10 (p + 3 + 4 * 2) (omega arith) j);
    y2 = biased_of (word4_there 14 (p + 3 + 4 * 3) (omega arith) j);
  }

  module _ (within : p ≤ length s) where
    -- a whole record
    whole_there : (k : Kind) → get_or (drop p s) 0 0 ≡ byte_of k → size_of k ≤ length (drop 1 (drop p s)) + 1 → 1 < size_of k → Whole k s p
    whole_there k e l m =
        let a = length-drop 1 (drop p s) in
        let b = length-drop p s in
        ((omega arith, sym kind_there ∙ e), omega arith)

    -- bytes that end too soon
    cut_there : CutAt (drop p s) 0 → CutAt s p
    cut_there (inside k h l) =
        let b = length-drop p s in
        inside k (omega (arith, h.0), sym kind_there ∙ h.1) (omega (arith, h.0))
    cut_there (before_end e) = before_end (omega (arith, length-drop p s))

    -- a kind that is none
    unknown_there : UnknownAt (drop p s) 0 → UnknownAt s p
    unknown_there h = record { within = omega (arith, h.within, length-drop p s); none = λ k e. h.none k (kind_there ∙ e) }

    -- whichever record it is
    there_by : (g : Record) → Says (drop p s) g → There s p g
    there_by rec.Unknown h = unknown_there h
    there_by rec.Cut h = cut_there h
    there_by (rec.Head number) h = whole_there head h.0 (omega (arith, h.1)) (omega arith)
    there_by (rec.Run r) h = (whole_there run h.0 (omega (arith, h.1)) (omega arith), h.2 ∙ run_there)
    there_by (rec.End count) h = (whole_there end h.0 (omega (arith, h.1)) (omega arith), h.2 ∙ word2_there 0 (p + 1) (omega arith))

    -- what the decoded record says of its place
    pub there : There s p (record_of (drop p s))
    there = there_by (record_of (drop p s)) (record_says (drop p s))

-- the place behind the head and n runs is within the bytes, or at their end
pub behind_within : (s : List ℕ) (n p : ℕ) → Behind s n p → p ≤ length s
behind_within s zero p b = omega (arith, b.at, b.headed.1)
behind_within s (suc n) p b = omega (arith, b.at, (b.runs n (omega arith)).1)

-- kinds with one byte have one size
sizes_agree : (k j : Kind) → byte_of k ≡ byte_of j → size_of k ≡ size_of j
sizes_agree head head e = refl
sizes_agree head run e = absurd (omega arith)
sizes_agree head end e = absurd (omega arith)
sizes_agree run head e = absurd (omega arith)
sizes_agree run run e = refl
sizes_agree run end e = absurd (omega arith)
sizes_agree end head e = absurd (omega arith)
sizes_agree end run e = absurd (omega arith)
sizes_agree end end e = refl

-- the bytes do not end inside a whole record, nor before it
pub whole_uncut : (k : Kind) (s : List ℕ) (p : ℕ) → Whole k s p → CutAt s p → ⊥
whole_uncut k s p w (inside j h l) = omega (arith, w.1, sizes_agree k j (sym w.0.1 ∙ h.1))
whole_uncut k s p w (before_end e) = omega (arith, w.0.0)

-- its kind is known
pub whole_known : (k : Kind) (s : List ℕ) (p : ℕ) → Whole k s p → UnknownAt s p → ⊥
whole_known k s p w h = h.none k w.0.1

-- bytes that end too soon are of a known kind
pub cut_known : (s : List ℕ) (p : ℕ) → CutAt s p → UnknownAt s p → ⊥
cut_known s p (inside k h l) u = u.none k h.1
cut_known s p (before_end e) u = omega (arith, u.within)
