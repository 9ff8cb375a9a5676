-- A list of bytes is accepted as a job exactly if the job is well formed and the bytes are the job written down.
-- From the reading to the bytes: each record that is taken is its own bytes followed by the rest, so the bytes come together record by
-- record, with the runs in range and rising. The other way is `written_read`.
-- Assumes nothing.
use Prim.Native.Nat.{ℕ, zero, suc, ◌+◌, ◌*◌, ◌^◌, ◌<◌, ◌≤◌}
use mathlib.Core.Path.{◌≡◌, refl, sym, ap, ap₂, ◌∙◌}
use mathlib.Core.List.{List, [], ◌∷◌, ◌++◌}
use mathlib.Core.Logic.{◌↔◌}
use native.Mathlib.Omega.{arith}
use native.Mathlib.Nat.{add-zero, zero-add}
use lib.ListN.{length, drop, length-append, drop_of_length-le}
use Rattle.job.specs.declared.Run.{Run}
use Rattle.job.specs.declared.Record.{Record}
use Rattle.job.specs.declared.Record.TheVariants as rec
use Rattle.refusal.specs.declared.Refusal.{Refusal}
use Rattle.std.specs.Prelude.{Some, None, Ok, Err}
use Rattle.job.specs.Fields.{word4, biased_of, word_of}
use Rattle.job.specs.Records.{run_body, record_of}
use Rattle.job.specs.Parse.{Step, Parsed, accepted, refused, step_of, with_first, proceed, read_from, first_by, parse}
use Rattle.job.specs.Written.{bytes2, bytes4, run_bytes, runs_bytes, bytes_of, Bytes, WellFormed}
use Rattle.job.proofs.Signed.{word_of_biased}
use Rattle.job.proofs.Fields.{bytes_drop, bytes2_word, bytes4_word}
use Rattle.job.proofs.Decoded.{record_says}
use Rattle.job.proofs.Steps.{taken, ended}
use Rattle.job.proofs.Rising.{Rising, none, more, rising_well_formed}
use Rattle.job.proofs.Written.{written_read}

-- a number in four bytes has 32 bits
word4_fits : (b : List ℕ) (i : ℕ) → Bytes b → word4 b i < 2 ^ 32
word4_fits b i h = omega (arith, h i, h (i + 1), h (i + 2), h (i + 3))

-- the bytes of a coordinate that is read
coordinate_bytes : (b : List ℕ) (i : ℕ) → Bytes b → i + 4 ≤ length b → drop i b ≡ bytes4 (word_of (biased_of (word4 b i))) ++ drop (i + 4) b
coordinate_bytes b i h l = bytes4_word b i h l ∙ ap (λ w. bytes4 w ++ drop (i + 4) b) (sym (word_of_biased (word4 b i) (word4_fits b i h)))

-- a head record is its own bytes, then the rest
head_bytes : (bytes : List ℕ) (number : ℕ) → Bytes bytes → record_of bytes ≡ rec.Head number
    → (number < 2 ^ 32) × (bytes ≡ (0x48 ∷ bytes4 number) ++ drop 5 bytes)
head_bytes [] number h e = absurd (let says = rw e at (record_says []) in omega (arith, says.1))
head_bytes (kind ∷ b) number h e =
    let says = rw e at (record_says (kind ∷ b)) in
    let hb : Bytes b = λ i. h (suc i) in (
      rw says.2 (word4_fits b 0 hb),
      ap₂ {C = List ℕ} (λ k t. k ∷ t) says.0 (bytes4_word b 0 hb says.1 ∙ ap (λ v. bytes4 v ++ drop 4 b) (sym says.2)),
    )

-- a run record is its own bytes, then the rest
run_bytes_lem : (bytes : List ℕ) (r : Run) → Bytes bytes → record_of bytes ≡ rec.Run r → bytes ≡ run_bytes r ++ drop 19 bytes
run_bytes_lem [] r h e = absurd (let says = rw e at (record_says []) in omega (arith, says.1))
run_bytes_lem (kind ∷ b) r h e =
    let says = rw e at (record_says (kind ∷ b)) in
    let l = says.1 in
    let hb : Bytes b = λ i. h (suc i) in
    let q = run_body b in
    ap₂ {C = List ℕ} (λ k t. k ∷ t) says.0
    (bytes2_word b 0 hb (omega arith)
    ∙ ap (λ t. bytes2 q.number ++ t)
    (coordinate_bytes b 2 hb (omega arith)
    ∙ ap (λ t. bytes4 (word_of q.x1) ++ t)
    (coordinate_bytes b 6 hb (omega arith)
    ∙ ap (λ t. bytes4 (word_of q.y1) ++ t)
    (coordinate_bytes b 10 hb (omega arith) ∙ ap (λ t. bytes4 (word_of q.x2) ++ t) (coordinate_bytes b 14 hb (omega arith))))))
    ∙ ap (λ g. run_bytes g ++ drop 18 b) (sym says.2)

-- an end record with no byte after it is its own bytes
end_bytes : (bytes : List ℕ) (count : ℕ) → Bytes bytes → record_of bytes ≡ rec.End count → length bytes ≤ 3 → bytes ≡ 0x5A ∷ bytes2 count
end_bytes [] count h e l = absurd (let says = rw e at (record_says []) in omega (arith, says.1))
end_bytes (kind ∷ b) count h e l =
    let says = rw e at (record_says (kind ∷ b)) in
    let hb : Bytes b = λ i. h (suc i) in
    let over : length b ≤ 2 = omega arith in
    ap₂ {C = List ℕ} (λ k t. k ∷ t) says.0
    (bytes2_word b 0 hb says.1 ∙ rw (drop_of_length-le b over, says.2))

-- what an accepting reading says after n runs: of the runs still to come, and of the bytes from there on
record Rest (number n last : ℕ) (bytes : List ℕ) (number₁ : ℕ) (runs : List Run) : Type 0 where
  same : number ≡ number₁
  up : Rising last runs
  below : n + length runs ≤ 32
  written : bytes ≡ runs_bytes runs ++ (0x5A ∷ bytes2 (n + length runs))

-- a refusal is no acceptance
refused_accepted : (x : Refusal) (number : ℕ) (runs : List Run) → refused x ≡ accepted number runs → ⊥
refused_accepted x number runs e = let z : ◌≡◌ {A = ℕ} 0 1 = cc in omega arith

module _ (number : ℕ) (at n last : ℕ) (bytes : List ℕ) (h : Bytes bytes) (m : n ≤ 32) (number₁ : ℕ) where
  -- one more run, in front of those that the later records give
  rest_run : (r : Run) → step_of at n last bytes ≡ Ok (Some r) → (p : Parsed) (runs : List Run) → with_first r p ≡ accepted number₁ runs
      → ((qs : List Run) → n < 32 → p ≡ accepted number₁ qs → Rest number (suc n) r.number (drop 19 bytes) number₁ qs)
      → Rest number n last bytes number₁ runs
  unfolding runs_bytes
  rest_run r e (refused x) runs a later = absurd (refused_accepted x number₁ runs a)
  rest_run r e (accepted k qs) runs a later =
      let t = taken at n last bytes (record_of bytes) r e in
      let same : k ≡ number₁ = cc in
      let tail = later qs t.below (ap (λ (j : ℕ). accepted j qs) same) in
      let all : r ∷ qs ≡ runs = cc in
      let count : suc n + length qs ≡ n + suc (length qs) = omega arith in
      rw (← all)
      (record {
        same = tail.same;
        up = more t.rises t.range t.apart tail.up;
        below = omega (arith, tail.below);
        written = run_bytes_lem bytes r h t.is ∙ ap (λ l. run_bytes r ++ l) (tail.written ∙ rw count);
      })

  -- the end
  rest_end : step_of at n last bytes ≡ Ok None → (runs : List Run) → accepted number [] ≡ accepted number₁ runs → Rest number n last bytes number₁ runs
  unfolding runs_bytes
  rest_end e runs a =
      let t = ended at n last bytes (record_of bytes) e in
      let same : number ≡ number₁ = cc in
      let all : ◌≡◌ {A = List Run} [] runs = cc in
      rw (← all)
      (record {
        same = same;
        up = none;
        below = omega arith;
        written = end_bytes bytes n h t.is t.last ∙ rw (add-zero n);
      })

  -- whichever step it is
  rest_step : (later : Run → Parsed) (runs : List Run)
      → ((r : Run) (qs : List Run) → n < 32 → later r ≡ accepted number₁ qs → Rest number (suc n) r.number (drop 19 bytes) number₁ qs)
      → (t : Step) → step_of at n last bytes ≡ t → proceed number later t ≡ accepted number₁ runs → Rest number n last bytes number₁ runs
  rest_step later runs f (Ok (Some r)) e a = rest_run r e (later r) runs a (f r)
  rest_step later runs f (Ok None) e a = rest_end e runs a
  rest_step later runs f (Err x) e a = absurd (refused_accepted x number₁ runs a)

-- the same for the whole of what is left to read
rest_from_lem : (records number at n last : ℕ) (bytes : List ℕ) (number₁ : ℕ) (runs : List Run) → Bytes bytes → n ≤ 32
    → read_from records number at n last bytes ≡ accepted number₁ runs → Rest number n last bytes number₁ runs
unfolding read_from
rest_from_lem zero number at n last bytes number₁ runs h m e = absurd (refused_accepted _ number₁ runs e)
rest_from_lem (suc records) number at n last bytes number₁ runs h m e =
    rest_step number at n last bytes h m number₁ (λ r. read_from records number (at + 19) (suc n) r.number (drop 19 bytes)) runs
    (λ r qs b a. rest_from_lem records number (at + 19) (suc n) r.number (drop 19 bytes) number₁ qs (bytes_drop 19 bytes h) b a)
    (step_of at n last bytes) refl e

-- from an accepting reading to the job and its bytes, by the first record
read_written_by : (s : List ℕ) (number : ℕ) (runs : List Run) → Bytes s → (g : Record) → record_of s ≡ g → first_by g (drop 5 s) ≡ accepted number runs
    → WellFormed number runs × (s ≡ bytes_of number runs)
unfolding first_by bytes_of
read_written_by s number runs h rec.Unknown e a = absurd (refused_accepted _ number runs a)
read_written_by s number runs h rec.Cut e a = absurd (refused_accepted _ number runs a)
read_written_by s number runs h (rec.Run r) e a = absurd (refused_accepted _ number runs a)
read_written_by s number runs h (rec.End count) e a = absurd (refused_accepted _ number runs a)
read_written_by s number runs h (rec.Head k) e a =
    let rest = rest_from_lem 33 k 5 0 0 (drop 5 s) number runs (bytes_drop 5 s h) (omega arith) a in
    let head = head_bytes s number h (e ∙ ap rec.Head rest.same) in (
      rising_well_formed number runs head.0 (omega (arith, rest.below)) rest.up,
      head.1 ∙ ap (λ l. (0x48 ∷ bytes4 number) ++ l) (rest.written ∙ rw (zero-add (length runs))),
    )

-- a list of bytes is accepted as a job exactly if the job is well formed and the bytes are the job written down
pub accepted_iff : (s : List ℕ) (number : ℕ) (runs : List Run) → Bytes s
    → (parse s ≡ accepted number runs) ↔ (WellFormed number runs × (s ≡ bytes_of number runs))
unfolding parse
accepted_iff s number runs h = (
  λ e. read_written_by s number runs h (record_of s) refl e,
  λ w. ap parse w.1 ∙ written_read number runs w.0,
)

-- a written run has 19 bytes
pub runs_length : (runs : List Run) → length (runs_bytes runs) ≡ 19 * length runs
unfolding runs_bytes
runs_length [] = refl
runs_length (r ∷ runs) = omega (arith, runs_length runs)

-- a written job has 8 bytes, and 19 for each run
pub written_length : (number : ℕ) (runs : List Run) → length (bytes_of number runs) ≡ 8 + 19 * length runs
unfolding bytes_of
written_length number runs = omega (arith, length-append (runs_bytes runs) (0x5A ∷ bytes2 (length runs)), runs_length runs)

-- an accepted job is well formed
pub accepted_well_formed : (s : List ℕ) (number : ℕ) (runs : List Run) → Bytes s → parse s ≡ accepted number runs → WellFormed number runs
accepted_well_formed s number runs h e = ((accepted_iff s number runs h).0 e).0

-- an accepted job has 8 bytes, and 19 for each run
pub accepted_length : (s : List ℕ) (number : ℕ) (runs : List Run) → Bytes s → parse s ≡ accepted number runs → length s ≡ 8 + 19 * length runs
accepted_length s number runs h e = ap length ((accepted_iff s number runs h).0 e).1 ∙ written_length number runs
