-- Reading what is written: the bytes of a well formed job are read back as the job.
-- Assumes nothing.
use Prim.Native.Nat.{ℕ, zero, suc, ◌+◌, ◌^◌, ◌<◌, ◌≤◌}
use mathlib.Core.Path.{◌≡◌, refl, ap, ◌∙◌}
use mathlib.Core.List.{List, [], ◌∷◌, ◌++◌}
use native.Mathlib.Omega.{arith}
use native.Mathlib.Nat.{add-zero, zero-add}
use borrow.Author.Tests.{lt-ltb, le-ltb, le-leb, lt-leb, eq-eqb}
use lib.ListN.{length, drop}
use Rattle.job.specs.declared.Run.{Run}
use Rattle.job.specs.declared.Record.TheVariants as rec
use Rattle.std.specs.Prelude.{Some, None, Ok}
use Rattle.job.specs.Fields.{word4, biased_of, word_of}
use Rattle.job.specs.Records.{decoded, record_of}
use Rattle.job.specs.Parse.{accepted, run_step, end_step, step_by, step_of, with_first, proceed, read_from, first_by, parse}
use Rattle.job.specs.Written.{bytes2, bytes4, run_bytes, runs_bytes, bytes_of, InRange, Coincide, WellFormed}
use Rattle.job.proofs.Signed.{biased_of_word}
use Rattle.job.proofs.Fields.{word2_bytes, word4_bytes}
use Rattle.job.proofs.Steps.{apart_tested}
use Rattle.job.proofs.Rising.{Rising, none, more, well_formed_rising}

-- a written coordinate is read back
coordinate_back : (c : ℕ) → c ≤ 2000000 → (rest : List ℕ) → biased_of (word4 (bytes4 (word_of c) ++ rest) 0) ≡ c
coordinate_back c h rest = ap biased_of (word4_bytes (word_of c) (omega arith) rest) ∙ biased_of_word c h

-- a head record is read back
head_back : (number : ℕ) → number < 2 ^ 32 → (rest : List ℕ) → record_of ((0x48 ∷ bytes4 number) ++ rest) ≡ rec.Head number
unfolding record_of decoded
head_back number h rest =
    rw (le-ltb (length (bytes4 number ++ rest)) 4 (omega arith)) (ap rec.Head (word4_bytes number h rest))

-- a run record is read back
run_back : (r : Run) → InRange r → (rest : List ℕ) → record_of (run_bytes r ++ rest) ≡ rec.Run r
unfolding record_of decoded
run_back r h rest =
    rw (le-ltb (length (drop 1 (run_bytes r ++ rest))) 18 (omega arith))
    (λ i. rec.Run (record {
      number = word2_bytes r.number (omega (arith, h.most)) [] i;
      x1 = coordinate_back r.x1 h.x1_in [] i;
      y1 = coordinate_back r.y1 h.y1_in [] i;
      x2 = coordinate_back r.x2 h.x2_in [] i;
      y2 = coordinate_back r.y2 h.y2_in [] i;
    }))

-- an end record is read back
end_back : (n : ℕ) → n < 65536 → record_of (0x5A ∷ bytes2 n) ≡ rec.End n
unfolding record_of decoded
end_back n h = ap rec.End (word2_bytes n h [])

-- a run in range and between two points, with a number above the last and fewer than 32 before it, is taken
run_taken : (at n last : ℕ) (r : Run) → n < 32 → last < r.number → InRange r → (Coincide r → ⊥) → run_step at n last r ≡ Ok (Some r)
unfolding run_step
run_taken at n last r below up h apart =
    simp (
      lt-leb 32 n below,
      le-leb 1 r.number h.least,
      le-leb r.number 9999 h.most,
      lt-ltb last r.number up,
      le-leb r.x1 2000000 h.x1_in,
      le-leb r.y1 2000000 h.y1_in,
      le-leb r.x2 2000000 h.x2_in,
      le-leb r.y2 2000000 h.y2_in,
      apart_tested r apart,
    )

-- an end with the count of the runs before it, and no byte after it, is reached
end_reached : (at n : ℕ) (bytes : List ℕ) → length bytes ≤ 3 → end_step at n n bytes ≡ Ok None
unfolding end_step
end_reached at n bytes last = simp (eq-eqb n n refl, le-ltb 3 (length bytes) last)

-- a written run is taken
step_taken : (at n last : ℕ) (r : Run) (rest : List ℕ) → n < 32 → last < r.number → InRange r → (Coincide r → ⊥) → step_of at n last (run_bytes r ++ rest) ≡ Ok (Some r)
unfolding step_by
step_taken at n last r rest below up h apart = ap (step_by at n last (run_bytes r ++ rest)) (run_back r h rest) ∙ run_taken at n last r below up h apart

-- a written end is reached
step_reached : (at n last : ℕ) → n ≤ 32 → step_of at n last (0x5A ∷ bytes2 n) ≡ Ok None
unfolding step_by
step_reached at n last most =
    ap (step_by at n last (0x5A ∷ bytes2 n)) (end_back n (omega arith)) ∙ end_reached at n (0x5A ∷ bytes2 n) (omega arith)

-- runs that rise, and the end after them, are read back after n runs
runs_back : (records number at n last : ℕ) (runs : List Run) → Rising last runs → length runs < records → n + length runs ≤ 32
    → read_from records number at n last (runs_bytes runs ++ (0x5A ∷ bytes2 (n + length runs))) ≡ accepted number runs
unfolding read_from runs_bytes
runs_back zero number at n last runs up fuel below = absurd (omega arith)
runs_back (suc records) number at n last [] none fuel below =
    rw (add-zero n) (ap (proceed number _) (step_reached at n last (omega arith)))
runs_back (suc records) number at n last (r ∷ runs) (more rises range apart rest) fuel below =
    let e : n + suc (length runs) ≡ suc n + length runs = omega arith in
    rw e
    (ap (proceed number _) (step_taken at n last r (runs_bytes runs ++ (0x5A ∷ bytes2 (suc n + length runs))) (omega arith) rises range apart)
    ∙ ap (with_first r) (runs_back records number (at + 19) (suc n) r.number runs rest (omega arith) (omega arith)))

-- the head of a job that is written is read, and its records are then read on
pub behind_head : (number : ℕ) (runs : List Run) → number < 2 ^ 32
    → parse (bytes_of number runs) ≡ read_from 33 number 5 0 0 (runs_bytes runs ++ (0x5A ∷ bytes2 (length runs)))
unfolding parse first_by bytes_of
behind_head number runs h =
    let rest = runs_bytes runs ++ (0x5A ∷ bytes2 (length runs)) in
    ap (λ g. first_by g rest) (head_back number h rest)

-- the bytes of a well formed job are read as that job
pub written_read : (number : ℕ) (runs : List Run) → WellFormed number runs → parse (bytes_of number runs) ≡ accepted number runs
written_read number runs w =
    behind_head number runs w.fits
    ∙ rw (zero-add (length runs)) at (runs_back 33 number 5 0 0 runs (well_formed_rising number runs w) (omega (arith, w.most)) (omega (arith, w.most)))
