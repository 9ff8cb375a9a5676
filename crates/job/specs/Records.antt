-- Decoding a record, as `Parse` does: one byte of kind, then a body whose length the kind fixes (document 01, "Job book").
-- Assumes nothing.
use Rattle.std.specs.Prelude.{ℕ, List, [], ◌∷◌, cond, length, ltb, eqb}
use Rattle.job.specs.Fields.{word2, word4, biased_of}
use Rattle.job.specs.declared.Run.{Run}
use Rattle.job.specs.declared.Record.{Record}
use Rattle.job.specs.declared.Record.TheVariants as rec

-- the run in the 18 bytes of a body
abbrev pub run_body : List ℕ → Run
run_body b =
    record {
      number = word2 b 0;
      x1 = biased_of (word4 b 2);
      y1 = biased_of (word4 b 6);
      x2 = biased_of (word4 b 10);
      y2 = biased_of (word4 b 14);
    }

-- a record whose body has so many bytes, unless the bytes end before that
abbrev pub sized : ℕ → List ℕ → Record → Record
sized size bytes r = cond (ltb (length bytes) size) rec.Cut r

-- the record of a kind, its body being what the bytes begin with
unfoldable pub decoded : (kind : ℕ) → List ℕ → Record
decoded kind bytes =
    cond (eqb kind 0x48) (sized 4 bytes (rec.Head (word4 bytes 0)))
    (cond (eqb kind 0x52) (sized 18 bytes (rec.Run (run_body bytes)))
    (cond (eqb kind 0x5A) (sized 2 bytes (rec.End (word2 bytes 0))) rec.Unknown))

-- the record that the bytes begin with; where no byte is left, the record is cut
unfoldable pub record_of : List ℕ → Record
record_of [] = rec.Cut
record_of (kind ∷ bytes) = decoded kind bytes
