-- The record that bytes begin with, read as document 01's "Plan book" and document 02's C-16 write it; `Other` where they begin with no whole record of the
-- six kinds.
use Rattle.std.specs.Prelude.{Bool, true, false, cond, List, [], ◌∷◌, ℕ, length, ltb, eqb}
use Rattle.job.specs.Fields.{word2, word4}
use Rattle.plan.specs.declared.Head.{Head}
use Rattle.records.specs.declared.Record.{Record}
use Rattle.records.specs.declared.Record.TheVariants as rec

-- the head in the 18 bytes of a body
abbrev pub head_body : (grouped : Bool) → List ℕ → Head
head_body grouped b =
    record {
      grouped = grouped;
      job = word4 b 0;
      runs = word2 b 4;
      trench = word4 b 6;
      saved = word4 b 10;
      pits = word2 b 14;
      last = word2 b 16;
    }

-- a record whose body has so many bytes, unless the bytes end before that
abbrev pub whole : ℕ → List ℕ → Record → Record
whole size bytes r = cond (ltb (length bytes) size) rec.Other r

-- a route, in the 8 bytes of a body, or an older one in 6; this one tells no centre, which is read as 0
abbrev pub route_body : (grouped : Bool) → List ℕ → Record
route_body true b = whole 8 b (rec.Route true (word2 b 0) (word2 b 2) (word2 b 4) (word2 b 6))
route_body false b = whole 6 b (rec.Route false (word2 b 0) (word2 b 2) (word2 b 4) 0)

-- the record of a kind, its body being what the bytes begin with
unfoldable pub decoded : (kind : ℕ) → List ℕ → Record
decoded kind bytes =
    cond (eqb kind 0x51) (whole 18 bytes (rec.Head (head_body true bytes)))
    (cond (eqb kind 0x50) (whole 18 bytes (rec.Head (head_body false bytes)))
    (cond (eqb kind 0x4F) (route_body true bytes)
    (cond (eqb kind 0x4E) (route_body false bytes)
    (cond (eqb kind 0x43) (whole 8 bytes (rec.Corner (word4 bytes 0) (word4 bytes 4)))
    (cond (eqb kind 0x5A) (whole 2 bytes (rec.End (word2 bytes 0))) rec.Other)))))

-- the record that the bytes begin with
unfoldable pub record_of : List ℕ → Record
record_of [] = rec.Other
record_of (kind ∷ bytes) = decoded kind bytes
