-- The record that bytes begin with: a written record is read back, what is read is its own bytes, then the rest, and its fields fit.
use mathlib.Core.Path.{◌≡◌, refl, sym, ap, ◌∙◌}
use mathlib.Core.Bool.{Bool, true, false, cond}
use mathlib.Core.List.{List, [], ◌∷◌, ◌++◌}
use Prim.Native.Nat.{ℕ, suc, ◌+◌, ◌^◌, ◌≤◌, ◌<◌}
use native.Mathlib.Omega.{arith}
use borrow.Author.Tests.{le-ltb, ltb-false, eqb-true}
use lib.Dec.{ltb, eqb}
use lib.ListN.{length, get_or, drop}
use Rattle.network.specs.Plane.{Point}
use Rattle.job.specs.Fields.{word2, word4, word_of}
use Rattle.job.specs.Written.{bytes2, bytes4, Bytes}
use Rattle.job.proofs.Fields.{bytes2_word, bytes4_word, word2_bytes, word4_bytes}
use Rattle.job.proofs.Decoded.{by_test}
use Rattle.plan.specs.declared.Head.{Head}
use Rattle.plan.specs.Records.{head_record, route_record, route_size, corner_record, end_record}
use Rattle.plan.specs.Fits.{HeadFits, CentreFits}
use Rattle.records.specs.Records.{head_body, whole, decoded, record_of}
use Rattle.records.specs.declared.Record.{Record}
use Rattle.records.specs.declared.Record.TheVariants as rec

-- where no byte is left there is no record
pub record_none : (bytes : List ℕ) → length bytes ≡ 0 → rec.Other ≡ record_of bytes
unfolding record_of
record_none [] h = refl
record_none (b ∷ bytes) h = absurd (omega arith)

-- else it is that of the first byte's kind
pub record_some : (bytes : List ℕ) → 0 < length bytes → decoded (get_or bytes 0 0) (drop 1 bytes) ≡ record_of bytes
unfolding record_of
record_some [] h = absurd (omega arith)
record_some (b ∷ bytes) h = refl

-- ---- a written record is read back

-- a body that is long enough is read as its kind says
whole_read : (size : ℕ) (b : List ℕ) (r : Record) → size ≤ length b → whole size b r ≡ r
whole_read size b r h = rw (le-ltb (length b) size h)

-- the kind of a head
head_kind : (g : Bool) (b : List ℕ) → decoded (cond g 0x51 0x50) b ≡ whole 18 b (rec.Head (head_body g b))
unfolding decoded
head_kind true b = refl
head_kind false b = refl

-- a head
pub head_read : (h : Head) (rest : List ℕ) → HeadFits h → record_of (head_record h ++ rest) ≡ rec.Head h
unfolding record_of
head_read h rest f =
    head_kind h.grouped (drop 1 (head_record h ++ rest)) ∙ whole_read 18 (drop 1 (head_record h ++ rest)) _ (omega arith)
    ∙ λ i. rec.Head (record {
      grouped = h.grouped;
      job = word4_bytes h.job f.job_fits [] i;
      runs = word2_bytes h.runs f.runs_fits [] i;
      trench = word4_bytes h.trench f.trench_fits [] i;
      saved = word4_bytes h.saved f.saved_fits [] i;
      pits = word2_bytes h.pits f.pits_fits [] i;
      last = word2_bytes h.last f.last_fits [] i;
    })

-- a route
pub route_read : (g : Bool) (number meets corners centre : ℕ) (rest : List ℕ) → number < 65536 → meets < 65536 → corners < 65536 → CentreFits g centre
    → record_of (route_record g number meets corners centre ++ rest) ≡ rec.Route g number meets corners centre
unfolding record_of decoded
route_read true number meets corners centre rest f g h k =
    whole_read 8 (drop 1 (route_record true number meets corners centre ++ rest)) _ (omega arith)
    ∙ λ i. rec.Route true (word2_bytes number f [] i) (word2_bytes meets g [] i) (word2_bytes corners h [] i) (word2_bytes centre k [] i)
route_read false number meets corners centre rest f g h k =
    whole_read 6 (drop 1 (route_record false number meets corners centre ++ rest)) _ (omega arith)
    ∙ λ i. rec.Route false (word2_bytes number f [] i) (word2_bytes meets g [] i) (word2_bytes corners h [] i) (sym k i)

-- a corner, as words
pub corner_read : (p : Point) (rest : List ℕ) → record_of (corner_record p ++ rest) ≡ rec.Corner (word_of p.x) (word_of p.y)
unfolding record_of decoded
corner_read p rest =
    whole_read 8 (drop 1 (corner_record p ++ rest)) _ (omega arith)
    ∙ λ i. rec.Corner (word4_bytes (word_of p.x) (omega arith) [] i) (word4_bytes (word_of p.y) (omega arith) [] i)

-- an end, whatever its count; the lower two bytes of it are read
pub end_kind : (corners : ℕ) (rest : List ℕ) → record_of (end_record corners ++ rest) ≡ rec.End (word2 (bytes2 corners) 0)
unfolding record_of decoded
end_kind corners rest = whole_read 2 (drop 1 (end_record corners ++ rest)) _ (omega arith)

pub end_read : (corners : ℕ) (rest : List ℕ) → corners < 65536 → record_of (end_record corners ++ rest) ≡ rec.End corners
end_read corners rest f = end_kind corners rest ∙ ap rec.End (word2_bytes corners f [])

-- ---- a record that is read is its own bytes, then the rest

module _ (b : List ℕ) (h : Bytes b) where
  head_bytes : (g : Bool) → 18 ≤ length b → cond g 0x51 0x50 ∷ b ≡ head_record (head_body g b) ++ drop 18 b
  head_bytes g l =
      ap (λ t. cond g 0x51 0x50 ∷ t)
      (bytes4_word b 0 h (omega arith)
      ∙ ap (λ t. bytes4 (word4 b 0) ++ t)
      (bytes2_word b 4 h (omega arith)
      ∙ ap (λ t. bytes2 (word2 b 4) ++ t)
      (bytes4_word b 6 h (omega arith)
      ∙ ap (λ t. bytes4 (word4 b 6) ++ t)
      (bytes4_word b 10 h (omega arith)
      ∙ ap (λ t. bytes4 (word4 b 10) ++ t)
      (bytes2_word b 14 h (omega arith) ∙ ap (λ t. bytes2 (word2 b 14) ++ t) (bytes2_word b 16 h (omega arith)))))))

  -- the three fields that a route of either kind begins with
  fields_bytes : 6 ≤ length b → b ≡ (bytes2 (word2 b 0) ++ bytes2 (word2 b 2) ++ bytes2 (word2 b 4)) ++ drop 6 b
  fields_bytes l =
      bytes2_word b 0 h (omega arith)
      ∙ ap (λ t. bytes2 (word2 b 0) ++ t) (bytes2_word b 2 h (omega arith) ∙ ap (λ t. bytes2 (word2 b 2) ++ t) (bytes2_word b 4 h (omega arith)))

  newer_bytes : 8 ≤ length b → 0x4F ∷ b ≡ route_record true (word2 b 0) (word2 b 2) (word2 b 4) (word2 b 6) ++ drop 8 b
  newer_bytes l =
      ap (λ t. 0x4F ∷ t)
      (fields_bytes (omega arith)
      ∙ ap (λ t. (bytes2 (word2 b 0) ++ bytes2 (word2 b 2) ++ bytes2 (word2 b 4)) ++ t) (bytes2_word b 6 h (omega arith)))

  older_bytes : 6 ≤ length b → 0x4E ∷ b ≡ route_record false (word2 b 0) (word2 b 2) (word2 b 4) 0 ++ drop 6 b
  older_bytes l = ap (λ t. 0x4E ∷ t) (fields_bytes l)

  corner_bytes : 8 ≤ length b → 0x43 ∷ b ≡ (0x43 ∷ bytes4 (word4 b 0) ++ bytes4 (word4 b 4)) ++ drop 8 b
  corner_bytes l = ap (λ t. 0x43 ∷ t) (bytes4_word b 0 h (omega arith) ∙ ap (λ t. bytes4 (word4 b 0) ++ t) (bytes4_word b 4 h (omega arith)))

  end_bytes : 2 ≤ length b → 0x5A ∷ b ≡ end_record (word2 b 0) ++ drop 2 b
  end_bytes l = ap (λ t. 0x5A ∷ t) (bytes2_word b 0 h (omega arith))

-- the bytes begin with the record
abbrev pub Says : List ℕ → Record → Type 0
Says b (rec.Head h) = b ≡ head_record h ++ drop 19 b
Says b (rec.Route g number meets corners centre) = b ≡ route_record g number meets corners centre ++ drop (route_size g) b
Says b (rec.Corner x y) = b ≡ (0x43 ∷ bytes4 x ++ bytes4 y) ++ drop 9 b
Says b (rec.End corners) = b ≡ end_record corners ++ drop 3 b
Says b rec.Other = Unit {0}

-- a record of its kind, whole
kinded : (kind k size : ℕ) (b : List ℕ) (g : Record) → eqb kind k ≡ true → (size ≤ length b → Says (k ∷ b) g) → Says (kind ∷ b) (whole size b g)
kinded kind k size b g t s =
    by_test (Says (kind ∷ b)) (ltb (length b) size) (λ _. tt) (λ l. rw (eqb-true kind k t) (s (ltb-false (length b) size l)))

-- a record of any kind
decoded_says : (kind : ℕ) (b : List ℕ) → Bytes b → Says (kind ∷ b) (decoded kind b)
unfolding decoded route_size
decoded_says kind b h =
    let P = Says (kind ∷ b) in
    by_test P (eqb kind 0x51) (λ t. kinded kind 0x51 18 b _ t (head_bytes b h true))
    (λ _. by_test P (eqb kind 0x50) (λ t. kinded kind 0x50 18 b _ t (head_bytes b h false))
    (λ _. by_test P (eqb kind 0x4F) (λ t. kinded kind 0x4F 8 b _ t (newer_bytes b h))
    (λ _. by_test P (eqb kind 0x4E) (λ t. kinded kind 0x4E 6 b _ t (older_bytes b h))
    (λ _. by_test P (eqb kind 0x43) (λ t. kinded kind 0x43 8 b _ t (corner_bytes b h))
    (λ _. by_test P (eqb kind 0x5A) (λ t. kinded kind 0x5A 2 b _ t (end_bytes b h)) (λ _. tt))))))

-- the record that the bytes begin with
pub record_says : (bytes : List ℕ) → Bytes bytes → Says bytes (record_of bytes)
unfolding record_of
record_says [] h = tt
record_says (kind ∷ b) h = decoded_says kind b (λ i. h (suc i))

-- ---- the fields of a record that is read fit

abbrev pub Fits : Record → Type 0
Fits (rec.Head h) = HeadFits h
Fits (rec.Route g number meets corners centre) = (number < 65536) × (meets < 65536) × CentreFits g centre
Fits (rec.Corner x y) = (x < 2 ^ 32) × (y < 2 ^ 32)
Fits (rec.End corners) = Unit {0}
Fits rec.Other = Unit {0}

word2_fits : (b : List ℕ) (i : ℕ) → Bytes b → word2 b i < 65536
word2_fits b i h = omega (arith, h i, h (i + 1))

word4_fits : (b : List ℕ) (i : ℕ) → Bytes b → word4 b i < 2 ^ 32
word4_fits b i h = omega (arith, h i, h (i + 1), h (i + 2), h (i + 3))

whole_fits : (size : ℕ) (b : List ℕ) (g : Record) → Fits g → Fits (whole size b g)
whole_fits size b g f = by_test Fits (ltb (length b) size) (λ _. tt) (λ _. f)

head_fits : (g : Bool) (b : List ℕ) → Bytes b → HeadFits (head_body g b)
head_fits g b h =
    record {
      job_fits = word4_fits b 0 h;
      runs_fits = word2_fits b 4 h;
      trench_fits = word4_fits b 6 h;
      saved_fits = word4_fits b 10 h;
      pits_fits = word2_fits b 14 h;
      last_fits = word2_fits b 16 h;
    }

decoded_fits : (kind : ℕ) (b : List ℕ) → Bytes b → Fits (decoded kind b)
unfolding decoded
decoded_fits kind b h =
    by_test Fits (eqb kind 0x51) (λ _. whole_fits 18 b _ (head_fits true b h))
    (λ _. by_test Fits (eqb kind 0x50) (λ _. whole_fits 18 b _ (head_fits false b h))
    (λ _. by_test Fits (eqb kind 0x4F) (λ _. whole_fits 8 b _ (word2_fits b 0 h, word2_fits b 2 h, word2_fits b 6 h))
    (λ _. by_test Fits (eqb kind 0x4E) (λ _. whole_fits 6 b _ (word2_fits b 0 h, word2_fits b 2 h, refl))
    (λ _. by_test Fits (eqb kind 0x43) (λ _. whole_fits 8 b _ (word4_fits b 0 h, word4_fits b 4 h))
    (λ _. by_test Fits (eqb kind 0x5A) (λ _. whole_fits 2 b _ tt) (λ _. tt))))))

pub record_fits : (bytes : List ℕ) → Bytes bytes → Fits (record_of bytes)
unfolding record_of
record_fits [] h = tt
record_fits (kind ∷ b) h = decoded_fits kind b (λ i. h (suc i))
