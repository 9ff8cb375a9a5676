-- How many bytes the record takes that they begin with.
use mathlib.Core.Path.{◌≡◌, refl}
use mathlib.Core.List.{List, [], ◌∷◌}
use Prim.Native.Nat.{ℕ, suc, ◌-◌, ◌≤◌}
use native.Mathlib.Omega.{arith}
use borrow.Author.Tests.{ltb-false}
use lib.Dec.{ltb, eqb}
use lib.ListN.{length}
use Rattle.job.proofs.Decoded.{by_test}
use Rattle.plan.specs.Records.{route_size}
use Rattle.records.specs.Records.{whole, decoded, record_of}
use Rattle.text.specs.Listing.{record_size}
use Rattle.records.specs.declared.Record.{Record}
use Rattle.records.specs.declared.Record.TheVariants as rec

-- a record passes over some of the bytes that are left, where there are any, and over no more
pub record Passes (left : ℕ) (r : Record) : Type 0 where
  pub some : left - record_size r left ≤ left - 1
  pub most : record_size r left ≤ left

-- what is no record passes over all
passes_all : (left : ℕ) → Passes left rec.Other
unfolding record_size
passes_all left = record { some = omega arith; most = omega arith }

-- a body of so many bytes, or none
passes_whole : (size : ℕ) (b : List ℕ) (r : Record) → record_size r (suc (length b)) ≡ suc size → Passes (suc (length b)) (whole size b r)
passes_whole size b r e =
    by_test (Passes (suc (length b))) (ltb (length b) size) (λ _. passes_all (suc (length b)))
    (λ l. let h : size ≤ length b = ltb-false (length b) size l in record { some = omega arith; most = omega arith })

-- a record of any kind
decoded_passes : (kind : ℕ) (b : List ℕ) → Passes (suc (length b)) (decoded kind b)
unfolding decoded record_size route_size
decoded_passes kind b =
    let P = Passes (suc (length b)) in
    by_test P (eqb kind 0x51) (λ _. passes_whole 18 b _ refl)
    (λ _. by_test P (eqb kind 0x50) (λ _. passes_whole 18 b _ refl)
    (λ _. by_test P (eqb kind 0x4F) (λ _. passes_whole 8 b _ refl)
    (λ _. by_test P (eqb kind 0x4E) (λ _. passes_whole 6 b _ refl)
    (λ _. by_test P (eqb kind 0x43) (λ _. passes_whole 8 b _ refl)
    (λ _. by_test P (eqb kind 0x5A)
    (λ _. by_test P (ltb (length b) 2) (λ _. passes_all (suc (length b))) (λ _. record { some = omega arith; most = omega arith }))
    (λ _. passes_all (suc (length b))))))))

-- the record that the bytes begin with
pub record_passes : (bytes : List ℕ) → Passes (length bytes) (record_of bytes)
unfolding record_of
record_passes [] = passes_all 0
record_passes (kind ∷ b) = decoded_passes kind b
