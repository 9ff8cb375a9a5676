-- The numbers of a list and what a job holds of them.
-- Assumes nothing.
use Prim.Native.Nat.{ℕ, suc, ◌-◌, ◌<◌, ◌≤◌}
use mathlib.Core.Path.{◌≡◌, refl, ap, ◌∙◌}
use mathlib.Core.Bool.{true, ◌&&◌, and-eq-true_iff}
use native.Mathlib.Omega.{arith}
use native.Mathlib.Decide.{dec_lt}
use borrow.Author.Tests.{lt-ltb, le-ltb, le-leb, ltb-true, leb-true}
use lib.IntN.{ℤ, pos, negsuc, nat_abs, ◌+ℤ◌, ◌-ℤ◌, +ℤ-neg_ℤ_cancel, -ℤ-+ℤ_cancel}
use lib.Dec.{T, leb, ltb}
use lib.Signed.{mag, le_z, lt_z, non_neg}
use mir.Syntax.{w32}
use mir.Val.{to_z, of_z}
use mir.ValLaws.{to_z-of_z}
use Rattle.job.specs.Fields.{decimetres}
use Rattle.job_writer.specs.Listed.{biased, follows, in_range}

-- a signed number is read back from its word
pub word_back : (z : ℤ) → mag z < 2147483648 → to_z w32 (of_z w32 z) ≡ z
word_back z h = to_z-of_z w32 z (record { sfits = h })

-- ---- coordinates

-- a coordinate in its range, as a job holds it
pub record Held (z : ℤ) : Type 0 where
  pub sum : pos (biased z) ≡ z +ℤ pos 1000000
  pub most : biased z ≤ 2000000

pub in_range_true : (z : ℤ) → in_range z ≡ true → Held z
in_range_true (pos n) t = record { sum = refl; most = omega (arith, leb-true n 1000000 t) }
in_range_true (negsuc n) t =
    let h = leb-true n 999999 ((and-eq-true_iff _ _).0 t).0 in
    let e = le-ltb 1000000 (suc n) (omega arith) in
    record { sum = rw e refl; most = rw e (omega arith) }

-- and its decimetres
pub held_decimetres : (z : ℤ) → Held z → decimetres (biased z) ≡ z
held_decimetres z h = ap (λ k. k -ℤ pos 1000000) h.sum ∙ +ℤ-neg_ℤ_cancel z (pos 1000000)

-- the decimetres of what a job holds
pub biased_decimetres : (c : ℕ) → biased (decimetres c) ≡ c
biased_decimetres c = ap nat_abs (-ℤ-+ℤ_cancel (pos c) (pos 1000000))

pub true_in_range : (c : ℕ) → c ≤ 2000000 → in_range (decimetres c) ≡ true
true_in_range c h = go (dec_lt c 1000000)
  where
    go : Dec (c < 1000000) → in_range (decimetres c) ≡ true
    go (yes l) = rw (lt-ltb c 1000000 l) (rw (le-leb (1000000 - suc c) 999999 (omega arith)) refl)
    go (no l) = rw (le-ltb c 1000000 (omega arith)) (le-leb (c - 1000000) 1000000 (omega arith))

-- ---- run numbers

-- a number from 1 on is not below 0
pub positive : (z : ℤ) → le_z (pos 1) z ≡ true → T (non_neg z)
positive (pos n) t = tt
positive (negsuc n) t = absurd (let z : ◌≡◌ {A = ℕ} 0 1 = cc in omega arith)

-- a run number that follows another, whatever that is, is from 1 on
pub follows_least : (last z : ℤ) → follows last z ≡ true → le_z (pos 1) z ≡ true
follows_least last z t =
    ((and-eq-true_iff (le_z (pos 1) z) (le_z z (pos 9999))).0 ((and-eq-true_iff (le_z (pos 1) z && le_z z (pos 9999)) (lt_z last z)).0 t).0).0

-- a number that comes behind a number that is not below 0
pub record Follows (last : ℕ) (z : ℤ) : Type 0 where
  pub least : 1 ≤ nat_abs z
  pub most : nat_abs z ≤ 9999
  pub rises : last < nat_abs z
  pub same : pos (nat_abs z) ≡ z

pub follows_true : (last : ℕ) (z : ℤ) → follows (pos last) z ≡ true → Follows last z
follows_true last (pos n) t =
    let f = (and-eq-true_iff (leb 1 n && leb n 9999) (ltb last n)).0 t in
    let g = (and-eq-true_iff (leb 1 n) (leb n 9999)).0 f.0 in
    record { least = leb-true _ _ g.0; most = leb-true _ _ g.1; rises = ltb-true _ _ f.1; same = refl }
follows_true last (negsuc n) t = absurd (positive (negsuc n) (follows_least (pos last) (negsuc n) t))

pub true_follows : (last n : ℕ) → 1 ≤ n → n ≤ 9999 → last < n → follows (pos last) (pos n) ≡ true
true_follows last n a b c = simp (le-leb 1 n a, le-leb n 9999 b, lt-ltb last n c)
