-- What C is told of a plan book, of a job book that is written, and of two plan books of a job.
use mathlib.Core.Path.{◌≡◌, refl, sym, ap, ◌∙◌}
use mathlib.Core.List.{List}
use Prim.Native.Nat.{ℕ, zero, suc, ◌≤◌}
use native.Mathlib.Omega.{arith}
use lib.IntN.{pos, neg_ℤ}
use Rattle.refusal.specs.Refusal.{refusal_number, refusal_place}
use Rattle.refusal.specs.declared.Refusal.{Refusal}
use Rattle.refusal.proofs.Numbers.{refusal_numbers}
use Rattle.std.specs.Prelude.{Result, Ok, Err, MatchResult, IsOkAnd}
use Rattle.job.specs.Reading.{Answer, answer_place}
use Rattle.job_writer.specs.Call.{call_by}
use Rattle.planner.specs.Call.{said, code_of as code_said}
use Rattle.planner.specs.Stages.{Short}
use Rattle.book.specs.declared.Reading.{Reading}
use Rattle.book.specs.Parse.{Parsed, accepted, refused, parse_plan}
use Rattle.book.specs.Reading.{reading_of}
use Rattle.book.proofs.Accepted.{accepted_routes, reading_accepted, reading_refused}
use Rattle.choice.specs.declared.Chosen.TheVariants.{First, Second}
use Rattle.choice.specs.Choice.{Choice}
use Rattle.trench.specs.Told.{code_of, place_of}
use Rattle.trench.specs.Jobs.{outcome_code, outcome_place}
use Rattle.trench.specs.Chosen.{choice_code}

-- the place of an answer is that of the call which it makes
pub place_by : (a : Answer) (book out : List ℕ) → outcome_place (call_by a book out).says ≡ answer_place a
place_by (Ok _) book out = refl
place_by (Err x) book out = refl

-- a length that is small enough can be said
pub short_said : (r : Result ℕ Refusal) → ((n : ℕ) → r ≡ Ok n → n ≤ 36886) → Short (said r)
short_said (Ok n) h = h n refl
short_said (Err x) h = tt

-- ---- a result of which one number is taken

module _ {T : Type 0} {Q : T → ℕ → Type 0} where
  -- it can be said where the number is small enough
  pub short_mapped : (s : Result T Refusal) (r : Result ℕ Refusal) → MatchResult s (λ x. IsOkAnd r (Q x)) (λ e. r ≡ Err e)
      → ((x : T) (n : ℕ) → s ≡ Ok x → Q x n → n ≤ 36886) → Short (said r)
  short_mapped (Ok x) (Ok n) m h = h x n refl m
  short_mapped (Ok x) (Err e) m h = tt
  short_mapped (Err e) (Ok n) m h = absurd (let z : ◌≡◌ {A = ℕ} 0 1 = cc in omega arith)
  short_mapped (Err e) (Err y) m h = tt

-- of a book that was read: its number of routes
pub said_read : {Q : Reading → ℕ → Type 0} (book : List ℕ) (s : Result Reading Refusal) (r : Result ℕ Refusal) → s ≡ reading_of (parse_plan book)
    → MatchResult s (λ x. IsOkAnd r (Q x)) (λ e. r ≡ Err e) → ((x : Reading) (n : ℕ) → Q x n → n ≡ x.head.runs) → code_said (said r) ≡ code_of (parse_plan book)
said_read book (Ok x) (Ok n) e m h =
    let (es, p, q) = reading_accepted (parse_plan book) x e in
    ap pos (h x n m ∙ (accepted_routes book x.head es p).0) ∙ sym (ap code_of p)
said_read book (Ok x) (Err y) e m h = absurd m
said_read book (Err y) (Ok n) e m h = absurd (let z : ◌≡◌ {A = ℕ} 0 1 = cc in omega arith)
said_read book (Err y) (Err z) e m h =
    let same : z ≡ y = cc in
    ap (λ (k : Refusal). neg_ℤ (pos (refusal_number k))) same ∙ sym (ap code_of (reading_refused (parse_plan book) y e))

-- and its refusal's place
pub placed_read : (Q : Reading → Unit {0} → Type 0) (book : List ℕ) (s : Result Reading Refusal) (r : Answer) → s ≡ reading_of (parse_plan book)
    → MatchResult s (λ x. IsOkAnd r (Q x)) (λ e. r ≡ Err e) → answer_place r ≡ place_of (parse_plan book)
placed_read Q book (Ok x) (Ok u) e m = let (es, p, q) = reading_accepted (parse_plan book) x e in sym (ap place_of p)
placed_read Q book (Ok x) (Err y) e m = absurd m
placed_read Q book (Err y) (Ok u) e m = absurd (let z : ◌≡◌ {A = ℕ} 0 1 = cc in omega arith)
placed_read Q book (Err y) (Err z) e m =
    let same : z ≡ y = cc in
    ap refusal_place same ∙ sym (ap place_of (reading_refused (parse_plan book) y e))

-- 10 CANNOT OCCUR here either: no plan book, no list and no two plan books give -10.
refused_never_10 : (x : Refusal) → neg_ℤ (pos (refusal_number x)) ≡ neg_ℤ (pos 10) → ⊥
refused_never_10 x e = (refusal_numbers x).2 (same (refusal_number x) e)
  where
    same : (k : ℕ) → neg_ℤ (pos k) ≡ neg_ℤ (pos 10) → k ≡ 10
    same zero q = let z : ◌≡◌ {A = ℕ} 0 1 = cc in absurd (omega arith)
    same (suc k) q = let z : k ≡ 9 = cc in omega arith

pub read_never_10 : (q : Parsed) → code_of q ≡ neg_ℤ (pos 10) → ⊥
read_never_10 (accepted h es) e = let z : ◌≡◌ {A = ℕ} 0 1 = cc in omega arith
read_never_10 (refused x) e = refused_never_10 x e

pub job_never_10 : (o : Result ℕ Refusal) → outcome_code o ≡ neg_ℤ (pos 10) → ⊥
job_never_10 (Ok n) e = let z : ◌≡◌ {A = ℕ} 0 1 = cc in omega arith
job_never_10 (Err x) e = refused_never_10 x e

pub choose_never_10 : (c : Choice) → choice_code c ≡ neg_ℤ (pos 10) → ⊥
choose_never_10 (Ok First) e = let z : ◌≡◌ {A = ℕ} 0 1 = cc in omega arith
choose_never_10 (Ok Second) e = let z : ◌≡◌ {A = ℕ} 0 1 = cc in omega arith
choose_never_10 (Err x) e = refused_never_10 x e
