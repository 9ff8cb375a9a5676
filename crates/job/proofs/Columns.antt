-- Columns: a field of every run, then zeros up to 32 entries. Each law holds for every field f. One more run is a store in each.
-- Assumes nothing.
use Prim.Native.Nat.{ℕ, zero, suc, ◌+◌, ◌-◌, ◌≤◌, ◌<◌}
use mathlib.Core.Path.{◌≡◌, refl, sym, ap, ap₂, ◌∙◌}
use mathlib.Core.List.{List, [], ◌∷◌, ◌++◌, map, map-append}
use native.Mathlib.Omega.{arith}
use lib.ListN.{length, get_or, set, replicate, length-append, length-map, get_or-append}
use lib.Seq.{set_at, append_snoc, get_or-append-add}
use Rattle.job.specs.declared.Run.{Run}
use Rattle.job.specs.declared.Job.{Job}
use Rattle.job.specs.Reading.{column, job_of, with_run}
use Rattle.job.specs.Written.{no_run}

-- every entry of a list of zeros, and past its end, is 0
zeros : (n k : ℕ) → ◌≡◌ {A = ℕ} (get_or (replicate n 0) k 0) 0
zeros zero k = refl
zeros (suc n) zero = refl
zeros (suc n) (suc k) = zeros n k

-- a store at the first zero behind a list
stored : (xs : List ℕ) (n m v : ℕ) → length xs ≡ n → set (xs ++ replicate (suc m) 0) n v ≡ (xs ++ (v ∷ [])) ++ replicate m 0
stored xs n m v e = set_at xs 0 (replicate m 0) v n e ∙ sym (append_snoc xs v (replicate m 0))

-- one of the zeros goes with each run
one_less : (n : ℕ) → n < 32 → 32 - n ≡ suc (32 - suc n)
one_less n h = omega arith

-- what is left of the zeros after one more run
counted : (runs : List Run) (r : Run) → 32 - suc (length runs) ≡ 32 - length (runs ++ (r ∷ []))
counted runs r = rw length-append (omega arith)

module _ (f : Run → ℕ) where
  -- a field of every run, at one of them
  map_entry : (runs : List Run) (k : ℕ) → k < length runs → get_or (map f runs) k 0 ≡ f (get_or runs k no_run)
  map_entry [] k h = absurd (omega arith)
  map_entry (r ∷ runs) zero h = refl
  map_entry (r ∷ runs) (suc k) h = map_entry runs k (omega arith)

  -- the entry of run k is its field
  pub column_entry : (runs : List Run) (k : ℕ) → k < length runs → get_or (column f runs) k 0 ≡ f (get_or runs k no_run)
  column_entry runs k h = get_or-append (map f runs) (replicate (32 - length runs) 0) 0 k (rw length-map h) ∙ map_entry runs k h

  -- the entries after the last run are 0
  pub column_unused : (runs : List Run) (k : ℕ) → length runs ≤ k → get_or (column f runs) k 0 ≡ 0
  column_unused runs k h =
      let e : k ≡ length (map f runs) + (k - length runs) = rw length-map (omega arith) in
      ap (λ (i : ℕ). get_or (column f runs) i 0) e
      ∙ get_or-append-add (map f runs) (replicate (32 - length runs) 0) (k - length runs) 0
      ∙ zeros (32 - length runs) (k - length runs)

  -- one more run is a store behind the last
  column_more : (runs : List Run) (r : Run) → length runs < 32 → set (column f runs) (length runs) (f r) ≡ column f (runs ++ (r ∷ []))
  column_more runs r h =
      ap (λ (m : ℕ). set (map f runs ++ replicate m 0) (length runs) (f r)) (one_less (length runs) h)
      ∙ stored (map f runs) (length runs) (32 - suc (length runs)) (f r) (length-map runs f)
      ∙ ap₂ (λ l m. l ++ replicate m 0) (sym (map-append f runs (r ∷ []))) (counted runs r)

-- it is the job with one more run
pub job_more : (j : Job) (runs : List Run) (r : Run) → j ≡ job_of j.number runs → length runs ≡ j.count → j.count < 32
    → with_run j r ≡ job_of j.number (runs ++ (r ∷ []))
job_more j runs r e p h =
    let k : length runs < 32 = omega arith in
    ap (λ i. with_run i r) e
    ∙ (λ i. record {
      number = j.number;
      count = sym (length-append runs (r ∷ [])) i;
      numbers = column_more (λ q. q.number) runs r k i;
      x = record { first = column_more (λ q. q.x1) runs r k i; second = column_more (λ q. q.x2) runs r k i };
      y = record { first = column_more (λ q. q.y1) runs r k i; second = column_more (λ q. q.y2) runs r k i };
    })
