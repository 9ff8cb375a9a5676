-- Runs in range, between two points, whose numbers rise: run by run as the reader meets them and by index as `WellFormed` says it.
-- Assumes nothing.
use Prim.Native.Nat.{ℕ, zero, suc, ◌^◌, ◌<◌, ◌≤◌}
use mathlib.Core.List.{List, [], ◌∷◌}
use native.Mathlib.Omega.{arith}
use native.Mathlib.Nat.{lt_trans}
use lib.ListN.{length, get_or}
use Rattle.job.specs.declared.Run.{Run}
use Rattle.job.specs.Written.{no_run, InRange, Coincide, WellFormed}

-- each run is in range and between two points, and the numbers rise from above `last`
pub data Rising : ℕ → List Run → Type 0 where
  none : {last : ℕ} → Rising last []
  more : {last : ℕ} {r : Run} {runs : List Run} → last < r.number → InRange r → (Coincide r → ⊥) → Rising r.number runs → Rising last (r ∷ runs)

-- every run is in range
rising_range : {last : ℕ} {runs : List Run} → Rising last runs → (k : ℕ) → k < length runs → InRange (get_or runs k no_run)
rising_range none k h = absurd (omega arith)
rising_range (more up range apart rest) zero h = range
rising_range (more up range apart rest) (suc k) h = rising_range rest k (omega arith)

-- and between two points
rising_apart : {last : ℕ} {runs : List Run} → Rising last runs → (k : ℕ) → k < length runs → Coincide (get_or runs k no_run) → ⊥
rising_apart none k h e = absurd (omega arith)
rising_apart (more up range apart rest) zero h e = apart e
rising_apart (more up range apart rest) (suc k) h e = rising_apart rest k (omega arith) e

-- every number is above `last`
rising_above : {last : ℕ} {runs : List Run} → Rising last runs → (k : ℕ) → k < length runs → last < (get_or runs k no_run).number
rising_above none k h = absurd (omega arith)
rising_above (more up range apart rest) zero h = up
rising_above (more up range apart rest) (suc k) h = lt_trans up (rising_above rest k (omega arith))

-- a later number is greater
rising_order : {last : ℕ} {runs : List Run} → Rising last runs → (j k : ℕ) → j < k → k < length runs → (get_or runs j no_run).number < (get_or runs k no_run).number
rising_order none j k l h = absurd (omega arith)
rising_order (more up range apart rest) j zero l h = absurd (omega arith)
rising_order (more up range apart rest) zero (suc k) l h = rising_above rest k (omega arith)
rising_order (more up range apart rest) (suc j) (suc k) l h = rising_order rest j k (omega arith) (omega arith)

-- the other way: what holds at every index holds run by run
rising_from : (last : ℕ) (runs : List Run) → ((k : ℕ) → k < length runs → InRange (get_or runs k no_run))
    → ((k : ℕ) → k < length runs → Coincide (get_or runs k no_run) → ⊥)
    → ((j k : ℕ) → j < k → k < length runs → (get_or runs j no_run).number < (get_or runs k no_run).number)
    → (0 < length runs → last < (get_or runs 0 no_run).number) → Rising last runs
rising_from last [] range apart order up = none
rising_from last (r ∷ runs) range apart order up =
    more (up (omega arith)) (range 0 (omega arith)) (apart 0 (omega arith))
    (rising_from r.number runs (λ k h. range (suc k) (omega arith)) (λ k h. apart (suc k) (omega arith)) (λ j k l h. order (suc j) (suc k) (omega arith) (omega arith))
    (λ h. order 0 1 (omega arith) (omega arith)))

-- a well formed job's runs rise from above 0
pub well_formed_rising : (number : ℕ) (runs : List Run) → WellFormed number runs → Rising 0 runs
well_formed_rising number runs w = rising_from 0 runs w.in_range w.apart w.rising (λ h. (w.in_range 0 h).least)

-- runs that rise from above 0 are a well formed job's
pub rising_well_formed : (number : ℕ) (runs : List Run) → number < 2 ^ 32 → length runs ≤ 32 → Rising 0 runs → WellFormed number runs
rising_well_formed number runs f m h = record { fits = f; most = m; in_range = rising_range h; apart = rising_apart h; rising = rising_order h }
