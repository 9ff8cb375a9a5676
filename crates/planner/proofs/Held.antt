-- The runs of a job that is held in arrays: they are those that were read, they are in range, and the arrays name them in the plane.
use mathlib.Core.Path.{◌≡◌, refl, sym, ap, ap₂, ◌∙◌, subst}
use mathlib.Core.Logic.{◌⊎◌, inl, inr}
use mathlib.Core.List.{List, [], ◌∷◌, ◌++◌, map, map-append}
use Prim.Native.Nat.{ℕ, zero, suc, ◌≤◌, ◌<◌}
use native.Mathlib.Omega.{arith}
use lib.ListN.{length, get_or, length-map, get_or-append, get_or-eq_default}
use lib.Seq.{ext_get_or}
use Rattle.network.proofs.Numbers.{order}
use Rattle.job.specs.declared.Run.{Run as Read}
use Rattle.job.specs.declared.Job.{Job}
use Rattle.std.specs.Prelude.{Result, Ok}
use Rattle.refusal.specs.declared.Refusal.{Refusal}
use Rattle.job.specs.Parse.{accepted, parse}
use Rattle.job.specs.Reading.{column, job_of, Reads, runs_before, ReadsInto}
use Rattle.job.specs.Written.{Bytes, no_run, InRange, WellFormed}
use Rattle.job.proofs.Columns.{column_entry, column_unused}
use Rattle.job.proofs.Answered.{reading_accepts, into_accepts}
use Rattle.grid.specs.Tables.{table}
use Rattle.grid.specs.Runs.{runs_held}
use Rattle.network.specs.Entries.{length_table, get_or_table}
use Rattle.planner.specs.Call.{run_of, runs_of, numbers_of}
use Rattle.planner.specs.Held.{run_in, runs_in, Held}
use Rattle.figures.specs.Coordinates.{RunsInRange}

-- ---- the runs

module _ (j : Job) where
  pub length_held : length (runs_in j) ≡ j.count
  unfolding runs_in
  length_held = length_table (run_in j) j.count

  -- run k of them
  pub held_at : (k : ℕ) → k < j.count → get_or (runs_in j) k no_run ≡ run_in j k
  unfolding runs_in
  held_at k h = get_or_table (run_in j) j.count k no_run h

-- the runs of the job with some runs are these
pub runs_held_lem : (number : ℕ) (runs : List Read) → runs_in (job_of number runs) ≡ runs
runs_held_lem number runs =
    ext_get_or no_run (runs_in (job_of number runs)) runs (length_held (job_of number runs))
    (λ k h. let l : k < length runs = omega (arith, length_held (job_of number runs)) in held_at (job_of number runs) k l ∙ entry k l)
  where
    entry : (k : ℕ) → k < length runs → run_in (job_of number runs) k ≡ get_or runs k no_run
    entry k h = λ i. record {
      number = column_entry (λ r. r.number) runs k h i;
      x1 = column_entry (λ r. r.x1) runs k h i;
      y1 = column_entry (λ r. r.y1) runs k h i;
      x2 = column_entry (λ r. r.x2) runs k h i;
      y2 = column_entry (λ r. r.y2) runs k h i;
    }

-- ---- from a reading

-- the job with some runs, if it is well formed, holds them
job_held : (j : Job) (number : ℕ) (runs : List Read) → j ≡ job_of number runs → WellFormed number runs → Held j × (accepted number runs ≡ accepted j.number (runs_in j))
job_held j number runs q w =
    let e : number ≡ j.number = ap (λ (i : Job). i.number) (sym q) in
    let d : runs ≡ runs_in j = sym (ap runs_in q ∙ runs_held_lem number runs) in (
      record { held = q ∙ ap₂ job_of e d; well_formed = subst (λ (l : List Read). WellFormed j.number l) d (subst (λ (n : ℕ). WellFormed n runs) e w) },
      ap₂ accepted e d,
    )

-- what a reading that accepts hands on: a job that is held, and is the one that was parsed
pub reading_held : (s : List ℕ) (r : Result Job Refusal) (j : Job) → Bytes s → Reads s r → r ≡ Ok j → Held j × (parse s ≡ accepted j.number (runs_in j))
reading_held s r j b q a =
    let t = reading_accepts s r j b q a in
    let (h, e) = job_held j t.number t.runs t.job t.well_formed in
    (h, t.parsed ∙ e)

-- the same of a reading into a job
pub into_held : (s : List ℕ) (r : Result (Unit {0}) Refusal) (j : Job) → Bytes s → ReadsInto s r j → r ≡ Ok tt → Held j × (parse s ≡ accepted j.number (runs_in j))
into_held s r j b q a =
    let t = into_accepts s r j q b a in
    let (h, e) = job_held j j.number (runs_before s j.count) t.job t.well_formed in
    (h, t.parsed ∙ e)

-- ---- in the plane

map_table : {A B : Type 0} (f : A → B) (g : ℕ → A) (n : ℕ) → map f (table g n) ≡ table (λ k. f (g k)) n
map_table f g zero = refl
map_table f g (suc n) = map-append f (table g n) (g n ∷ []) ∙ ap (λ l. l ++ (f (g n) ∷ [])) (map_table f g n)

-- the runs in the plane are those of the four arrays
pub plane_held : (j : Job) → runs_of (runs_in j) ≡ runs_held j.x.first j.y.first j.x.second j.y.second j.count
unfolding runs_in runs_held
plane_held j = map_table run_of (run_in j) j.count

pub length_plane : (j : Job) → length (runs_of (runs_in j)) ≡ j.count
length_plane j = length-map (runs_in j) run_of ∙ length_held j

module _ (j : Job) (h : Held j) where
  -- there are at most 32 runs
  pub held_few : j.count ≤ 32
  held_few = omega (arith, length_held j, h.well_formed.most)

  in_range : (k : ℕ) → k < j.count → InRange (run_in j k)
  in_range k l = subst InRange (held_at j k l) (h.well_formed.in_range k (omega (arith, length_held j)))

  -- the coordinates are in their range
  pub held_range : RunsInRange j.x.first j.y.first j.x.second j.y.second j.count
  held_range =
      record {
        few = held_few;
        x1_in = λ k l. (in_range k l).x1_in;
        y1_in = λ k l. (in_range k l).y1_in;
        x2_in = λ k l. (in_range k l).x2_in;
        y2_in = λ k l. (in_range k l).y2_in;
      }

  -- the run numbers, and 0 behind the last
  pub numbers_held : (k : ℕ) → get_or j.numbers k 0 ≡ get_or (numbers_of (runs_in j)) k 0
  numbers_held k = ap (λ (i : Job). get_or i.numbers k 0) h.held ∙ go (order (length (runs_in j)) k)
    where
      go : (length (runs_in j) ≤ k) ⊎ (k < length (runs_in j)) → get_or (column (λ r. r.number) (runs_in j)) k 0 ≡ get_or (numbers_of (runs_in j)) k 0
      go (inl l) = column_unused (λ r. r.number) (runs_in j) k l ∙ sym (get_or-eq_default (numbers_of (runs_in j)) 0 (rw length-map l))
      go (inr l) = get_or-append (numbers_of (runs_in j)) _ 0 k (rw length-map l)
