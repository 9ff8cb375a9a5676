-- What the layers above learn of a reading: from the answer to the parsed job.
-- Assumes nothing.
use Prim.Native.Nat.{ℕ}
use mathlib.Core.Path.{◌≡◌, refl, sym, ap, ◌∙◌}
use mathlib.Core.List.{List}
use native.Mathlib.Omega.{arith}
use Rattle.std.specs.Prelude.{Result, Ok, Err}
use Rattle.job.specs.declared.Run.{Run}
use Rattle.refusal.specs.declared.Refusal.{Refusal}
use Rattle.job.specs.declared.Job.{Job}
use Rattle.job.specs.Parse.{Parsed, accepted, refused, parse}
use Rattle.job.specs.Reading.{Answer, job_of, job_said, answer_said, runs_before, ReadsInto, Reads}
use Rattle.job.specs.Written.{Bytes, WellFormed}
use Rattle.job.proofs.Accepted.{accepted_well_formed}

-- what an accepting reading holds
pub record Accepts (s : List ℕ) (j : Job) : Type 0 where
  pub number : ℕ
  pub runs : List Run
  pub parsed : parse s ≡ accepted number runs
  pub job : j ≡ job_of number runs
  pub well_formed : WellFormed number runs

-- from what `read` ensures and a job that it gives: the job's number and runs, well formed, and the arrays as their columns
pub reading_accepts : (s : List ℕ) (r : Result Job Refusal) (j : Job) → Bytes s → Reads s r → r ≡ Ok j → Accepts s j
reading_accepts s r j h q a = go (parse s) refl (sym a ∙ q)
  where
    go : (p : Parsed) → parse s ≡ p → Ok j ≡ job_said p → Accepts s j
    go (accepted number runs) e f =
        record { number = number; runs = runs; parsed = e; job = cc f; well_formed = accepted_well_formed s number runs h e }
    go (refused x) e f = absurd (let z : ◌≡◌ {A = ℕ} 0 1 = cc f in omega arith)

-- and from a refusal: it is that of the reading
pub reading_refuses : (s : List ℕ) (r : Result Job Refusal) (x : Refusal) → Reads s r → r ≡ Err x → parse s ≡ refused x
reading_refuses s r x q a = go (parse s) (sym a ∙ q)
  where
    go : (p : Parsed) → Err x ≡ job_said p → p ≡ refused x
    go (accepted number runs) f = absurd (let z : ◌≡◌ {A = ℕ} 0 1 = cc f in omega arith)
    go (refused y) f = let same : y ≡ x = cc f in ap refused same

-- what stands in the arrays of an accepted job: the first runs are all its runs
pub record Holds (s : List ℕ) (j : Job) : Type 0 where
  pub parsed : parse s ≡ accepted j.number (runs_before s j.count)
  pub job : j ≡ job_of j.number (runs_before s j.count)
  pub well_formed : WellFormed j.number (runs_before s j.count)

module _ (s : List ℕ) (r : Answer) (j : Job) (q : ReadsInto s r j) where
  -- from what `read_into` ensures and an accepting answer: the job's number and runs, well formed, and the arrays as their columns
  pub into_accepts : Bytes s → r ≡ Ok tt → Holds s j
  into_accepts h a =
      let e = q.whole a in
      record { parsed = e; job = q.held; well_formed = accepted_well_formed s j.number (runs_before s j.count) h e }

  -- and from a refusing answer: the refusal is that of the reading
  pub into_refuses : (x : Refusal) → r ≡ Err x → parse s ≡ refused x
  into_refuses x a = go (parse s) (sym a ∙ q.answer)
    where
      go : (p : Parsed) → ◌≡◌ {A = Answer} (Err x) (answer_said p) → p ≡ refused x
      go (accepted number runs) f = absurd (let z : ◌≡◌ {A = ℕ} 0 1 = cc f in omega arith)
      go (refused y) f = let same : y ≡ x = cc f in ap refused same
