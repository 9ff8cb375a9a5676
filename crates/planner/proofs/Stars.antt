-- What is judged of the bytes of a job: accepted exactly if they are a well-formed job written down, and every group of its runs is a star.
use mathlib.Core.Path.{◌≡◌, refl, sym, ◌∙◌, subst}
use mathlib.Core.Bool.{Bool, true, false, cond, true≢false}
use mathlib.Core.Logic.{◌⊎◌, inl, inr}
use mathlib.Core.List.{List}
use Prim.Native.Nat.{ℕ}
use native.Mathlib.Omega.{arith}
use Rattle.network.specs.Plane.{Run}
use Rattle.network.specs.Hanan.{hanan}
use Rattle.groups.proofs.Runs.{runs_by_chains}
use Rattle.job.specs.declared.Run.{Run as Read}
use Rattle.refusal.specs.declared.Refusal.{Refusal}
use Rattle.refusal.specs.declared.Refusal.TheVariants.{NoStar}
use Rattle.job.specs.Parse.{Parsed, accepted, refused, parse}
use Rattle.job.specs.Written.{Bytes, WellFormed, bytes_of}
use Rattle.job.proofs.Accepted.{accepted_iff}
use Rattle.planner.specs.Call.{runs_of}
use Rattle.planner.specs.Verdict.{are_stars, judged}
use Rattle.planner.specs.Demands.{JobIn, AreStars}

-- ---- the groups are stars

-- the test passes exactly if every group that chains of meetings make is a star
stars_are : (runs : List Run) → are_stars runs ≡ true → AreStars runs
stars_are runs t = (runs_by_chains (hanan runs) runs).stars.0 t

are_stars_lem : (runs : List Run) → AreStars runs → are_stars runs ≡ true
are_stars_lem runs s = (runs_by_chains (hanan runs) runs).stars.1 s

-- ---- the bytes

-- a job that is accepted was read, and its groups are stars
pub judged_accepts : (p : Parsed) (number : ℕ) (runs : List Read) → judged p ≡ accepted number runs
    → (p ≡ accepted number runs) × (are_stars (runs_of runs) ≡ true)
unfolding judged
judged_accepts (accepted m rs) number runs e = go (are_stars (runs_of rs)) refl e
  where
    go : (b : Bool) → are_stars (runs_of rs) ≡ b → cond b (accepted m rs) (refused NoStar) ≡ accepted number runs
        → (accepted m rs ≡ accepted number runs) × (are_stars (runs_of runs) ≡ true)
    go true h k = let z : rs ≡ runs = cc in (k, subst (λ (l : List Read). are_stars (runs_of l) ≡ true) z h)
    go false h k = absurd (let z : ◌≡◌ {A = ℕ} 0 1 = cc in omega arith)
judged_accepts (refused x) number runs e = absurd (let z : ◌≡◌ {A = ℕ} 0 1 = cc in omega arith)

-- a job of stars that was read is accepted
accepts_judged : (p : Parsed) (number : ℕ) (runs : List Read) → p ≡ accepted number runs → are_stars (runs_of runs) ≡ true
    → judged p ≡ accepted number runs
unfolding judged
accepts_judged p number runs e h = rw (e, h)

-- a job that is refused was refused by the reader, or some group is no star
pub judged_refuses : (p : Parsed) (x : Refusal) → judged p ≡ refused x
    → (p ≡ refused x) ⊎ ((number : ℕ) × (runs : List Read) × (p ≡ accepted number runs) × (AreStars (runs_of runs) → ⊥) × (x ≡ NoStar))
unfolding judged
judged_refuses (accepted number runs) x e = go (are_stars (runs_of runs)) refl e
  where
    go : (b : Bool) → are_stars (runs_of runs) ≡ b → cond b (accepted number runs) (refused NoStar) ≡ refused x
        → (accepted number runs ≡ refused x) ⊎ ((n : ℕ) × (rs : List Read) × (accepted number runs ≡ accepted n rs) × (AreStars (runs_of rs) → ⊥) × (x ≡ NoStar))
    go true h k = absurd (let z : ◌≡◌ {A = ℕ} 0 1 = cc in omega arith)
    go false h k = let z : x ≡ NoStar = cc in inr (number, runs, refl, λ s. true≢false (sym (are_stars_lem (runs_of runs) s) ∙ h), z)
judged_refuses (refused y) x e = inl e

module _ (job : List ℕ) (b : Bytes job) where
  -- what is accepted is a well-formed job written down, and its groups are stars
  pub job_star : (number : ℕ) (runs : List Read) → judged (parse job) ≡ accepted number runs
      → WellFormed number runs × (job ≡ bytes_of number runs) × AreStars (runs_of runs)
  job_star number runs e =
      let (p, s) = judged_accepts (parse job) number runs e in
      let (w, j) = (accepted_iff job number runs b).0 p in
      (w, j, stars_are (runs_of runs) s)

  -- a well-formed job is read as it is
  pub job_read : (j : JobIn job) → parse job ≡ accepted j.number j.runs
  job_read j = (accepted_iff job j.number j.runs b).1 (j.well_formed, j.written)

  -- and accepted if its groups are stars
  pub star_job : (j : JobIn job) → AreStars (runs_of j.runs) → judged (parse job) ≡ accepted j.number j.runs
  star_job j s = accepts_judged (parse job) j.number j.runs (job_read j) (are_stars_lem (runs_of j.runs) s)

-- two jobs of the same bytes are the same
pub same_job : (job : List ℕ) → Bytes job → (j : JobIn job) (number : ℕ) (runs : List Read) → parse job ≡ accepted number runs
    → (number ≡ j.number) × (runs ≡ j.runs)
same_job job b j number runs e = same (sym e ∙ job_read job b j)
  where
    same : accepted number runs ≡ accepted j.number j.runs → (number ≡ j.number) × (runs ≡ j.runs)
    same q = (cc, cc)
