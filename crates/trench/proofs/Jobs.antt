-- A job book that was written can be planned: lent its forecast or more, it is refused with 11 or not at all.
use mathlib.Core.Path.{◌≡◌, sym, ap, ◌∙◌}
use mathlib.Core.List.{List}
use mathlib.Core.Logic.{◌⊎◌, inl, inr}
use Prim.Native.Nat.{ℕ, ◌^◌, ◌<◌, ◌≤◌}
use native.Mathlib.Omega.{arith}
use lib.IntN.{ℤ}
use lib.ListN.{take}
use Rattle.refusal.specs.declared.Refusal.{Refusal}
use Rattle.refusal.specs.declared.Refusal.TheVariants.{NoStar}
use Rattle.job.specs.declared.Run.{Run}
use Rattle.job.specs.Parse.{accepted, refused}
use Rattle.std.specs.Prelude.{Ok}
use Rattle.job_writer.specs.Call.{call_of}
use Rattle.job_writer.proofs.Books.{job_books}
use Rattle.planner.specs.Call.{runs_of}
use Rattle.planner.specs.declared.Needs.{Needs}
use Rattle.planner.specs.Forecast.{words_for, bytes_for, needs_of}
use Rattle.planner.specs.Verdict.{foretold_by, forecast_of, judged, verdict}
use Rattle.planner.specs.Demands.{AreStars}
use Rattle.planner.proofs.Verdicts.{enough}
use Rattle.planner.proofs.Stars.{judged_refuses}

pub written_planned : (number : ℕ) (list : List ℤ) (out : List ℕ) (n work room : ℕ) (x : Refusal) → number < 2 ^ 32 → (call_of number list out).says ≡ Ok n
    → (needs : Needs) → forecast_of (take n (call_of number list out).out) ≡ Ok needs → needs.words ≤ work → needs.bytes ≤ room
    → verdict (take n (call_of number list out).out) work room ≡ refused x → x ≡ NoStar
written_planned number list out n work room x fits w needs f h k e =
    let (runs, read, same) = job_books.read_back number list out n fits w in
    let q : Ok (needs_of (runs_of runs)) ≡ Ok needs = sym (ap foretold_by read) ∙ f in
    let s : needs_of (runs_of runs) ≡ needs = cc in
    let p : words_for (runs_of runs) ≡ needs.words = ap (λ (m : Needs). m.words) s in
    let r : bytes_for (runs_of runs) ≡ needs.bytes = ap (λ (m : Needs). m.bytes) s in
    by runs (judged_refuses (accepted number runs) x (sym (enough _ number runs read work room (omega arith) (omega arith) ∙ ap judged read) ∙ e))
  where
    by : (runs : List Run)
        → (accepted number runs ≡ refused x) ⊎ ((m : ℕ) × (rs : List Run) × (accepted number runs ≡ accepted m rs) × (AreStars (runs_of rs) → ⊥) × (x ≡ NoStar)) → x ≡ NoStar
    by runs (inl q) = absurd (let z : ◌≡◌ {A = ℕ} 0 1 = cc in omega arith)
    by runs (inr (m, rs, q, s, z)) = z
