-- What the planner's contract says for a listing: with words and bytes enough the verdict is on the job alone, and the answer tells it. This file alone
-- reads that contract.
use mathlib.Core.Path.{◌≡◌, refl, sym, ap}
use mathlib.Core.List.{List, ◌++◌}
use Prim.Native.Nat.{ℕ}
use native.Mathlib.Omega.{arith}
use lib.ListN.{length, replicate, length-replicate}
use Rattle.network.specs.Hanan.{hanan}
use Rattle.network.specs.Route.{Route, Least}
use Rattle.job.specs.declared.Run.{Run as Read}
use Rattle.refusal.specs.declared.Refusal.{Refusal}
use Rattle.job.specs.Parse.{Parsed, accepted, refused, parse}
use Rattle.job.specs.Written.{Bytes}
use Rattle.std.specs.Prelude.{Result, Ok, Err}
use Rattle.refusal.specs.Refusal.{refusal_number, refusal_place}
use Rattle.refusal.proofs.Numbers.{same_refusal}
use Rattle.planner.specs.Call.{runs_of, plan_of, gives, said}
use Rattle.planner.specs.Verdict.{judged, verdict}
use Rattle.planner.specs.Outcome.{Outcome}
use Rattle.planner.proofs.Verdicts.{no_plan, most_lent}

-- an answer, and what stands in the plan buffer: the plan of least routes, or the refusal
pub data Answered (v : Parsed) (answer : Result ℕ Refusal) (plan : List ℕ) : Type 0 where
  planned : (number : ℕ) (runs : List Read) (routes : List Route) (rest : List ℕ) → v ≡ accepted number runs → Least (hanan (runs_of runs)) (runs_of runs) routes
      → answer ≡ Ok (length (plan_of number runs routes)) → plan ≡ plan_of number runs routes ++ rest → Answered v answer plan
  refusing : (x : Refusal) → v ≡ refused x → answer ≡ Err x → Answered v answer plan

-- what an answer says tells it
said_planned : (answer : Result ℕ Refusal) (n : ℕ) → said answer ≡ gives n → answer ≡ Ok n
said_planned (Ok m) n e = let z : m ≡ n = cc in ap Ok z
said_planned (Err x) n e = absurd (no_plan n (refusal_number x) (refusal_place x) (sym e))

said_refused : (answer : Result ℕ Refusal) (x : Refusal) → said answer ≡ said (Err x) → answer ≡ Err x
said_refused (Ok m) x e = absurd (no_plan m (refusal_number x) (refusal_place x) e)
said_refused (Err y) x e =
    let number : refusal_number y ≡ refusal_number x = cc in
    let place : refusal_place y ≡ refusal_place x = cc in
    ap Err (same_refusal y x number place)

-- a call with work words and a plan buffer of zeros, as many as are asked for
pub answered : (job : List ℕ) (answer : Result ℕ Refusal) (plan : List ℕ) → Bytes job
    → Outcome (verdict job (length {A = ℕ} (replicate 16384 0)) (length {A = ℕ} (replicate 36886 0))) (replicate 36886 0) (said answer) plan
    → Answered (judged (parse job)) answer plan
answered job answer plan b call =
    go (judged (parse job)) (rw (length-replicate {A = ℕ} 16384 0, length-replicate {A = ℕ} 36886 0, most_lent job 16384 36886 b (omega arith) (omega arith)) at call)
  where
    go : (v : Parsed) → Outcome v (replicate 36886 0) (said answer) plan → Answered v answer plan
    go (accepted number runs) p = planned number runs p.routes _ refl p.least (said_planned answer _ p.says) p.plan
    go (refused x) r = refusing x refl (said_refused answer x r.says)
