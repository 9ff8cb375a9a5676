-- The length of a plan is small enough for what C is told.
use mathlib.Core.Path.{refl}
use mathlib.Core.List.{List}
use Prim.Native.Nat.{ℕ}
use native.Mathlib.Omega.{arith}
use lib.ListN.{length}
use Rattle.job.specs.Written.{Bytes}
use Rattle.planner.specs.Verdict.{verdict}
use Rattle.planner.specs.Call.{Said, gives, refuses}
use Rattle.planner.specs.Outcome.{Outcome}
use Rattle.planner.specs.Stages.{Short}
use Rattle.planner.proofs.Room.{bytes_most}
use Rattle.planner.proofs.Demands.{demands, foreseen}

-- no plan exceeds 36,886 bytes
pub plan_short : (job : List ℕ) (words : ℕ) (out : List ℕ) (s : Said) (out' : List ℕ) → Bytes job → Outcome (verdict job words (length out)) out s out' → Short s
plan_short job words out (gives n) out' b call =
    let d = (demands job words out (gives n) out' b call).demand_1.0 in
    let f = (foreseen job words out (gives n) out' b call).fits d n refl in
    omega (arith, f, bytes_most d.runs d.well_formed.most)
plan_short job words out (refuses number place) out' b call = tt
