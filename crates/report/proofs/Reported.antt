-- The listing of a job is the text of the verdict: of the plan that stands in the plan buffer, or of the refusal that is answered. A text buffer of 74,837
-- bytes has room for all of it, and the first 640 bytes of the job decide it.
use mathlib.Core.Path.{◌≡◌, refl, ap, ◌∙◌}
use mathlib.Core.Logic.{◌⊎◌, inl, inr}
use mathlib.Core.List.{List, [], ◌++◌, append-nil}
use Prim.Native.Nat.{ℕ, ◌≤◌}
use native.Mathlib.Omega.{arith}
use lib.ListN.{length, take, length-append, length-take}
use lib.Seq.{take_at}
use Rattle.network.specs.Hanan.{hanan}
use Rattle.network.specs.Route.{Route, Least}
use Rattle.job.specs.declared.Run.{Run as Read}
use Rattle.refusal.specs.declared.Refusal.{Refusal}
use Rattle.refusal.specs.declared.Refusal.TheVariants.{NoStar}
use Rattle.refusal.specs.Refusal.{refusal_place}
use Rattle.job.specs.Parse.{Parsed, accepted, refused, parse}
use Rattle.job.specs.Written.{Bytes, WellFormed}
use Rattle.job.proofs.First.{first_applies}
use Rattle.job.proofs.Within.{applies_within}
use Rattle.job.proofs.Prefix.{parse_prefix}
use Rattle.fields.specs.Bytes.{Wrote}
use Rattle.std.specs.Prelude.{Result, Ok, Err}
use Rattle.planner.specs.Call.{runs_of, plan_of}
use Rattle.planner.specs.Figures.{plan_head, plan_entries}
use Rattle.planner.specs.Verdict.{judged}
use Rattle.planner.specs.Demands.{AreStars}
use Rattle.planner.proofs.Stars.{judged_refuses, job_star}
use Rattle.text.specs.Text.{plan_text, refusal_text}
use Rattle.text.specs.Listing.{listing_of}
use Rattle.text.specs.Listed.{Listed}
use Rattle.text.proofs.Listed.{listed_whole}
use Rattle.text.proofs.Length.{refusal_length}
use Rattle.report.specs.Report.{Reported}
use Rattle.report.proofs.Lines.{plan_lists, plan_room}
use Rattle.report.proofs.Answered.{Answered, planned, refusing}

-- ---- the verdict on a job

-- what is accepted is well formed
judged_formed : (job : List ℕ) (number : ℕ) (runs : List Read) → Bytes job → judged (parse job) ≡ accepted number runs → WellFormed number runs
judged_formed job number runs b e = (job_star job b number runs e).0

-- ---- the answers of a call

module _ (job : List ℕ) (answer : Result ℕ Refusal) (plan : List ℕ) (s : Answered (judged (parse job)) answer plan) where
  -- a plan of this length stands in the first bytes of the plan buffer
  pub plan_within : (k : ℕ) → answer ≡ Ok k → k ≤ length plan
  plan_within k a = go s
    where
      go : Answered (judged (parse job)) answer plan → k ≤ length plan
      go (planned number runs routes rest e least q p) =
          let same : length (plan_of number runs routes) ≡ k = cc in
          omega (arith, ap length p, length-append (plan_of number runs routes) rest)
      go (refusing x e r) = absurd (let z : ◌≡◌ {A = ℕ} 0 1 = cc in omega arith)

  module _ (text text' : List ℕ) (n : ℕ) where
    -- and their listing is what is due
    pub plan_reported : Bytes job → (k : ℕ) → answer ≡ Ok k → Listed (listing_of (take k plan)) text text' n → Reported (judged (parse job)) text text' n
    plan_reported b k a l = go s
      where
        go : Answered (judged (parse job)) answer plan → Reported (judged (parse job)) text text' n
        go (planned number runs routes rest e least q p) =
            let same : length (plan_of number runs routes) ≡ k = cc in
            let bytes : take k plan ≡ plan_of number runs routes ++ [] = rw (p, append-nil) (take_at (plan_of number runs routes) rest k same) in
            rw e (record {
              routes = routes;
              least = least;
              listed = rw (bytes, plan_lists number runs (judged_formed job number runs b e) routes least.are_routes []) at l;
            })
        go (refusing x e r) = absurd (let z : ◌≡◌ {A = ℕ} 0 1 = cc in omega arith)

    -- so is a refusal's text
    pub refusal_reported : (x : Refusal) → answer ≡ Err x → Listed (refusal_text x) text text' n → Reported (judged (parse job)) text text' n
    refusal_reported x a l = go s
      where
        go : Answered (judged (parse job)) answer plan → Reported (judged (parse job)) text text' n
        go (planned number runs routes rest e least q p) = absurd (let z : ◌≡◌ {A = ℕ} 0 1 = cc in omega arith)
        go (refusing y e r) = let same : x ≡ y = cc in rw (e, ← same) l

-- ---- a buffer with room

-- a refusal of a job is told at a place in its first 640 bytes, or behind them
place_few : (job : List ℕ) (x : Refusal) → parse job ≡ refused x → refusal_place x ≤ 640
place_few job x e =
    omega (arith, applies_within (take 640 job) x ((first_applies (take 640 job) x).0 (parse_prefix 640 job (omega arith) ∙ e)).applies, length-take 640 job)

-- so is that of the verdict, and 11 has the place 0
pub judged_place : (job : List ℕ) (x : Refusal) → judged (parse job) ≡ refused x → refusal_place x ≤ 640
judged_place job x e = go (judged_refuses (parse job) x e)
  where
    go : (parse job ≡ refused x) ⊎ ((number : ℕ) × (runs : List Read) × (parse job ≡ accepted number runs) × (AreStars (runs_of runs) → ⊥) × (x ≡ NoStar))
        → refusal_place x ≤ 640
    go (inl r) = place_few job x r
    go (inr (number, runs, r, n, z)) = rw z (omega arith)

-- the whole text stands in the buffer, and later bytes are untouched
pub record ListsWhole (number : ℕ) (runs : List Read) (text text' : List ℕ) (n : ℕ) : Type 0 where
  pub routes : List Route
  pub least : Least (hanan (runs_of runs)) (runs_of runs) routes
  pub wrote : Wrote (plan_text (plan_head number runs routes) (plan_entries runs routes)) text text' n

-- the same by the verdict
abbrev pub ReportedWhole : Parsed → (text text' : List ℕ) → ℕ → Type 0
ReportedWhole (accepted number runs) text text' n = ListsWhole number runs text text' n
ReportedWhole (refused x) text text' n = Wrote (refusal_text x) text text' n

-- A text buffer of 74,837 bytes has room for every text.
pub report_whole : (job text text' : List ℕ) (n : ℕ) → Bytes job → 74837 ≤ length text → Reported (judged (parse job)) text text' n
    → ReportedWhole (judged (parse job)) text text' n
report_whole job text text' n b room r = go (judged (parse job)) refl r
  where
    go : (v : Parsed) → judged (parse job) ≡ v → Reported v text text' n → ReportedWhole v text text' n
    go (accepted number runs) e l =
        let few = plan_room number runs (judged_formed job number runs b e) l.routes l.least.are_routes in
        record { routes = l.routes; least = l.least; wrote = listed_whole _ text text' n l.listed (omega arith) }
    go (refused x) e l =
        let place = judged_place job x e in
        listed_whole _ text text' n l (omega (arith, refusal_length x (omega arith)))

-- ---- a job of which 640 bytes are read

-- The first 640 bytes of a job decide what is listed of it.
pub report_prefix : (job text text' : List ℕ) (n : ℕ) → Reported (judged (parse (take 640 job))) text text' n → Reported (judged (parse job)) text text' n
report_prefix job text text' n r = rw (parse_prefix 640 job (omega arith)) at r
