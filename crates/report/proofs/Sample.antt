-- The listing of a job that has one least plan is one text: that of job 7 is the sample of document 01, "Listing", with the groups and the centres of
-- document 02, C-16, byte for byte, and that of a job without runs is one line.
use mathlib.Core.Path.{◌≡◌, refl, ap, ap₂, ◌∙◌, subst}
use mathlib.Core.List.{List, [], ◌++◌, append_assoc, flat_map}
use Prim.Native.Nat.{ℕ, ◌<◌, ◌^◌}
use native.Mathlib.Nat.{le_refl}
use Rattle.job.specs.declared.Run.{Run as Read}
use Rattle.refusal.specs.declared.Refusal.TheVariants.{NoStar}
use Rattle.job.specs.Parse.{Parsed, parse}
use Rattle.job.specs.Written.{bytes_of}
use Rattle.plan.specs.declared.Head.{Head}
use Rattle.plan.specs.Plan.{Entry}
use Rattle.planner.specs.Verdict.{judged}
use Rattle.planner.specs.Examples.{job7_runs, job7_head, job7_entries, blank_head, HasOnePlan}
use Rattle.planner.specs.Call.{runs_of}
use Rattle.planner.specs.Forecast.{words_for, bytes_for}
use Rattle.planner.proofs.Verdicts.{lent_enough}
use Rattle.planner.proofs.Examples as examples
use Rattle.text.specs.Numerals.{ascii, decimal, digits}
use Rattle.text.specs.Text.{plan_text, refusal_text}
use Rattle.text.specs.Listed.{Listed}
use Rattle.report.specs.Report.{Reported}

-- document 01's lines, with the groups and the centres of document 02, C-16
abbrev sample : List ℕ
sample =
    ascii
    "job 7 runs 3 groups 1 trench 100 saved 40 pits 6\nroute 1 meets 2 centre 1 corners 4: 0,0 0,10 40,10 40,30\nroute 2 meets 1 centre 1 corners 2: 0,10 40,10\nroute 3 meets 1 centre 1 corners 2: 20,20 20,50\n"

-- they are the text of the job's one plan
sample_text : plan_text job7_head job7_entries ≡ sample
unfolding plan_text decimal digits flat_map
sample_text = refl

-- what is listed of the bytes of a job that has one plan is the text of it
one_plan_listed : (number : ℕ) (runs : List Read) (head : Head) (entries : List Entry) → HasOnePlan number runs head entries → (text text' : List ℕ) (n : ℕ)
    → Reported (judged (parse (bytes_of number runs))) text text' n → Listed (plan_text head entries) text text' n
one_plan_listed number runs head entries one text text' n r =
    let words = words_for (runs_of runs) in
    let bytes = bytes_for (runs_of runs) in
    let accepts = (lent_enough (bytes_of number runs) words bytes number runs (one.accepts words bytes (le_refl words) (le_refl bytes))).2 in
    let p = subst (λ (v : Parsed). Reported v text text' n) accepts r in
    subst (λ t. Listed t text text' n) (ap₂ plan_text (one.head_is p.routes p.least) (one.entries_are p.routes p.least)) p.listed

-- what is listed of job 7
pub sample_listed : (text text' : List ℕ) (n : ℕ) → Reported (judged (parse (bytes_of 7 job7_runs))) text text' n → Listed sample text text' n
sample_listed text text' n r =
    subst (λ t. Listed t text text' n) sample_text (one_plan_listed 7 job7_runs job7_head job7_entries examples.job_7 text text' n r)

-- the line of a job without runs
abbrev pub blank_line : (number : ℕ) → List ℕ
blank_line number = ascii "job " ++ decimal number ++ ascii " runs 0 groups 0 trench 0 saved 0 pits 0\n"

-- it is the text of the job's one plan: behind the number all is given, and is gathered part by part
blank_text : (number : ℕ) → plan_text (blank_head number) [] ≡ blank_line number
unfolding plan_text decimal digits flat_map
blank_text number =
    ap (λ l. ascii "job " ++ l) (gather (decimal number) (ascii " runs 0") (ascii " groups 0") (ascii " trench 0 saved 0 pits 0") (ascii "\n") [])
  where
    gather : (d a b c e f : List ℕ) → d ++ a ++ b ++ c ++ e ++ f ≡ d ++ (a ++ b ++ c ++ e ++ f)
    gather d a b c e f =
        ap (λ l. l ++ c ++ e ++ f) (append_assoc d a b)
        ∙ ap (λ l. l ++ e ++ f) (append_assoc d (a ++ b) c)
        ∙ ap (λ l. l ++ f) (append_assoc d (a ++ b ++ c) e)
        ∙ append_assoc d (a ++ b ++ c ++ e) f

-- what is listed of a job without runs
pub blank_listed : (number : ℕ) → number < 2 ^ 32 → (text text' : List ℕ) (n : ℕ) → Reported (judged (parse (bytes_of number []))) text text' n
    → Listed (blank_line number) text text' n
blank_listed number f text text' n r =
    subst (λ t. Listed t text text' n) (blank_text number) (one_plan_listed number [] (blank_head number) [] (examples.blank_plan number f) text text' n r)

-- and what is listed of a job with a group that is no star
pub refusal_sample : refusal_text NoStar ≡ ascii "refused 11 at 0\n"
unfolding refusal_text decimal digits
refusal_sample = refl
