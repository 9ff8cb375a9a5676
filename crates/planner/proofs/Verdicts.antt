-- The outcomes of a call, stage by stage: the verdict falls where the code answers.
use mathlib.Core.Path.{◌≡◌, refl, sym, ap, ◌∙◌, subst}
use mathlib.Core.Bool.{Bool, true, false, cond}
use mathlib.Core.List.{List}
use Prim.Native.Nat.{ℕ, ◌≤◌, ◌<◌}
use native.Mathlib.Omega.{arith}
use native.Mathlib.Decide.{dec_le}
use borrow.Author.Tests.{lt-ltb, le-ltb}
use lib.Dec.{ltb}
use lib.ListN.{length}
use Rattle.job.specs.declared.Run.{Run as Read}
use Rattle.refusal.specs.declared.Refusal.{Refusal}
use Rattle.refusal.specs.declared.Refusal.TheVariants.{ShortWork, ShortBuffer, NoStar}
use Rattle.job.specs.Parse.{Parsed, accepted, refused, parse}
use Rattle.job.specs.Reading.{answer_place, answer_said, place_said}
use Rattle.job.specs.Written.{Bytes}
use Rattle.job.proofs.Accepted.{accepted_well_formed}
use Rattle.std.specs.Prelude.{Ok, Err}
use Rattle.planner.specs.Forecast.{words_for, bytes_for, needs_of}
use Rattle.planner.specs.Verdict.{foretold_by, forecast_of, Words, are_stars, judged, weighed, verdict}
use Rattle.planner.specs.Call.{runs_of, Said, gives, refuses, said, Plans}
use Rattle.planner.specs.Outcome.{Outcome}
use Rattle.planner.proofs.Room.{words_most, bytes_most}
use Rattle.planner.proofs.Stars.{judged_accepts}

-- a plan's length is no refusal
pub no_plan : (n number place : ℕ) → gives n ≡ refuses number place → ⊥
no_plan n number place e = let z : ◌≡◌ {A = ℕ} 0 1 = cc in omega arith

-- what is lent, weighed against the words and bytes that are needed
module _ (words bytes work out : ℕ) (p : Parsed) where
  pub few_words : work < words → weighed (Ok (record { words = words; bytes = bytes })) work out p ≡ refused ShortWork
  unfolding weighed
  few_words h = rw (lt-ltb work words h)

  pub few_bytes : words ≤ work → out < bytes → weighed (Ok (record { words = words; bytes = bytes })) work out p ≡ refused ShortBuffer
  unfolding weighed
  few_bytes h k = rw (le-ltb work words h, lt-ltb out bytes k)

  pub weighs : words ≤ work → bytes ≤ out → weighed (Ok (record { words = words; bytes = bytes })) work out p ≡ p
  unfolding weighed
  weighs h k = rw (le-ltb work words h, le-ltb out bytes k)

-- two numbers of words that are enough weigh alike
pub same_weighed : (words bytes m work out : ℕ) (p : Parsed) → words ≤ m → words ≤ work → weighed (Ok (record { words = words; bytes = bytes })) m out p ≡ weighed (Ok (record { words = words; bytes = bytes })) work out p
unfolding weighed
same_weighed words bytes m work out p h k = rw (le-ltb m words h, le-ltb work words k)

-- of a job that is read, the forecast is weighed
module _ (job : List ℕ) (number : ℕ) (runs : List Read) (e : parse job ≡ accepted number runs) where
  pub read_weighed : (work out : ℕ) → verdict job work out ≡ weighed (Ok (needs_of (runs_of runs))) work out (judged (accepted number runs))
  read_weighed work out = ap (λ p. weighed (foretold_by p) work out (judged p)) e

  -- with the forecast or more the job decides
  pub enough : (work out : ℕ) → words_for (runs_of runs) ≤ work → bytes_for (runs_of runs) ≤ out → verdict job work out ≡ judged (parse job)
  enough work out h k = read_weighed work out ∙ weighs _ _ work out _ h k ∙ ap judged (sym e)

-- a job that cannot be read is refused as it is
pub unread : (job : List ℕ) (x : Refusal) (work out : ℕ) → parse job ≡ refused x → verdict job work out ≡ refused x
unfolding weighed
unread job x work out e = ap (λ p. weighed (foretold_by p) work out (judged p)) e

-- 16,384 words and 36,886 bytes are enough for at most 32 runs
pub few_read : (job : List ℕ) (work out : ℕ) → ((number : ℕ) (runs : List Read) → parse job ≡ accepted number runs → length runs ≤ 32) → 16384 ≤ work → 36886 ≤ out
    → verdict job work out ≡ judged (parse job)
unfolding judged
few_read job work out few h k = go (parse job) refl
  where
    go : (p : Parsed) → parse job ≡ p → verdict job work out ≡ judged (parse job)
    go (refused x) e = unread job x work out e ∙ ap judged (sym e)
    go (accepted number runs) e =
        let l = few number runs e in
        enough job number runs e work out (omega (arith, words_most runs l)) (omega (arith, bytes_most runs l))

-- and so for every job
pub most_lent : (job : List ℕ) (work out : ℕ) → Bytes job → 16384 ≤ work → 36886 ≤ out → verdict job work out ≡ judged (parse job)
most_lent job work out b = few_read job work out (λ number runs e. (accepted_well_formed job number runs b e).most)

-- 11 has the place 0, as a plan has
judged_place : (p : Parsed) → place_said (judged p) ≡ place_said p
unfolding judged
judged_place (refused x) = refl
judged_place (accepted number runs) = go (are_stars (runs_of runs))
  where
    go : (b : Bool) → place_said (cond b (accepted number runs) (refused NoStar)) ≡ 0
    go true = refl
    go false = refl

-- the place of the reader's answer
pub answer_placed : (p : Parsed) → answer_place (answer_said p) ≡ place_said p
answer_placed (accepted number runs) = refl
answer_placed (refused x) = refl

-- so have 1 and 2: the place of the verdict is the reader's
pub verdict_place : (job : List ℕ) (work out : ℕ) → place_said (verdict job work out) ≡ place_said (parse job)
unfolding weighed
verdict_place job work out = go (parse job)
  where
    weighed_place : (words bytes : ℕ) (p : Parsed) → place_said p ≡ 0 → (s t : Bool) → place_said (cond s (refused ShortWork) (cond t (refused ShortBuffer) p)) ≡ 0
    weighed_place words bytes p e true t = refl
    weighed_place words bytes p e false true = refl
    weighed_place words bytes p e false false = e

    go : (p : Parsed) → place_said (weighed (foretold_by p) work out (judged p)) ≡ place_said p
    go (refused x) = refl
    go (accepted number runs) =
        weighed_place (words_for (runs_of runs)) (bytes_for (runs_of runs)) (judged (accepted number runs)) (judged_place (accepted number runs))
        (ltb work (words_for (runs_of runs))) (ltb out (bytes_for (runs_of runs)))

-- a job that cannot be read
pub read_refused : (job out : List ℕ) (work : ℕ) (x : Refusal) → parse job ≡ refused x → Outcome (verdict job work (length out)) out (said (Err x)) out
read_refused job out work x e = rw (unread job x work (length out) e) (record { says = refl; plan_kept = refl })

-- and one that can
pub read_accepted : (job work out : List ℕ) (number : ℕ) (runs : List Read) (s : Said) (work' out' : List ℕ) → parse job ≡ accepted number runs
    → Outcome (weighed (foretold_by (accepted number runs)) (length work) (length out) (judged (accepted number runs))) out s out'
    → Words (foretold_by (accepted number runs)) s work work' → Outcome (verdict job (length work) (length out)) out s out' × Words (forecast_of job) s work work'
read_accepted job work out number runs s work' out' e o w = (
  subst (λ p. Outcome (weighed (foretold_by p) (length work) (length out) (judged p)) out s out') (sym e) o,
  subst (λ p. Words (foretold_by p) s work work') (sym e) w,
)

-- then the groups
module _ (number : ℕ) (out : List ℕ) (runs : List Read) where
  pub no_star : are_stars (runs_of runs) ≡ false → Outcome (judged (accepted number runs)) out (said (Err NoStar)) out
  unfolding judged
  no_star e = rw e (record { says = refl; plan_kept = refl })

  pub stars_planned : (s : Said) (out' : List ℕ) → are_stars (runs_of runs) ≡ true → Plans number runs out s out' → Outcome (judged (accepted number runs)) out s out'
  unfolding judged
  stars_planned s out' e p = rw e p

-- what is accepted was lent enough
pub lent_enough : (job : List ℕ) (work out number : ℕ) (runs : List Read) → verdict job work out ≡ accepted number runs
    → (words_for (runs_of runs) ≤ work) × (bytes_for (runs_of runs) ≤ out) × (judged (parse job) ≡ accepted number runs)
lent_enough job work out number runs e = read (parse job) refl
  where
    not : (x : Refusal) → refused x ≡ accepted number runs → ⊥
    not x q = let z : ◌≡◌ {A = ℕ} 0 1 = cc in omega arith

    same : (number' : ℕ) (runs' : List Read) → judged (accepted number' runs') ≡ accepted number runs → runs' ≡ runs
    same number' runs' q = let p = (judged_accepts (accepted number' runs') number runs q).0 in cc

    weigh : (number' : ℕ) (runs' : List Read) → parse job ≡ accepted number' runs' → Dec (words_for (runs_of runs') ≤ work) → Dec (bytes_for (runs_of runs') ≤ out)
        → (words_for (runs_of runs) ≤ work) × (bytes_for (runs_of runs) ≤ out) × (judged (parse job) ≡ accepted number runs)
    weigh number' runs' q (no h) d = absurd (not ShortWork (sym (few_words _ _ work out _ (omega arith)) ∙ sym (read_weighed job number' runs' q work out) ∙ e))
    weigh number' runs' q (yes h) (no k) = absurd (not ShortBuffer (sym (few_bytes _ _ work out _ h (omega arith)) ∙ sym (read_weighed job number' runs' q work out) ∙ e))
    weigh number' runs' q (yes h) (yes k) =
        let d = sym (enough job number' runs' q work out h k) ∙ e in
        let r = same number' runs' (ap judged (sym q) ∙ d) in
        (subst (λ rs. words_for (runs_of rs) ≤ work) r h, subst (λ rs. bytes_for (runs_of rs) ≤ out) r k, d)

    read : (p : Parsed) → parse job ≡ p → (words_for (runs_of runs) ≤ work) × (bytes_for (runs_of runs) ≤ out) × (judged (parse job) ≡ accepted number runs)
    read (refused x) q = absurd (not x (sym (unread job x work out q) ∙ e))
    read (accepted number' runs') q = weigh number' runs' q (dec_le (words_for (runs_of runs')) work) (dec_le (bytes_for (runs_of runs')) out)
