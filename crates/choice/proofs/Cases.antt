-- The cases of the choice, one law a return of the code; and what is known of the book handed back.
use mathlib.Core.Path.{◌≡◌, sym, ap, ap₂, ◌∙◌}
use mathlib.Core.Bool.{true, false}
use mathlib.Core.List.{List}
use Prim.Native.Nat.{ℕ, ◌≤◌, ◌<◌}
use Rattle.std.specs.Prelude.{Result, Ok, Err}
use borrow.Author.Tests.{le-leb, lt-leb}
use Rattle.refusal.specs.declared.Refusal.{Refusal}
use Rattle.refusal.specs.declared.Refusal.TheVariants.{NoStar}
use Rattle.job.specs.declared.Run.{Run as Read}
use Rattle.job.specs.Parse.{accepted, refused, parse}
use Rattle.book.specs.Parse.{parse_plan}
use Rattle.planner.specs.Call.{runs_of}
use Rattle.planner.specs.Verdict.{are_stars, judged}
use Rattle.judge.specs.Judged.{judgement_of}
use Rattle.choice.specs.declared.Chosen.TheVariants.{First, Second}
use Rattle.choice.specs.Choice.{lesser, choice_for, choice_of}

-- ---- the books of a job

module _ (number : ℕ) (runs : List Read) (first second : List ℕ) where
  abbrev a : Result ℕ Refusal
  a = judgement_of number runs 1 (parse_plan first)

  abbrev b : Result ℕ Refusal
  b = judgement_of number runs 2 (parse_plan second)

  pub first_refused : (x : Refusal) → a ≡ Err x → Err x ≡ choice_for (accepted number runs) first second
  unfolding choice_for lesser
  first_refused x e = sym (ap (λ j. lesser j b) e)

  module _ (t : ℕ) (p : a ≡ Ok t) where
    pub second_refused : (x : Refusal) → b ≡ Err x → Err x ≡ choice_for (accepted number runs) first second
    unfolding choice_for lesser
    second_refused x e = sym (ap₂ lesser p e)

    module _ (u : ℕ) (q : b ≡ Ok u) where
      pub first_chosen : t ≤ u → Ok First ≡ choice_for (accepted number runs) first second
      unfolding choice_for lesser
      first_chosen h = sym (ap₂ lesser p q ∙ simp (le-leb t u h))

      pub second_chosen : u < t → Ok Second ≡ choice_for (accepted number runs) first second
      unfolding choice_for lesser
      second_chosen h = sym (ap₂ lesser p q ∙ simp (lt-leb t u h))

-- ---- the job

pub stars_chosen : (number : ℕ) (runs : List Read) (first second : List ℕ) → are_stars (runs_of runs) ≡ true
    → choice_for (judged (accepted number runs)) first second ≡ choice_for (accepted number runs) first second
unfolding judged
stars_chosen number runs first second e = rw e

pub no_star_chosen : (number : ℕ) (runs : List Read) (first second : List ℕ) → are_stars (runs_of runs) ≡ false
    → Err NoStar ≡ choice_for (judged (accepted number runs)) first second
unfolding judged choice_for
no_star_chosen number runs first second e = rw e

pub job_accepted : (job first second : List ℕ) (number : ℕ) (runs : List Read) → parse job ≡ accepted number runs
    → choice_for (judged (accepted number runs)) first second ≡ choice_of job first second
unfolding choice_of
job_accepted job first second number runs e = rw e

pub job_refused : (job first second : List ℕ) (x : Refusal) → parse job ≡ refused x → Err x ≡ choice_of job first second
unfolding choice_of choice_for judged
job_refused job first second x e = rw e
