-- Our own plan as the first book (`ours_stays`): it was read back as the plan of least routes, which is true; and what is true of another book's routes makes
-- them no shorter.
use mathlib.Core.Path.{◌≡◌, refl, sym, ap, ◌∙◌, subst}
use mathlib.Core.Bool.{Bool, true, false, cond, ◌&&◌, false≢true}
use mathlib.Core.List.{List, map}
use Prim.Native.Nat.{ℕ, ◌≤◌}
use Rattle.std.specs.Prelude.{Result, Ok, Err}
use native.Mathlib.Omega.{arith}
use borrow.Author.Tests.{le-leb}
use lib.Dec.{leb}
use lib.ListN.{length, get_or}
use Rattle.network.specs.Hanan.{hanan}
use Rattle.network.specs.Route.{Route, Routes, Least}
use Rattle.network.specs.Corners.{corners}
use Rattle.network.proofs.Tests.{and_split, and_join}
use Rattle.network.proofs.Corners.{corners_routes, corners_least}
use Rattle.refusal.specs.declared.Refusal.{Refusal}
use Rattle.refusal.specs.declared.Refusal.TheVariants.{OtherJob, Untrue}
use Rattle.refusal.specs.Refusal.{refusal_number, refusal_place}
use Rattle.job.specs.declared.Run.{Run as Read}
use Rattle.job.specs.Parse.{Parsed, accepted, refused, parse}
use Rattle.job.specs.Written.{Bytes}
use Rattle.plan.specs.declared.Head.{Head}
use Rattle.plan.specs.Plan.{Entry, entries_from, head_of, meets_of, centre_figure}
use Rattle.plan.proofs.Whole.{entries_corners}
use Rattle.book.specs.Parse.{Parsed as Reading, accepted as read_as, refused as unread, parse_plan}
use Rattle.book.proofs.Accepted.{accepted_routes}
use Rattle.planner.specs.Call.{runs_of, numbers_of, gives}
use Rattle.planner.specs.Verdict.{judged, verdict}
use Rattle.planner.specs.Outcome.{Outcome}
use Rattle.planner.specs.Figures.{plan_head, plan_entries}
use Rattle.planner.proofs.Verdicts.{no_plan, lent_enough}
use Rattle.planner.proofs.Stars.{job_star}
use Rattle.planner.proofs.Stored.{plan_read}
use Rattle.judge.specs.True.{drawn_in, True}
use Rattle.judge.specs.Judged.{is_of, is_true, judgement_of}
use Rattle.judge.proofs.TrueIff.{true_iff}
use Rattle.choice.specs.declared.Chosen.{Chosen}
use Rattle.choice.specs.declared.Chosen.TheVariants.{First, Second}
use Rattle.choice.specs.Choice.{lesser, choice_for, choice_of}
use Rattle.choice.specs.Ours.{Ours, TrueBook, Stays}

-- ---- true books pass, and no other

module _ (number : ℕ) (runs : List Read) (place : ℕ) (book : List ℕ) where
  -- a true book passes, with its trench figure
  pub true_passes : (t : TrueBook number runs book) → judgement_of number runs place (parse_plan book) ≡ Ok t.head.trench
  unfolding judgement_of
  true_passes t =
      let h = t.head in
      let es = t.entries in
      let (a, b) = and_split (is_of number runs h es) (is_true runs h es) ((true_iff number runs h es (accepted_routes book h es t.read).0).1 t.holds) in
      ap (judgement_of number runs place) t.read ∙ simp (a, b)

  -- what passes is true
  pub passed_true : (u : ℕ) → judgement_of number runs place (parse_plan book) ≡ Ok u → (t : TrueBook number runs book) × (t.head.trench ≡ u)
  unfolding judgement_of
  passed_true u e = go (parse_plan book) refl e
    where
      both : (h : Head) (es : List Entry) (a b : Bool) → is_of number runs h es ≡ a → is_true runs h es ≡ b
          → cond a (cond b (Ok h.trench) (Err (Untrue place))) (Err (OtherJob place)) ≡ Ok u
          → (is_of number runs h es && is_true runs h es ≡ true) × (h.trench ≡ u)
      both h es true true p q k = (and_join (is_of number runs h es) (is_true runs h es) p q, cc)
      both h es true false p q k = absurd (let z : ◌≡◌ {A = ℕ} 0 1 = cc in omega arith)
      both h es false b p q k = absurd (let z : ◌≡◌ {A = ℕ} 0 1 = cc in omega arith)

      go : (q : Reading) → parse_plan book ≡ q → judgement_of number runs place q ≡ Ok u → (t : TrueBook number runs book) × (t.head.trench ≡ u)
      go (unread x) r k = absurd (let z : ◌≡◌ {A = ℕ} 0 1 = cc in omega arith)
      go (read_as h es) r k =
          let (t, q) = both h es (is_of number runs h es) (is_true runs h es) refl refl k in
          (record { head = h; entries = es; read = r; holds = (true_iff number runs h es (accepted_routes book h es r).0).0 t }, q)

-- ---- our plan

-- a plan of Manhattan routes is true
pub plan_true : (number : ℕ) (runs : List Read) (routes : List Route) → Routes (hanan (runs_of runs)) (runs_of runs) routes
    → True number runs (plan_head number runs routes) (plan_entries runs routes)
plan_true number runs routes m =
    let own = map corners routes in
    let e = entries_corners (λ i. get_or (numbers_of runs) i 0) (meets_of (runs_of runs)) (centre_figure (numbers_of runs) (runs_of runs)) 0 own in
    record {
      routes = subst (Routes (hanan (runs_of runs)) (runs_of runs)) (sym e) (corners_routes (hanan (runs_of runs)) (runs_of runs) routes m);
      head = ap (head_of number (runs_of runs)) (sym e);
      entries = ap (entries_from (λ i. get_or (numbers_of runs) i 0) (meets_of (runs_of runs)) (centre_figure (numbers_of runs) (runs_of runs)) 0) (sym e);
    }

-- the trench of a true book is the length of its routes' union, so least routes have no more
trench_least : (number : ℕ) (runs : List Read) (routes : List Route) → Least (hanan (runs_of runs)) (runs_of runs) routes
    → (h : Head) (es : List Entry) → True number runs h es → (plan_head number runs routes).trench ≤ h.trench
trench_least number runs routes l h es t =
    omega (arith, (corners_least (hanan (runs_of runs)) (runs_of runs) routes l).least (drawn_in es) t.routes, ap (λ (x : Head). x.trench) t.head)

-- ---- as the first book

module _ (job book : List ℕ) (number : ℕ) (runs : List Read) (e : judged (parse job) ≡ accepted number runs) (ours : TrueBook number runs book)
    (least : (h : Head) (es : List Entry) → True number runs h es → ours.head.trench ≤ h.trench) where
  -- the second book alone decides
  second_decides : (second : List ℕ) → choice_of job book second ≡ lesser (Ok ours.head.trench) (judgement_of number runs 2 (parse_plan second))
  unfolding choice_of choice_for
  second_decides second =
      ap (λ v. choice_for v book second) e ∙ ap (λ j. lesser j (judgement_of number runs 2 (parse_plan second))) (true_passes number runs 1 book ours)

  -- a refusal is that of the second book
  refused_second : (t : ℕ) (j : Result ℕ Refusal) (x : Refusal) → lesser (Ok t) j ≡ Err x → j ≡ Err x
  unfolding lesser
  refused_second t (Err y) x k = let same : y ≡ x = cc in ap Err same
  refused_second t (Ok u) x k = absurd (let z : ◌≡◌ {A = ℕ} 0 1 = cc in omega arith)

  -- with no less trench than the first, the second is not handed back
  not_second : (t : ℕ) (j : Result ℕ Refusal) → ((u : ℕ) → j ≡ Ok u → t ≤ u) → lesser (Ok t) j ≡ Ok Second → ⊥
  unfolding lesser
  not_second t (Err y) h k = let z : ◌≡◌ {A = ℕ} 0 1 = cc in omega arith
  not_second t (Ok u) h k = go (leb t u) (le-leb t u (h u refl)) k
    where
      go : (b : Bool) → b ≡ true → ◌≡◌ {A = Result Chosen Refusal} (Ok (cond b First Second)) (Ok Second) → ⊥
      go true p k = let z : ◌≡◌ {A = ℕ} 0 1 = cc in omega arith
      go false p k = false≢true p

  stays : Stays job book
  unfolding lesser
  stays =
      record {
        number = number;
        runs = runs;
        job_is = e;
        is_true = ours;
        never_refused = λ second x k. refused_second ours.head.trench (judgement_of number runs 2 (parse_plan second)) x (sym (second_decides second) ∙ k);
        never_second =
            λ second k.
            not_second ours.head.trench (judgement_of number runs 2 (parse_plan second))
            (λ u p. let (t, q) = passed_true number runs 2 second u p in omega (arith, q, least t.head t.entries t.holds))
            (sym (second_decides second) ∙ k);
        kept =
            λ second t.
            second_decides second ∙ ap (lesser (Ok ours.head.trench)) (true_passes number runs 2 second t)
            ∙ simp (le-leb ours.head.trench t.head.trench (least t.head t.entries t.holds));
        less_untrue = λ second t k. omega (arith, least t.head t.entries t.holds);
      }

-- Our plan is true, is handed back whatever true book comes second, and no true book has less trench.
pub ours_stays : (job book : List ℕ) → Bytes job → Ours job book → Stays job book
ours_stays job book b o = go (verdict job o.words (length o.out)) refl o.call
  where
    go : (v : Parsed) → verdict job o.words (length o.out) ≡ v → Outcome v o.out (gives o.answered) o.out' → Stays job book
    go (refused x) e p = absurd (no_plan o.answered (refusal_number x) (refusal_place x) p.says)
    go (accepted number runs) e p =
        let d = (lent_enough job o.words (length o.out) number runs e).2 in
        let w = (job_star job b number runs d).0 in
        let r = plan_read number runs w o.out o.answered o.out' p in
        stays job book number runs d
        (record {
          head = plan_head number runs r.routes;
          entries = plan_entries runs r.routes;
          read = ap parse_plan o.book_is ∙ r.read;
          holds = plan_true number runs r.routes r.least.are_routes;
        })
        (trench_least number runs r.routes r.least)
