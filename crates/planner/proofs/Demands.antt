-- THE THREE DEMANDS follow from the contract of a call, `Outcome` of the verdict. The verdict is the first refusal that applies, or the job (`First`,
-- `Stars`); and a plan's bytes determine its head and corners, so whoever reads them as a plan reads the one that was written.
use mathlib.Core.Path.{◌≡◌, refl, sym, ap, ◌∙◌, subst, subst₂}
use mathlib.Core.Logic.{◌↔◌, ◌⊎◌, inl, inr}
use mathlib.Core.List.{List, ◌++◌, map}
use Prim.Native.Nat.{ℕ, zero, suc, ◌-◌, ◌≤◌}
use native.Mathlib.Omega.{arith}
use lib.IntN.{ℤ, pos, neg_ℤ}
use lib.Dec.{eqb, ltb}
use lib.ListN.{length, get_or, take, drop, replicate}
use lib.Seq.{take-append_seam}
use Rattle.network.specs.Lists.{sum, All}
use Rattle.network.specs.Plane.{distance}
use Rattle.network.specs.Hanan.{hanan}
use Rattle.network.specs.Route.{Route, union_length, Least}
use Rattle.network.specs.Corners.{corners}
use Rattle.network.proofs.Corners.{corners_least}
use Rattle.unit.specs.Paths.{LeastCut}
use Rattle.unit.proofs.Attained.{least_cut}
use Rattle.job.specs.declared.Run.{Run as Read}
use Rattle.refusal.specs.declared.Refusal.{Refusal}
use Rattle.refusal.specs.declared.Refusal.TheVariants.{ShortWork, ShortBuffer, NoStar}
use Rattle.refusal.specs.Refusal.{refusal_number, refusal_place}
use Rattle.job.specs.Order.{order, before}
use Rattle.job.specs.Parse.{Parsed, accepted, refused, parse}
use Rattle.job.specs.Written.{Bytes, WellFormed}
use Rattle.plan.specs.declared.Head.{Head}
use Rattle.plan.specs.Plan.{Entry, book_bytes, entries_from, head_of, meets_of, centre_figure, drawn_bytes, plan_bytes}
use Rattle.plan.proofs.Determined.{book_head, book_corners}
use Rattle.plan.specs.Fits.{PointIn, HeadFits}
use Rattle.plan.proofs.Whole.{entries_corners}
use Rattle.job.proofs.Located.{one_stage}
use Rattle.job.proofs.First.{first_applies}
use Rattle.refusal.proofs.Numbers.{refusal_numbers}
use Rattle.std.specs.Prelude.{Result, Ok, Err}
use Rattle.planner.specs.Verdict.{foretold_by, forecast_of, words_told, Words, judged, verdict}
use Rattle.planner.specs.Call.{runs_of, numbers_of, plan_of, Said, gives, refuses, said, code_of, Plans}
use Rattle.planner.specs.Forecast.{bytes_for}
use Rattle.planner.specs.Outcome.{Outcome, MapOutcome, LentOutcome}
use Rattle.planner.specs.Demands.{JobIn, AreStars, Admitted, Applies, in_bytes, short_work, short_plan, no_star, Leaves, LeastPlan, Demands, Foreseen, WordsLeft, PlanDemands, MapDemands, LentDemands, Forecasts}
use Rattle.planner.proofs.Fits.{runs_apart, corners_in_lem, head_fits}
use Rattle.planner.proofs.Room.{words_most, plan_within}
use Rattle.planner.proofs.Verdicts.{no_plan, few_words, few_bytes, read_weighed, enough, lent_enough}
use Rattle.planner.proofs.Stars.{judged_accepts, judged_refuses, job_star, job_read, star_job, same_job}
use Rattle.planner.proofs.First.{first_given}

-- ---- the plan's bytes, read as a head and entries

-- the plan's own routes: those that its corner records draw
abbrev pub own_routes : List Route → List Route
own_routes routes = map corners routes

module _ (number : ℕ) (runs : List Read) (w : WellFormed number runs) (routes : List Route) (l : Least (hanan (runs_of runs)) (runs_of runs) routes) where
  -- its own routes are least too
  pub own_least : Least (hanan (runs_of runs)) (runs_of runs) (own_routes routes)
  own_least = corners_least (hanan (runs_of runs)) (runs_of runs) routes l

  -- whatever is read from the plan's bytes has the plan's figures and corners
  read_least : (head : Head) (es : List Entry) → HeadFits head → All (All PointIn) (map (λ e. e.corners) es) → book_bytes head es ≡ plan_of number runs routes
      → LeastPlan runs head es
  unfolding plan_bytes drawn_bytes
  read_least head es fits in_range e =
      let g = hanan (runs_of runs) in
      let own = own_routes routes in
      let number_of : ℕ → ℕ = λ i. get_or (numbers_of runs) i 0 in
      let h : head ≡ head_of number (runs_of runs) own
      = book_head head (head_of number (runs_of runs) own) es (entries_from number_of (meets_of (runs_of runs)) (centre_figure (numbers_of runs) (runs_of runs)) 0 own) fits
      (head_fits number runs w routes l.are_routes) e in
      let o = entries_corners number_of (meets_of (runs_of runs)) (centre_figure (numbers_of runs) (runs_of runs)) 0 own in
      let c : map (λ e. e.corners) es ≡ own
      = book_corners head (head_of number (runs_of runs) own) es (entries_from number_of (meets_of (runs_of runs)) (centre_figure (numbers_of runs) (runs_of runs)) 0 own) in_range
      (rw o (corners_in_lem runs w.in_range routes l.are_routes)) e ∙ o in
      let t = ap (λ (x : Head). x.trench) h in
      record {
        least = subst (Least g (runs_of runs)) (sym c) own_least;
        trench = t ∙ ap (union_length g) (sym c);
        cut = subst₂ (LeastCut (runs_of runs)) (sym c) (sym t) (least_cut (runs_of runs) own own_least);
      }

-- the first bytes, as many as are answered, are the plan
pub plan_front : (number : ℕ) (runs : List Read) (out : List ℕ) (s : Said) (out' : List ℕ) (p : Plans number runs out s out') (n : ℕ) → s ≡ gives n
    → take n out' ≡ plan_of number runs p.routes
plan_front number runs out s out' p n a =
    let plan = plan_of number runs p.routes in
    ap (λ k. take k out') (same_length n (length plan) (sym a ∙ p.says))
    ∙ ap (λ l. take (length plan) l) p.plan
    ∙ take-append_seam plan (drop (length plan) out)
  where
    same_length : (a c : ℕ) → gives a ≡ gives c → a ≡ c
    same_length a c z = cc

-- ---- THE DEMANDS of a call, from the contract's outcome

module _ (job : List ℕ) (words : ℕ) (out : List ℕ) (s : Said) (out' : List ℕ) (b : Bytes job)
    (call : Outcome (verdict job words (length out)) out s out') where
  -- DEMAND 2: a plan is answered exactly if enough is lent, the job is well formed, and its groups are stars
  answered : ((n : ℕ) × (s ≡ gives n)) ↔ Admitted job words (length out)
  answered = (λ a. forth (verdict job words (length out)) refl call a.0 a.1, back)
    where
      forth : (v : Parsed) → verdict job words (length out) ≡ v → Outcome v out s out' → (n : ℕ) → s ≡ gives n → Admitted job words (length out)
      forth (accepted number runs) e o n a =
          let (h, k, d) = lent_enough job words (length out) number runs e in
          let (w, j, t) = job_star job b number runs d in
          record { job_in = record { number = number; runs = runs; well_formed = w; written = j }; words_enough = h; bytes_enough = k; stars = t }
      forth (refused x) e o n a = absurd (no_plan n (refusal_number x) (refusal_place x) (sym a ∙ o.says))

      back : Admitted job words (length out) → (n : ℕ) × (s ≡ gives n)
      back a =
          let j = a.job_in in
          let e = enough job j.number j.runs (job_read job b j) words (length out) a.words_enough a.bytes_enough ∙ star_job job b j a.stars in
          let p = subst (λ (v : Parsed). Outcome v out s out') e call in
          (length (plan_of a.job_in.number a.job_in.runs p.routes), p.says)

  -- DEMAND 3: however the answered bytes are read
  least_read : (n : ℕ) → s ≡ gives n → (j : JobIn job) (head : Head) (es : List Entry) → HeadFits head → All (All PointIn) (map (λ e. e.corners) es)
      → book_bytes head es ≡ take n out' → LeastPlan j.runs head es
  least_read n a j head es fits in_range q = go (verdict job words (length out)) refl call
    where
      go : (v : Parsed) → verdict job words (length out) ≡ v → Outcome v out s out' → LeastPlan j.runs head es
      go (refused x) e o = absurd (no_plan n (refusal_number x) (refusal_place x) (sym a ∙ o.says))
      go (accepted number runs) e p =
          let d = (lent_enough job words (length out) number runs e).2 in
          subst (λ rs. LeastPlan rs head es) (same_job job b j number runs (judged_accepts (parse job) number runs d).0).1
          (read_least number runs (job_star job b number runs d).0 p.routes p.least head es fits in_range (q ∙ plan_front number runs out s out' p n a))

  -- DEMAND 1: what is said and what is left
  leaves : Leaves job words out s out'
  leaves = go (verdict job words (length out)) refl call
    where
      go : (v : Parsed) → verdict job words (length out) ≡ v → Outcome v out s out' → Leaves job words out s out'
      go (accepted number runs) e p =
          let (w, j, t) = job_star job b number runs (lent_enough job words (length out) number runs e).2 in
          subst (λ a. Leaves job words out a out') (sym p.says)
          (record { number = number; runs = runs; well_formed = w; written = j }, subst (λ a. Plans number runs out a out') p.says p)
      go (refused x) e p =
          subst (λ a. Leaves job words out a out') (sym p.says)
          (record { refusal = x; first = (first_given job words (length out) b x).0 e; number_is = refl; place_is = refl }, p.plan_kept)

  -- of any call with this outcome
  pub demands : Demands job words out s out'
  demands = record { demand_1 = leaves; demand_2 = answered; demand_3 = least_read }

  -- THE FORECAST HOLDS
  pub foreseen : Foreseen job words out s
  foreseen =
      record {
        lent = λ j h k number place q. not_short j (enough job j.number j.runs (job_read job b j) words (length out) h k) number place q;
        words_short = λ j h. refuses_by ShortWork (read_weighed job j.number j.runs (job_read job b j) words (length out) ∙ few_words _ _ words (length out) _ h);
        bytes_short = λ j h k. refuses_by ShortBuffer (read_weighed job j.number j.runs (job_read job b j) words (length out) ∙ few_bytes _ _ words (length out) _ h k);
        fits = λ j n q. within j n q (verdict job words (length out)) refl call;
      }
    where
      refuses_by : (x : Refusal) → verdict job words (length out) ≡ refused x → s ≡ refuses (refusal_number x) (refusal_place x)
      refuses_by x e = (subst (λ (v : Parsed). Outcome v out s out') e call).says

      not_short : (j : JobIn job) → verdict job words (length out) ≡ judged (parse job) → (number place : ℕ) → s ≡ refuses number place → number ≡ 11
      not_short j e number place q = go (judged (parse job)) refl (subst (λ (v : Parsed). Outcome v out s out') e call)
        where
          same : (m p : ℕ) → refuses m p ≡ refuses number place → m ≡ number
          same m p z = cc

          eleven : (x : Refusal) → (parse job ≡ refused x) ⊎ ((n : ℕ) × (rs : List Read) × (parse job ≡ accepted n rs) × (AreStars (runs_of rs) → ⊥) × (x ≡ NoStar))
              → refusal_number x ≡ 11
          eleven x (inl r) = absurd (let z : refused x ≡ accepted j.number j.runs = sym r ∙ job_read job b j in let y : ◌≡◌ {A = ℕ} 0 1 = cc in omega arith)
          eleven x (inr (n, rs, r, o, z)) = ap refusal_number z

          go : (v : Parsed) → judged (parse job) ≡ v → Outcome v out s out' → number ≡ 11
          go (accepted n rs) v o = absurd (no_plan (length (plan_of n rs o.routes)) number place (sym o.says ∙ q))
          go (refused x) v o = sym (same (refusal_number x) (refusal_place x) (sym o.says ∙ q)) ∙ eleven x (judged_refuses (parse job) x v)

      within : (j : JobIn job) (n : ℕ) → s ≡ gives n → (v : Parsed) → verdict job words (length out) ≡ v → Outcome v out s out' → n ≤ bytes_for (runs_of j.runs)
      within j n q (refused x) v o = absurd (no_plan n (refusal_number x) (refusal_place x) (sym q ∙ o.says))
      within j n q (accepted number runs) v o =
          let d = (lent_enough job words (length out) number runs v).2 in
          let r = (same_job job b j number runs (judged_accepts (parse job) number runs d).0).1 in
          let w = (job_star job b number runs d).0 in
          subst (λ rs. n ≤ bytes_for (runs_of rs)) r
          (subst (λ k. k ≤ bytes_for (runs_of runs)) (sym (same n (length (plan_of number runs o.routes)) (sym q ∙ o.says)))
          (plan_within number runs o.routes (runs_apart runs w.apart) o.least.are_routes))
        where
          same : (a c : ℕ) → gives a ≡ gives c → a ≡ c
          same a c z = cc

-- what is left of the words, by what the job's own forecast is
words_left : (job : List ℕ) (words : ℕ) (out : List ℕ) (s : Said) (out' work work' : List ℕ) → Bytes job → Leaves job words out s out' → Words (forecast_of job) s work work'
    → WordsLeft job s work work'
words_left job words out (gives n) out' work work' b l w =
    let j = l.0 in
    (j, w ∙ ap (λ p. replicate (words_told (foretold_by p)) 0 ++ drop (words_told (foretold_by p)) work) (job_read job b j))
words_left job words out (refuses number place) out' work work' b l w = w

-- THE DEMANDS OF `plan`, from its contract
pub plan_demands : (job work out : List ℕ) (answer : Result ℕ Refusal) (work' out' : List ℕ) → Bytes job
    → Outcome (verdict job (length work) (length out)) out (said answer) out' × Words (forecast_of job) (said answer) work work' → PlanDemands job work out answer work' out'
plan_demands job work out answer work' out' b call =
    let d = demands job (length work) out (said answer) out' b call.0 in
    record { demands = d; words = words_left job (length work) out (said answer) out' work work' b d.demand_1 call.1 }

-- a code that is a length tells of a plan
code_gives : (s : Said) (job : List ℕ) (words : ℕ) (out out' : List ℕ) → Leaves job words out s out' → (n : ℕ) → code_of s ≡ pos n → s ≡ gives n
code_gives (gives m) job words out out' l n e = ap gives (same m n e)
  where
    same : (a b : ℕ) → pos a ≡ pos b → a ≡ b
    same a b q = cc
code_gives (refuses number place) job words out out' l n e = absurd (below number (omega (arith, l.0.number_is, refusal_numbers l.0.refusal)) e)
  where
    below : (k : ℕ) → 1 ≤ k → neg_ℤ (pos k) ≡ pos n → ⊥
    below zero h q = omega arith
    below (suc k) h q = let z : ◌≡◌ {A = ℕ} 0 1 = cc in omega arith

-- THE DEMANDS OF THE MAP SCREEN'S FUNCTION, from its contract
pub map_demands : (job : List ℕ) (words : ℕ) (out : List ℕ) (code : ℤ) (out' : List ℕ) → Bytes job → MapOutcome (verdict job words (length out)) out code out'
    → MapDemands job words out code out'
map_demands job words out code out' b call =
    let s = call.said in
    let d = demands job words out s out' b call.outcome in
    record {
      says = s;
      told = call.told;
      demands = d;
      answered = (
        λ a. d.demand_2.0 (a.0, code_gives s job words out out' d.demand_1 a.0 (sym call.told ∙ a.1)),
        λ a. let (n, e) = d.demand_2.1 a in (n, call.told ∙ ap code_of e),
      );
    }

-- and of the one that is lent the words
pub lent_demands : (job work out : List ℕ) (code : ℤ) (work' out' : List ℕ) → Bytes job → LentOutcome job work out code work' out'
    → LentDemands job work out code work' out'
unfolding map_demands
lent_demands job work out code work' out' b call =
    let m = call.map_outcome in
    record {
      map_demands = map_demands job (length work) out code out' b m;
      words = words_left job (length work) out m.said out' work work' b (demands job (length work) out m.said out' b m.outcome).demand_1 call.words;
    }

-- THE FORECAST tells what it is to tell
pub forecasts : (job : List ℕ) → Bytes job → Forecasts job (forecast_of job)
forecasts job b =
    record {
      needs = λ j. ap foretold_by (job_read job b j);
      refuses = λ x. (λ e. (first_applies job x).0 (refused_by x (parse job) e), λ f. ap foretold_by ((first_applies job x).1 f));
    }
  where
    refused_by : (x : Refusal) (p : Parsed) → foretold_by p ≡ Err x → p ≡ refused x
    refused_by x (accepted number runs) e = absurd (let z : ◌≡◌ {A = ℕ} 0 1 = cc in omega arith)
    refused_by x (refused y) e = let z : y ≡ x = cc in ap refused z

-- the refusal behind a code of the map screen's function that is minus a number: it applies, and has that number
told_refusal : (job : List ℕ) (words : ℕ) (out : List ℕ) (code : ℤ) (out' : List ℕ) → MapDemands job words out code out' → (n : ℕ) → code ≡ neg_ℤ (pos (suc n))
    → (x : Refusal) × Applies job words (length out) x × (refusal_number x ≡ suc n)
told_refusal job words out code out' d n e = go d.says d.demands.demand_1 (sym d.told ∙ e)
  where
    same : (k : ℕ) → neg_ℤ (pos k) ≡ neg_ℤ (pos (suc n)) → k ≡ suc n
    same zero q = let z : ◌≡◌ {A = ℕ} 0 1 = cc in absurd (omega arith)
    same (suc k) q = let z : k ≡ n = cc in omega arith

    go : (s : Said) → Leaves job words out s out' → code_of s ≡ neg_ℤ (pos (suc n)) → (x : Refusal) × Applies job words (length out) x × (refusal_number x ≡ suc n)
    go (gives m) l q = let z : ◌≡◌ {A = ℕ} 0 1 = cc in absurd (omega arith)
    go (refuses number place) l q = (l.0.refusal, l.0.first.applies, sym l.0.number_is ∙ same number q)

-- 1 does not apply where 16,384 words are lent: no job needs more, and what applies to the bytes is in another stage
never_short : (job : List ℕ) (bytes : ℕ) (x : Refusal) → Applies job 16384 bytes x → refusal_number x ≡ 1 → ⊥
never_short job bytes x (in_bytes a) e = omega (arith, one_stage job x a, ap stage_at e)
  where
    stage_at : ℕ → ℕ
    stage_at n = before (λ stage. ltb (before (eqb n) stage) (length stage)) order
never_short job bytes x (short_work j h) e = omega (arith, words_most j.runs j.well_formed.most)
never_short job bytes x (short_plan j h) e = omega arith
never_short job bytes x (no_star j n) e = omega arith

-- The map screen, which brings 16,384 words, is never told -1.
pub never_minus_1 : (job out : List ℕ) (code : ℤ) (out' : List ℕ) → MapDemands job 16384 out code out' → code ≡ neg_ℤ (pos 1) → ⊥
never_minus_1 job out code out' d e = let (x, a, n) = told_refusal job 16384 out code out' d 0 e in never_short job (length out) x a n

-- 10 CANNOT OCCUR: whatever `plan` answers, it says no number 10 ..
pub never_10 : (answer : Result ℕ Refusal) (place : ℕ) → said answer ≡ refuses 10 place → ⊥
never_10 (Ok n) place e = no_plan n 10 place e
never_10 (Err x) place e = (refusal_numbers x).2 (same_number_lem (refusal_number x) (refusal_place x) e)
  where
    same_number_lem : (number at : ℕ) → refuses number at ≡ refuses 10 place → number ≡ 10
    same_number_lem number at q = cc

-- .. and the map screen is never told -10.
pub never_minus_10 : (job : List ℕ) (words : ℕ) (out : List ℕ) (code : ℤ) (out' : List ℕ) → MapDemands job words out code out' → code ≡ neg_ℤ (pos 10) → ⊥
never_minus_10 job words out code out' d e = let (x, a, n) = told_refusal job words out code out' d 9 e in (refusal_numbers x).2 n

-- Two plans of one job have the same trench and the same saved figure; their meets figures are the job's.
pub same_figures : (number : ℕ) (runs : List Read) (routes others : List Route) → Least (hanan (runs_of runs)) (runs_of runs) routes
    → Least (hanan (runs_of runs)) (runs_of runs) others
    → ((head_of number (runs_of runs) (own_routes routes)).trench ≡ (head_of number (runs_of runs) (own_routes others)).trench)
    × ((head_of number (runs_of runs) (own_routes routes)).saved ≡ (head_of number (runs_of runs) (own_routes others)).saved)
same_figures number runs routes others l k =
    let g = hanan (runs_of runs) in
    let a = corners_least g (runs_of runs) routes l in
    let b = corners_least g (runs_of runs) others k in
    let e : union_length g (own_routes routes) ≡ union_length g (own_routes others)
    = omega (arith, a.least (own_routes others) b.are_routes, b.least (own_routes routes) a.are_routes) in
    (e, ap (λ n. sum distance (runs_of runs) - n) e)
