-- The surveyed examples and a blank job hold of the definitions, and job 7 of the listing and every blank job have one least plan: by tests that are
-- computed over all the ways to lay a job's routes.
--
-- A job that passes the tests of the reader is well formed, so reading its bytes gives it back and the verdict is by its groups; a job that is refused is read. No way to lay its
-- routes is shorter than the trench figure, and those of that length pass what else is given (pits; for job 7 the corners themselves): so do all
-- least plans. The other figures follow from the corners and the runs.
use mathlib.Core.Path.{◌≡◌, refl, sym, ap, ap₂, ◌∙◌, subst}
use mathlib.Core.Bool.{Bool, true, false, cond, not, ◌&&◌, false≢true}
use mathlib.Core.List.{List, [], ◌∷◌, ◌++◌, map, flatten, flat_map}
use Prim.Native.Nat.{ℕ, ◌+◌, ◌^◌, ◌≤◌, ◌<◌}
use native.Mathlib.Omega.{arith}
use borrow.Author.Tests.{leb-true, eqb-true, not-true}
use lib.Dec.{eqb, leb}
use lib.ListN.{length, get_or, drop}
use Rattle.network.specs.Lists.{sum, every, All, unique}
use Rattle.network.specs.Plane.{Point, gap, distance, same_point}
use Rattle.network.specs.Grid.{len, edges, spans, inside}
use Rattle.network.specs.Distinct.{insert}
use Rattle.network.specs.Hanan.{hanan}
use Rattle.network.specs.Route.{Route, level, lies, union_length}
use Rattle.network.specs.Graph.{overlap, meets, degree, is_centre, centres}
use Rattle.groups.specs.Groups.{reached, grown, spread, group_of, lowest, heads, group_count, in_star, all_stars, centre_of}
use Rattle.network.specs.Corners.{straight_on, corners}
use Rattle.network.proofs.Tests.{and_split}
use Rattle.network.proofs.Corners.{point_true}
use Rattle.network.proofs.Hanan.{hanan_all}
use Rattle.network.proofs.Choices.{ways, index_in, lane_of, routes_of, in_front, choices, LeastAre, least_test, least_tested}
use Rattle.network.specs.Pits.{amid, passes_row, passes_column, crossing, crossings, pit_points, pits_of}
use Rattle.job.specs.declared.Run.{Run as Read}
use Rattle.refusal.specs.declared.Refusal.{Refusal}
use Rattle.refusal.specs.declared.Refusal.TheVariants.{NoStar}
use Rattle.refusal.specs.Refusal.{refusal_number, refusal_place}
use Rattle.refusal.proofs.Numbers.{same_refusal}
use Rattle.job.specs.Records.{decoded, record_of}
use Rattle.job.specs.Parse.{Parsed, accepted, refused, follows, coordinates_in, coincide, run_step, end_step, step_by, read_from}
use Rattle.job.specs.Written.{bytes2, runs_bytes, bytes_of, WellFormed}
use Rattle.job.proofs.Steps.{follows_true, tested_range, coincide_false}
use Rattle.job.proofs.Rising.{Rising, none, more, rising_well_formed}
use Rattle.job.proofs.Written.{behind_head, written_read}
use Rattle.plan.specs.declared.Head.{Head}
use Rattle.plan.specs.Records.{head_record, end_record}
use Rattle.plan.specs.Plan.{Entry, book_bytes, entries_from, head_of, meets_of, centre_figure, drawn_bytes, plan_bytes}
use Rattle.planner.specs.Verdict.{foretold_by, forecast_of, are_stars, judged, verdict}
use Rattle.planner.specs.Call.{runs_of, numbers_of, Said, gives}
use Rattle.std.specs.Prelude.{Ok}
use Rattle.planner.specs.Forecast.{touching, words_for, bytes_for}
use Rattle.planner.specs.Figures.{plan_head, plan_entries}
use Rattle.planner.specs.Outcome.{Outcome}
use Rattle.planner.specs.Examples.{Figures, refused_with, figures, figures_pits, Example, examples, IsAccepted, LeastOf, HoldsOf, Holds, job7_runs, job7_head, job7_entries, blank_head, HasOnePlan}
use Rattle.planner.proofs.Verdicts.{enough, few_read}
use Rattle.planner.proofs.Fits.{runs_apart}

-- ---- well formed, by a test

-- each run passes the reader's tests, and the numbers rise from above `last`
rises : (last : ℕ) → List Read → Bool
rises last [] = true
rises last (r ∷ runs) = follows last r.number && coordinates_in r && not (coincide r) && rises r.number runs

-- at most 32 of them
well_test : List Read → Bool
well_test runs = leb (length runs) 32 && rises 0 runs

-- runs that pass it rise, are in range and have two points each
rises_true : (last : ℕ) (runs : List Read) → rises last runs ≡ true → Rising last runs
unfolding rises
rises_true last [] h = none
rises_true last (r ∷ runs) h =
    let (b, rest) = and_split (follows last r.number && coordinates_in r && not (coincide r)) _ h in
    let (a, n) = and_split (follows last r.number && coordinates_in r) _ b in
    let (f, c) = and_split (follows last r.number) _ a in
    more (follows_true last r.number f).rises (tested_range last r f c) (coincide_false r (not-true (coincide r) n)) (rises_true r.number runs rest)

-- a job that passes the test is well formed, under any number
well_true : (number : ℕ) (runs : List Read) → number < 2 ^ 32 → well_test runs ≡ true → WellFormed number runs
unfolding well_test
well_true number runs f h =
    let (most, up) = and_split (leb (length runs) 32) _ h in
    rising_well_formed number runs f (leb-true (length runs) 32 most) (rises_true 0 runs up)

-- a well-formed job whose groups are stars is accepted
accepted_by : (number : ℕ) (runs : List Read) → WellFormed number runs → are_stars (runs_of runs) ≡ true → IsAccepted number runs
unfolding judged
accepted_by number runs w e work out h k =
    let r = written_read number runs w in
    enough (bytes_of number runs) number runs r work out h k ∙ ap judged r ∙ ap (λ t. cond t (accepted number runs) (refused NoStar)) e

-- ---- a row, by a test

-- all least plans have this trench and pass the test, and the figures add up to the distances
plan_test : List Read → (trench saved : ℕ) → (List Route → Bool) → Bool
plan_test runs trench saved t =
    are_stars (runs_of runs)
    && (least_test (hanan (runs_of runs)) (runs_of runs) trench t && eqb (trench + saved) (sum distance (runs_of runs)))

-- a verdict is this refusal
is_refused : Refusal → Parsed → Bool
is_refused x (accepted number runs) = false
is_refused x (refused y) = eqb (refusal_number y) (refusal_number x) && eqb (refusal_place y) (refusal_place x)

-- what is read has at most 32 runs
is_few : Parsed → Bool
is_few (accepted number runs) = leb (length runs) 32
is_few (refused x) = true

-- what is read of the job with this number
read_of : ℕ → List Read → Parsed
read_of number runs = read_from 33 number 5 0 0 (runs_bytes runs ++ (0x5A ∷ bytes2 (length runs)))

-- the test of what a row says of the job with this number: of a refusal, that reading on behind the head comes to it
test_of : ℕ → List Read → Figures → Bool
test_of number runs (refused_with x) = is_few (read_of number runs) && is_refused x (judged (read_of number runs))
test_of number runs (figures trench saved) = well_test runs && plan_test runs trench saved (λ c. true)
test_of number runs (figures_pits trench saved pits) = well_test runs && plan_test runs trench saved (λ c. eqb (pits_of c) pits)

test : ℕ → Example → Bool
test number e = test_of number e.runs e.outcome

-- what the test of a plan says
record Tested (runs : List Read) (trench saved : ℕ) (t : List Route → Bool) : Type 0 where
  stars : are_stars (runs_of runs) ≡ true
  least : LeastAre (hanan (runs_of runs)) (runs_of runs) trench t
  total : trench + saved ≡ sum distance (runs_of runs)

-- a job that passes the test has these plans
plan_true : (runs : List Read) → well_test runs ≡ true → (trench saved : ℕ) (t : List Route → Bool) → plan_test runs trench saved t ≡ true → Tested runs trench saved t
unfolding plan_test
plan_true runs w trench saved t h =
    let (a, k) = and_split (are_stars (runs_of runs)) _ h in
    let (b, c) = and_split (least_test (hanan (runs_of runs)) (runs_of runs) trench t) _ k in
    record {
      stars = a;
      least = least_tested (hanan (runs_of runs)) (runs_of runs) (hanan_all (runs_of runs)) (runs_apart runs (well_true 0 runs (omega arith) w).apart) trench t b;
      total = eqb-true (trench + saved) (sum distance (runs_of runs)) c;
    }

-- a verdict that passes the test is the refusal
refused_true : (x : Refusal) (v : Parsed) → is_refused x v ≡ true → v ≡ refused x
unfolding is_refused
refused_true x (accepted number runs) h = absurd (false≢true h)
refused_true x (refused y) h =
    let (n, p) = and_split (eqb (refusal_number y) (refusal_number x)) _ h in
    ap refused (same_refusal y x (eqb-true _ _ n) (eqb-true _ _ p))

-- what passes the test has at most 32
few_true : (p : Parsed) → is_few p ≡ true → (number : ℕ) (runs : List Read) → p ≡ accepted number runs → length runs ≤ 32
unfolding is_few
few_true (accepted m rs) h number runs e = let q : rs ≡ runs = cc in subst (λ l. length l ≤ 32) q (leb-true (length rs) 32 h)
few_true (refused x) h number runs e = absurd (let z : ◌≡◌ {A = ℕ} 0 1 = cc in omega arith)

-- a row that passes its test under every number holds
sound : (runs : List Read) (o : Figures) → ((number : ℕ) → test_of number runs o ≡ true) → HoldsOf runs o
unfolding test_of read_of
sound runs (refused_with x) h = λ number f work out words bytes.
    let r = behind_head number runs f in
    let (l, t) = and_split (is_few (read_of number runs)) _ (h number) in
    few_read (bytes_of number runs) work out (λ m rs e. few_true (read_of number runs) l m rs (sym r ∙ e)) words bytes ∙ ap judged r ∙ refused_true x _ t
sound runs (figures trench saved) h =
    let (w, t) = and_split (well_test runs) _ (h 0) in
    let p = plan_true runs w trench saved (λ c. true) t in
    record {
      accepts = λ number f. accepted_by number runs (well_true number runs f w) p.stars;
      some = p.least.some;
      says = λ number routes l. (p.least.union_is routes l, omega (arith, p.least.union_is routes l, p.total));
    }
sound runs (figures_pits trench saved pits) h =
    let (w, t) = and_split (well_test runs) _ (h 0) in
    let p = plan_true runs w trench saved (λ c. eqb (pits_of c) pits) t in
    record {
      accepts = λ number f. accepted_by number runs (well_true number runs f w) p.stars;
      some = p.least.some;
      says = λ number routes l. (
        p.least.union_is routes l,
        omega (arith, p.least.union_is routes l, p.total),
        eqb-true (pits_of (map corners routes)) pits (p.least.passes routes l),
      );
    }

-- and a table whose rows all pass
all_sound : (l : List Example) → ((number : ℕ) → every (test number) l ≡ true) → All Holds l
unfolding test
all_sound [] h = tt
all_sound (e ∷ l) h = (
  sound e.runs e.outcome (λ number. (and_split (test number e) _ (h number)).0),
  all_sound l (λ number. (and_split (test number e) _ (h number)).1),
)

-- ---- the theorem

-- every row of the table holds
pub examples_hold : All Holds examples
unfolding test test_of read_of is_few is_refused judged read_from step_by run_step end_step record_of decoded runs_bytes well_test rises plan_test least_test choices in_front routes_of ways lane_of index_in same_point straight_on union_length lies level len
    all_stars in_star group_of spread grown reached centres is_centre meets overlap edges inside spans insert gap distance pits_of pit_points crossings crossing passes_row passes_column amid unique flatten flat_map
examples_hold = all_sound examples (λ number. refl)

-- ---- job 7 of the listing

-- two lists of points are the same, and two lists of routes
same_points : List Point → List Point → Bool
same_points [] [] = true
same_points [] (q ∷ k) = false
same_points (p ∷ l) [] = false
same_points (p ∷ l) (q ∷ k) = same_point p q && same_points l k

same_routes : List Route → List Route → Bool
same_routes [] [] = true
same_routes [] (q ∷ k) = false
same_routes (p ∷ l) [] = false
same_routes (p ∷ l) (q ∷ k) = same_points p q && same_routes l k

-- lists that the tests find the same are the same
points_true : (l k : List Point) → same_points l k ≡ true → l ≡ k
unfolding same_points
points_true [] [] h = refl
points_true [] (q ∷ k) h = absurd (false≢true h)
points_true (p ∷ l) [] h = absurd (false≢true h)
points_true (p ∷ l) (q ∷ k) h =
    let (a, b) = and_split (same_point p q) (same_points l k) h in
    ap₂ (λ (o : Point) t. o ∷ t) (point_true p q a) (points_true l k b)

-- and so are lists of routes
routes_true : (l k : List Route) → same_routes l k ≡ true → l ≡ k
unfolding same_routes
routes_true [] [] h = refl
routes_true [] (q ∷ k) h = absurd (false≢true h)
routes_true (p ∷ l) [] h = absurd (false≢true h)
routes_true (p ∷ l) (q ∷ k) h =
    let (a, b) = and_split (same_points p q) (same_routes l k) h in
    ap₂ (λ (o : Route) t. o ∷ t) (points_true p q a) (routes_true l k b)

-- the corners that a plan's entries have
abbrev corners_in : List Entry → List Route
corners_in es = map (λ e. e.corners) es

-- If all least plans have the given corners, and the given head and entries are those of these corners, then the job has one plan.
one_plan : (number : ℕ) (runs : List Read) (head : Head) (entries : List Entry) → number < 2 ^ 32 → well_test runs ≡ true
    → plan_test runs head.trench head.saved (λ c. same_routes c (corners_in entries)) ≡ true
    → head_of number (runs_of runs) (corners_in entries) ≡ head
    → entries_from (λ i. get_or (numbers_of runs) i 0) (meets_of (runs_of runs)) (centre_figure (numbers_of runs) (runs_of runs)) 0 (corners_in entries) ≡ entries
    → HasOnePlan number runs head entries
unfolding plan_bytes drawn_bytes
one_plan number runs head entries f w h d e =
    let p = plan_true runs w head.trench head.saved (λ c. same_routes c (corners_in entries)) h in
    let c : (routes : List Route) → LeastOf runs routes → map corners routes ≡ corners_in entries
    = λ routes l. routes_true (map corners routes) (corners_in entries) (p.least.passes routes l) in
    let a : (routes : List Route) → LeastOf runs routes → plan_head number runs routes ≡ head
    = λ routes l. ap (head_of number (runs_of runs)) (c routes l) ∙ d in
    let b : (routes : List Route) → LeastOf runs routes → plan_entries runs routes ≡ entries
    = λ routes l. ap (entries_from (λ i. get_or (numbers_of runs) i 0) (meets_of (runs_of runs)) (centre_figure (numbers_of runs) (runs_of runs)) 0) (c routes l) ∙ e in
    record {
      accepts = accepted_by number runs (well_true number runs f w) p.stars;
      some = p.least.some;
      corners_are = c;
      head_is = a;
      entries_are = b;
      plan_is = λ routes l. ap₂ book_bytes (a routes l) (b routes l);
    }

-- job 7 has one least plan, and this is its head and what it says of its runs
pub job_7 : HasOnePlan 7 job7_runs job7_head job7_entries
unfolding well_test rises plan_test least_test choices in_front routes_of ways lane_of index_in same_point straight_on union_length lies level len same_routes same_points
    all_stars in_star group_count heads lowest centre_of group_of spread grown reached centres is_centre meets degree overlap edges inside spans insert gap distance pits_of pit_points crossings crossing passes_row passes_column amid unique flatten flat_map
job_7 = one_plan 7 job7_runs job7_head job7_entries (omega arith) refl refl refl refl

-- so has every job without runs: a head whose figures are 0, and no entry
pub blank_plan : (number : ℕ) → number < 2 ^ 32 → HasOnePlan number [] (blank_head number) []
unfolding well_test rises plan_test least_test choices union_length same_routes edges pits_of pit_points crossings crossing passes_row passes_column amid unique flatten flat_map all_stars group_count heads
blank_plan number f = one_plan number [] (blank_head number) [] f refl refl refl refl

-- job 7 needs 60 words, for 3 columns and 5 rows, and 157 bytes
pub job_7_needs : forecast_of (bytes_of 7 job7_runs) ≡ Ok (record { words = 60; bytes = 157 })
unfolding well_test rises touching spans insert
job_7_needs = ap foretold_by (written_read 7 job7_runs (well_true 7 job7_runs (omega arith) refl))

-- a job without runs needs no word, and 22 bytes
pub blank_needs : (number : ℕ) → number < 2 ^ 32 → forecast_of (bytes_of number []) ≡ Ok (record { words = 0; bytes = 22 })
unfolding well_test rises
blank_needs number f = ap foretold_by (written_read number [] (well_true number [] f refl))

-- a call with the forecast or more for a job with one plan gives that plan's length and leaves its bytes
pub one_plan_call : (number : ℕ) (runs : List Read) (head : Head) (entries : List Entry) → HasOnePlan number runs head entries
    → (words : ℕ) (out : List ℕ) (s : Said) (out' : List ℕ) → words_for (runs_of runs) ≤ words → bytes_for (runs_of runs) ≤ length out
    → Outcome (verdict (bytes_of number runs) words (length out)) out s out'
    → (s ≡ gives (length (book_bytes head entries))) × (out' ≡ book_bytes head entries ++ drop (length (book_bytes head entries)) out)
one_plan_call number runs head entries one words out s out' h k call =
    let p = subst (λ (v : Parsed). Outcome v out s out') (one.accepts words (length out) h k) call in
    let e = one.plan_is p.routes p.least in
    (p.says ∙ ap (λ l. gives (length l)) e, p.plan ∙ ap (λ l. l ++ drop (length l) out) e)

-- so a call for a job without runs, lent no word and 22 bytes or more, gives 22 and leaves its head, its end and the later bytes
pub blank_call : (number : ℕ) → number < 2 ^ 32 → (words : ℕ) (out : List ℕ) (s : Said) (out' : List ℕ) → 22 ≤ length out
    → Outcome (verdict (bytes_of number []) words (length out)) out s out'
    → (s ≡ gives 22) × (out' ≡ head_record (blank_head number) ++ end_record 0 ++ drop 22 out)
unfolding book_bytes flat_map
blank_call number f words out s out' h call = one_plan_call number [] (blank_head number) [] (blank_plan number f) words out s out' (omega arith) h call
