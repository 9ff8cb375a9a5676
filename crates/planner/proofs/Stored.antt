-- The plan of a well-formed job, whatever Manhattan routes it has, is a right book (`plan_right`): its figures fit their fields, its counts are right, and its
-- corners are in range and turn. So a plan that the planner wrote is read back as it was written (`plan_read`, `call_read`).
use mathlib.Core.Path.{◌≡◌, refl, ap, ◌∙◌, subst}
use mathlib.Core.Bool.{true}
use mathlib.Core.List.{List, [], ◌∷◌, map}
use Prim.Native.Nat.{ℕ, suc, ◌≤◌, ◌<◌}
use native.Mathlib.Omega.{arith}
use lib.ListN.{length, get_or, take, length-map}
use Rattle.network.specs.Lists.{All}
use Rattle.network.specs.Plane.{Run}
use Rattle.network.specs.Grid.{Grid}
use Rattle.network.specs.Hanan.{hanan}
use Rattle.network.specs.Route.{Route, Routes}
use Rattle.network.specs.Graph.{meets}
use Rattle.network.specs.Corners.{corners}
use Rattle.groups.specs.Groups.{centre_of}
use Rattle.network.proofs.Counting.{routes_length}
use Rattle.network.proofs.Corners.{TwoPoints, corners_two}
use Rattle.job.specs.declared.Run.{Run as Read}
use Rattle.job.specs.Written.{Bytes, WellFormed}
use Rattle.plan.specs.Plan.{entries_from, meets_of, centre_figure, drawn_bytes, plan_bytes}
use Rattle.plan.specs.Fits.{PointIn}
use Rattle.plan.proofs.Length.{entries_length}
use Rattle.plan.proofs.Whole.{routes_few}
use Rattle.book.specs.Parse.{parse_plan}
use Rattle.book.specs.Right.{RightEntry, RightBook}
use Rattle.book.proofs.Turning.{corners_turning}
use Rattle.book.proofs.Readback.{written_read}
use Rattle.planner.specs.Call.{run_of, runs_of, numbers_of, Said, gives, Plans}
use Rattle.planner.specs.Verdict.{verdict}
use Rattle.planner.specs.Outcome.{Outcome}
use Rattle.planner.specs.Demands.{JobIn, Leaves}
use Rattle.planner.specs.Figures.{plan_head, plan_entries}
use Rattle.planner.specs.Stored.{ReadBack}
use Rattle.planner.proofs.Fits.{runs_apart, corners_in_lem, head_fits, few_lines, number_bounded, meets_most}
use Rattle.planner.proofs.Demands.{plan_front, demands}

-- the entries of Manhattan routes are right, where their figures fit, and their corners are in range and few
entries_right : (number meets centre : ℕ → ℕ) → ((i : ℕ) → number i < 65536) → ((i : ℕ) → meets i < 65536) → ((i : ℕ) → centre i < 65536)
    → (g : Grid) (runs : List Run) (routes : List Route)
    → All TwoPoints runs → Routes g runs routes → All (All PointIn) (map corners routes) → All (λ c. length c ≤ 127) (map corners routes) → (i : ℕ)
    → All (RightEntry true) (entries_from number meets centre i (map corners routes))
entries_right number meets centre h k l g [] (route ∷ routes) two m inside few i = elim m [ ]
entries_right number meets centre h k l g (run ∷ runs) [] two m inside few i = elim m [ ]
entries_right number meets centre h k l g [] [] two m inside few i = tt
entries_right number meets centre h k l g (run ∷ runs) (route ∷ routes) two m inside few i = (
  record {
    number_fits = h i;
    meets_fits = k i;
    centre_fits = l i;
    some = omega (arith, corners_two g run route two.0 m.0);
    few = few.0;
    in_range = inside.0;
    turning = corners_turning g run route two.0 m.0;
  },
  entries_right number meets centre h k l g runs routes two.1 m.1 inside.1 few.1 (suc i),
)

-- Every plan of a well-formed job is a right book.
pub plan_right : (number : ℕ) (runs : List Read) → WellFormed number runs → (routes : List Route) → Routes (hanan (runs_of runs)) (runs_of runs) routes
    → RightBook (plan_head number runs routes) (plan_entries runs routes)
plan_right number runs w routes m =
    let g = hanan (runs_of runs) in
    let l = few_lines runs w.most in
    let n = entries_length (λ i. get_or (numbers_of runs) i 0) (meets_of (runs_of runs)) (centre_figure (numbers_of runs) (runs_of runs)) 0 (map corners routes) in
    record {
      head_fits = head_fits number runs w routes m;
      runs = omega (arith, n, length-map routes corners, routes_length g (runs_of runs) routes m);
      few = omega (arith, n, length-map routes corners, routes_length g (runs_of runs) routes m, length-map runs run_of, w.most);
      entries =
          entries_right (λ i. get_or (numbers_of runs) i 0) (meets_of (runs_of runs)) (centre_figure (numbers_of runs) (runs_of runs))
          (λ i. omega (arith, number_bounded runs w.in_range i)) (λ i. omega (arith, meets_most runs i, w.most))
          (λ i. omega (arith, number_bounded runs w.in_range (centre_of (meets g (runs_of runs)) (length (runs_of runs)) i))) g (runs_of runs) routes (runs_apart runs w.apart) m (corners_in_lem runs w.in_range routes m)
          (routes_few g l.0 l.1 (runs_of runs) routes (runs_apart runs w.apart) m) 0;
    }

-- A plan that the planner wrote is accepted by the reader, and what is read is what was written.
pub plan_read : (number : ℕ) (runs : List Read) → WellFormed number runs → (out : List ℕ) (n : ℕ) (out' : List ℕ) → Plans number runs out (gives n) out'
    → ReadBack number runs (take n out')
unfolding plan_bytes drawn_bytes
plan_read number runs w out n out' p =
    let routes = p.routes in
    record {
      routes = routes;
      least = p.least;
      read =
          ap parse_plan (plan_front number runs out (gives n) out' p n refl)
          ∙ written_read (plan_head number runs routes) (plan_entries runs routes) (plan_right number runs w routes p.least.are_routes);
    }

-- So is the plan of any call that answers one: the first bytes, as many as are answered.
pub call_read : (job : List ℕ) (words : ℕ) (out : List ℕ) (s : Said) (out' : List ℕ) → Bytes job → Outcome (verdict job words (length out)) out s out'
    → (n : ℕ) → s ≡ gives n → (j : JobIn job) × ReadBack j.number j.runs (take n out')
call_read job words out s out' b call n e =
    let (j, p) = subst (λ a. Leaves job words out a out') e (demands job words out s out' b call).demand_1 in
    (j, plan_read j.number j.runs j.well_formed out n out' p)
