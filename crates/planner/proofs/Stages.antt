-- The plan of a lease: what its stages promise, put together.
use mathlib.Core.Path.{◌≡◌, refl, sym, ap, ◌∙◌, subst}
use mathlib.Core.Bool.{true}
use mathlib.Core.List.{List, [], ◌++◌}
use Prim.Native.Nat.{ℕ, ◌+◌, ◌*◌, ◌≤◌, ◌<◌}
use native.Mathlib.Nat.{mul-le-mul}
use native.Mathlib.Omega.{arith}
use lib.ListN.{length, get_or, drop, replicate, length-drop, length-replicate, get_or-replicate}
use lib.Seq.{ext_get_or, get_or-drop}
use Rattle.network.specs.Hanan.{hanan}
use Rattle.network.specs.Graph.{meets}
use Rattle.network.specs.Steps.{hor, ver}
use Rattle.groups.specs.Groups.{all_stars, centre_of}
use Rattle.planner.proofs.Leased.{axes_held}
use Rattle.intersection.specs.Sets.{has}
use Rattle.intersection.specs.Centres.{meets_in}
use Rattle.intersection.proofs.Held.{set_joined}
use Rattle.job.specs.declared.Job.{Job}
use Rattle.refusal.specs.declared.Refusal.TheVariants.{ShortWork, ShortBuffer}
use Rattle.job.specs.Parse.{Parsed, accepted, refused, parse}
use Rattle.job.specs.Written.{Bytes}
use Rattle.job.proofs.Accepted.{accepted_well_formed, accepted_length}
use Rattle.table.specs.Rule.{Beyond}
use Rattle.table.specs.Side.{side_by, Sided}
use Rattle.table.specs.OnSides.{OnSides}
use Rattle.table.proofs.Lines.{gap_lt}
use Rattle.table.proofs.Survey.{on_sides, short}
use Rattle.job.specs.declared.Spans.{Spans}
use Rattle.grid.specs.Lines.{axis_of}
use Rattle.intersection.specs.Steps.{sides_of, no_sides}
use Rattle.grid.specs.Tables.{table, padded}
use Rattle.grid.proofs.Tables.{length_padded}
use Rattle.grid.proofs.Places.{index_le}
use Rattle.network.specs.Entries.{length_table}
use Rattle.route.specs.Marked.{Clear}
use Rattle.fields.specs.Bytes.{over, Wrote}
use Rattle.laying.specs.Lease.{LeaseSurveyed, Roomy, Layout, drawn_by, LaidOut}
use Rattle.std.specs.Prelude.{Err}
use Rattle.table.specs.declared.side.Survey.{Survey}
use Rattle.planner.specs.declared.Grouped.{Grouped}
use Rattle.planner.specs.Verdict.{foretold_by, judged, weighed, verdict}
use Rattle.planner.specs.Call.{runs_of, plan_of, Said, gives, said, Plans}
use Rattle.planner.specs.Forecast.{words_for, bytes_for}
use Rattle.planner.specs.Outcome.{Outcome}
use Rattle.planner.specs.Held.{runs_in}
use Rattle.planner.specs.Stages.{Leased, Blank, Placing, Surveyed, Within, steps_on, Settled, stride_of, Scratch, Ample, Lined}
use Rattle.planner.proofs.Held.{length_held, plane_held, length_plane, held_few, held_range}
use Rattle.planner.proofs.Judged.{centre_judged}
use Rattle.planner.proofs.Fits.{few_lines}
use Rattle.planner.proofs.Room.{words_few, words_most}
use Rattle.planner.proofs.Counted.{words_counted, bytes_counted}
use Rattle.planner.proofs.Verdicts.{few_words, few_bytes, weighs, read_weighed, unread, same_weighed}

-- an array of 32 that holds a table is full
pub table_full : (f : ℕ → ℕ) (n : ℕ) → n ≤ 32 → (t : List ℕ) → t ≡ padded 32 (table f n) → length t ≡ 32
table_full f n h t e = ap length e ∙ length_padded 32 (table f n) (omega (arith, length_table f n))

-- ---- one axis

-- a new survey whose places are the sides of boxes has no lines yet, and room for places
pub blank_sides : (s : Survey) (places values : Spans) (n : ℕ) → n ≤ 32 → s ≡ record { axis = axis_of []; places = no_sides } → places ≡ sides_of values n
    → Blank (record { axis = s.axis; places = places })
blank_sides s places values n h e p =
    record {
      no_lines = ap (λ (t : Survey). t.axis) e;
      firsts_room = table_full _ n h places.first (ap (λ (t : Spans). t.first) p);
      seconds_room = table_full _ n h places.second (ap (λ (t : Spans). t.second) p);
    }

module _ (first second : List ℕ) (n : ℕ) (s : Survey) (P : Placing first second n s) where
  -- no place is above the number of lines
  pub placed_most : (k : ℕ) → k < n → (get_or s.places.first k 0 ≤ s.axis.count) × (get_or s.places.second k 0 ≤ s.axis.count)
  placed_most k h = (
    omega (arith, P.firsts_are k h, index_le s.axis.lines s.axis.count (get_or first k 0)),
    omega (arith, P.seconds_are k h, index_le s.axis.lines s.axis.count (get_or second k 0)),
  )

  pub placed_within : Within s.places n
  placed_within k h = let (a, b) = placed_most k h in omega (arith, P.few)

  -- the side of the axis, with its lines
  pub placed_side : Sided s.axis first second n (side_by s)
  placed_side = record { firsts = P.firsts_are; seconds = P.seconds_are; same_lines = refl }

-- ---- both axes

module _ (j : Job) (x y : Survey) (S : Surveyed j x y) where
  pub words_are : x.axis.count * y.axis.count * 4 ≡ words_for (runs_of (runs_in j))
  words_are = sym (ap words_for (plane_held j) ∙ words_counted j.x.first j.y.first j.x.second j.y.second j.count x.axis y.axis S.on_columns.axis_is S.on_rows.axis_is)

  pub bytes_are : 22 + 18 * j.count + 9 * (steps_on x.places j.count + steps_on y.places j.count) ≡ bytes_for (runs_of (runs_in j))
  bytes_are =
      sym (ap bytes_for (plane_held j)
      ∙ bytes_counted j.x.first j.y.first j.x.second j.y.second j.count x.axis y.axis S.on_columns.axis_is S.on_rows.axis_is x.places y.places S.on_columns.firsts_are
      S.on_columns.seconds_are S.on_rows.firsts_are S.on_rows.seconds_are)

  -- the axes have the lines of the job's grid
  pub axes_lined : Lined (runs_of (runs_in j)) x.axis y.axis
  axes_lined = axes_held j x.axis y.axis S.on_columns.axis_is S.on_rows.axis_is

  -- there is room for the steps of each run
  pub roomy : (routes : List ℕ) → j.count * (x.axis.count + y.axis.count) ≤ length routes
      → Roomy (side_by x) (side_by y) j.count (x.axis.count + y.axis.count) routes
  roomy routes h =
      record {
        enough = λ k l.
            let (a, b) = placed_most j.x.first j.x.second j.count x S.on_columns k l in
            let (c, d) = placed_most j.y.first j.y.second j.count y S.on_rows k l in
            omega (arith, gap_lt (x.axis.count + 1) (get_or x.places.first k 0) (get_or x.places.second k 0) (omega arith) (omega arith), gap_lt (y.axis.count + 1) (get_or y.places.first k 0) (get_or y.places.second k 0) (omega arith) (omega arith));
        room = h;
      }

  module _ (sets centres : List ℕ) (L : Leased j sets centres) where
    few : j.count ≤ 32
    few = held_few j L.held

    sided_x : Sided x.axis j.x.first j.x.second j.count (side_by x)
    sided_x = placed_side j.x.first j.x.second j.count x S.on_columns

    sided_y : Sided y.axis j.y.first j.y.second j.count (side_by y)
    sided_y = placed_side j.y.first j.y.second j.count y S.on_rows

    -- the leaves of a run are the runs that it meets
    leaf_is : (c : ℕ) → c < j.count → (k : ℕ) → k < j.count → has (get_or sets c 0) k ≡ meets (hanan (runs_of (runs_in j))) (runs_of (runs_in j)) c k
    leaf_is c l k h = ap (λ s. has (get_or s c 0) k) L.sets ∙ set_joined (meets_in (runs_of (runs_in j))) j.count few c k l h

    pub lease_surveyed : LeaseSurveyed (runs_of (runs_in j)) (side_by x) (side_by y) j.count centres sets
    lease_surveyed =
        let e = plane_held j in
        let r = held_range j L.held in
        record {
          count = length_plane j;
          few = few;
          surveyed = λ c l. subst (λ rs. OnSides (hanan rs) rs (side_by x) (side_by y) c (get_or sets c 0)) (sym e)
              (on_sides j.x.first j.y.first j.x.second j.y.second j.count few x.axis y.axis S.on_columns.axis_is S.on_rows.axis_is (side_by x) (side_by y) sided_x sided_y
              c (get_or sets c 0) (λ k h. leaf_is c l k h ∙ ap (λ rs. meets (hanan rs) rs c k) e));
          few_lines = let f = few_lines (runs_in j) (omega (arith, length_held j, few)) in elim [ hor ↦ f.0 | ver ↦ f.1 ];
          short = short j.x.first j.y.first j.x.second j.y.second j.count few x.axis y.axis S.on_columns.axis_is S.on_rows.axis_is (side_by x) (side_by y) sided_x sided_y
              2000000 (λ i h. (r.x1_in i h, r.x2_in i h)) (λ i h. (r.y1_in i h, r.y2_in i h));
          stars = subst (λ n. all_stars (meets_in (runs_of (runs_in j))) n ≡ true) (sym (length_plane j)) L.stars;
          centres_are = λ i h. centre_judged (runs_of (runs_in j)) j.count few (length_plane j) L.stars centres L.centres_are i h
              ∙ ap (λ n. centre_of (meets_in (runs_of (runs_in j))) n i) (sym (length_plane j));
        }

-- ---- bytes of the function's own

-- zeros are clear marks
zeros_clear : (m : ℕ) → Clear (replicate m 0)
zeros_clear m k h = get_or-replicate m k 0 0 (subst (λ n. k < n) (length-replicate {A = ℕ} m 0) h)

pub ample_scratch : (g : Grouped) (bytes : ℕ) → Ample g bytes → Scratch g (replicate bytes 0) (replicate bytes 0)
ample_scratch g bytes A =
    record { steps_room = rw (length-replicate {A = ℕ} bytes 0) A.steps; marks_room = rw (length-replicate {A = ℕ} bytes 0) A.marks; clear = zeros_clear bytes }

-- so many bytes for a few runs and lines
pub few_ample : (g : Grouped) → g.job.now.count ≤ 8 → g.x.now.axis.count ≤ 16 → g.y.now.axis.count ≤ 16 → Ample g 256
few_ample g h k l = let lines : stride_of g ≤ 32 = omega arith in record { steps = mul-le-mul h lines; marks = mul-le-mul l k }

-- and for any
pub many_ample : (g : Grouped) → Settled g → Ample g 4096
many_ample g S =
    let h = held_few g.job.now S.leased.held in
    let k = S.surveyed.on_columns.few in
    let l = S.surveyed.on_rows.few in
    let lines : stride_of g ≤ 128 = omega arith in record { steps = mul-le-mul h lines; marks = mul-le-mul l k }

-- ---- the plan

-- what stands behind the first n is the same
same_behind : (old new : List ℕ) (n : ℕ) → Beyond old new n → drop n new ≡ drop n old
same_behind old new n b =
    ext_get_or 0 (drop n new) (drop n old) (omega (arith, length-drop n new, length-drop n old, b.size))
    (λ k h. get_or-drop n new k 0 ∙ b.same (n + k) (omega arith) ∙ sym (get_or-drop n old k 0))

-- the plan that is written is one of least routes
pub drawn : (j : Job) (laid : Layout) → LaidOut (runs_of (runs_in j)) laid → (out out' : List ℕ) (n : ℕ)
    → Wrote (plan_of j.number (runs_in j) (drawn_by (runs_of (runs_in j)) laid)) out out' n → Plans j.number (runs_in j) out (gives n) out'
unfolding over
drawn j laid L out out' n w =
    record { routes = drawn_by (runs_of (runs_in j)) laid; least = L.best.least; says = ap gives w.size; plan = w.bytes }

-- ---- the work words

-- the words that the tables took are cleared, and the others stay
pub then_cleared : (work mid work' : List ℕ) (n : ℕ) → Beyond work mid n → work' ≡ replicate n 0 ++ drop n mid → work' ≡ replicate n 0 ++ drop n work
then_cleared work mid work' n b z = z ∙ ap (λ l. replicate n 0 ++ l) (same_behind work mid n b)

-- a job that needs at most m words, by its length, is judged alike with 16,384 words and with m
own_words : (m : ℕ) (job : List ℕ) (out : ℕ) → Bytes job → ((n : ℕ) → n ≤ 32 → length job ≡ 8 + 19 * n → (n + n) * (n + n) * 4 ≤ m)
    → verdict job m out ≡ verdict job 16384 out
own_words m job out b h = go (parse job) refl
  where
    go : (p : Parsed) → parse job ≡ p → verdict job m out ≡ verdict job 16384 out
    go (refused x) e = unread job x _ out e ∙ sym (unread job x 16384 out e)
    go (accepted number runs) e =
        let w = accepted_well_formed job number runs b e in
        let few = words_few runs (length runs) (omega arith) in
        let most = h (length runs) w.most (accepted_length job number runs b e) in
        read_weighed job number runs e _ out
        ∙ same_weighed _ _ _ 16384 out (judged (accepted number runs)) (omega arith) (words_most runs w.most)
        ∙ sym (read_weighed job number runs e 16384 out)

-- ---- what is lent, weighed against what is counted

module _ (j : Job) (x y : Survey) (S : Surveyed j x y) (out : List ℕ) (work words : ℕ) (w : words ≡ x.axis.count * y.axis.count * 4) where
  pub words_is : words ≡ words_for (runs_of (runs_in j))
  words_is = w ∙ words_are j x y S

  pub short_work : work < words
      → Outcome (weighed (foretold_by (accepted j.number (runs_in j))) work (length out) (judged (accepted j.number (runs_in j)))) out (said (Err ShortWork)) out
  short_work h = rw (few_words _ (bytes_for (runs_of (runs_in j))) work (length out) (judged (accepted j.number (runs_in j))) (subst (λ n. work < n) words_is h)) (record { says = refl; plan_kept = refl })

  module _ (bytes : ℕ)
      (b : bytes ≡ 22 + 18 * j.count + 9 * (steps_on x.places j.count + steps_on y.places j.count))
      (enough : words ≤ work) where
    bytes_is : bytes ≡ bytes_for (runs_of (runs_in j))
    bytes_is = b ∙ bytes_are j x y S

    pub short_plan : length out < bytes
        → Outcome (weighed (foretold_by (accepted j.number (runs_in j))) work (length out) (judged (accepted j.number (runs_in j)))) out (said (Err ShortBuffer)) out
    short_plan h =
        rw (few_bytes (words_for (runs_of (runs_in j))) _ work (length out) (judged (accepted j.number (runs_in j))) (subst (λ n. n ≤ work) words_is enough)
        (subst (λ n. length out < n) bytes_is h))
        (record { says = refl; plan_kept = refl })

    -- both are enough
    module _ (h : bytes ≤ length out) where
      pub lent_words : words_for (runs_of (runs_in j)) ≤ work
      lent_words = subst (λ n. n ≤ work) words_is enough

      pub lent_bytes : bytes_for (runs_of (runs_in j)) ≤ length out
      lent_bytes = subst (λ n. n ≤ length out) bytes_is h

      pub goes_on : (s : Said) (out' : List ℕ) → Outcome (judged (accepted j.number (runs_in j))) out s out'
          → Outcome (weighed (foretold_by (accepted j.number (runs_in j))) work (length out) (judged (accepted j.number (runs_in j)))) out s out'
      goes_on s out' o =
          subst (λ v. Outcome v out s out')
          (sym (weighs (words_for (runs_of (runs_in j))) (bytes_for (runs_of (runs_in j))) work (length out) (judged (accepted j.number (runs_in j))) lent_words lent_bytes)) o

-- so a call in m words has the outcome of one in 16,384
pub own_outcome : (m : ℕ) (job out : List ℕ) (s : Said) (out' : List ℕ) → Bytes job → ((n : ℕ) → n ≤ 32 → length job ≡ 8 + 19 * n → (n + n) * (n + n) * 4 ≤ m)
    → Outcome (verdict job m (length out)) out s out' → Outcome (verdict job 16384 (length out)) out s out'
own_outcome m job out s out' b h o = subst (λ v. Outcome v out s out') (own_words m job (length out) b h) o
