-- The two tests of a book that was read decide whether it is true (`true_iff`): each figure is compared with the one that the book would have, and each route is
-- tried.
use mathlib.Core.Path.{◌≡◌, refl, sym, ap, ◌∙◌}
use mathlib.Core.Logic.{◌↔◌}
use mathlib.Core.Bool.{Bool, true, ◌&&◌}
use mathlib.Core.List.{List, [], ◌∷◌}
use Prim.Native.Nat.{ℕ, zero, suc, ◌+◌, ◌<◌}
use native.Mathlib.Omega.{arith}
use borrow.Author.Tests.{eq-eqb, eqb-true}
use lib.Dec.{eqb}
use lib.ListN.{length, get_or, length-map}
use lib.Seq.{ext_get_or}
use Rattle.network.specs.Lists.{every}
use Rattle.network.specs.Plane.{Run}
use Rattle.network.specs.Grid.{Grid}
use Rattle.network.specs.Hanan.{hanan}
use Rattle.network.specs.Route.{Route, Manhattan, Routes}
use Rattle.network.specs.Graph.{run_at, below}
use Rattle.network.proofs.Tests.{and_split, and_join}
use Rattle.network.proofs.Lists.{every_true, true_every}
use Rattle.network.proofs.Counting.{routes_length}
use Rattle.network.proofs.Leaves.{below_member, member_below}
use Rattle.sharing.proofs.Numbered.{routes_at}
use Rattle.job.specs.declared.Run.{Run as Read}
use Rattle.plan.specs.declared.Head.{Head}
use Rattle.plan.specs.Plan.{Entry, entries_from, head_of, meets_of, centre_figure}
use Rattle.plan.proofs.Length.{entries_length}
use Rattle.planner.specs.Call.{run_of, runs_of, numbers_of}
use Rattle.judge.specs.True.{drawn_in, True}
use Rattle.judge.specs.Judged.{is_manhattan, entry_at, is_of, is_head, is_entry, is_true}
use Rattle.judge.proofs.Tests.{manhattan_true, true_manhattan}

-- ---- by the index

-- a test of every number below n, as a fact of each
pub every_at : (t : ℕ → Bool) (n : ℕ) → every t (below n) ≡ true → (i : ℕ) → i < n → t i ≡ true
every_at t n h i k = every_true t {a = i} {l = below n} h (member_below n i k)

pub at_every : (t : ℕ → Bool) (n : ℕ) → ((i : ℕ) → i < n → t i ≡ true) → every t (below n) ≡ true
at_every t n h = true_every t (below n) (λ i m. h i (below_member n i m))

-- a Manhattan path for each index are routes
pub at_routes : (g : Grid) (runs : List Run) (routes : List Route) → length routes ≡ length runs → ((i : ℕ) → i < length runs → Manhattan g (run_at runs i) (get_or routes i []))
    → Routes g runs routes
at_routes g [] [] e h = tt
at_routes g [] (route ∷ routes) e h = absurd (omega arith)
at_routes g (run ∷ runs) [] e h = absurd (omega arith)
at_routes g (run ∷ runs) (route ∷ routes) e h = (h 0 (omega arith), at_routes g runs routes (omega arith) (λ i k. h (suc i) (omega arith)))

-- the route of entry i
pub drawn_at : (es : List Entry) (i : ℕ) → get_or (drawn_in es) i [] ≡ (entry_at es i).corners
drawn_at [] i = refl
drawn_at (e ∷ es) zero = refl
drawn_at (e ∷ es) (suc i) = drawn_at es i

-- entry i of some routes' entries
entries_at : (number meets centre : ℕ → ℕ) (k : ℕ) (own : List Route) (i : ℕ) → i < length own
    → entry_at (entries_from number meets centre k own) i ≡ record { number = number (k + i); meets = meets (k + i); centre = centre (k + i); corners = get_or own i [] }
entries_at number meets centre k [] i h = absurd (omega arith)
entries_at number meets centre k (c ∷ own) zero h =
    let z : k ≡ k + 0 = omega arith in
    λ j. record { number = number (z j); meets = meets (z j); centre = centre (z j); corners = c }
entries_at number meets centre k (c ∷ own) (suc i) h =
    let z : suc k + i ≡ k + suc i = omega arith in
    entries_at number meets centre (suc k) own i (omega arith)
    ∙ λ j. record { number = number (z j); meets = meets (z j); centre = centre (z j); corners = get_or own i [] }

-- so from the first on
entries_index : (number meets centre : ℕ → ℕ) (own : List Route) (i : ℕ) → i < length own
    → entry_at (entries_from number meets centre 0 own) i ≡ record { number = number i; meets = meets i; centre = centre i; corners = get_or own i [] }
entries_index number meets centre own i h =
    let z : 0 + i ≡ i = omega arith in
    entries_at number meets centre 0 own i h ∙ λ j. record { number = number (z j); meets = meets (z j); centre = centre (z j); corners = get_or own i [] }

-- ---- the two tests

module _ (number : ℕ) (runs : List Read) (h : Head) (es : List Entry) where
  abbrev plane : List Run
  plane = runs_of runs

  abbrev g : Grid
  g = hanan (runs_of runs)

  abbrev own : List Route
  own = drawn_in es

  abbrev entries : List Entry
  entries = entries_from (λ i. get_or (numbers_of runs) i 0) (meets_of plane) (centre_figure (numbers_of runs) plane) 0 own

  abbrev same_number : ℕ → Bool
  same_number i = eqb (entry_at es i).number (get_or (numbers_of runs) i 0)

  abbrev is : Head
  is = head_of h.job plane own

  -- what the first test says
  pub record OfJob : Type 0 where
    pub job_is : h.job ≡ number
    pub runs_are : h.runs ≡ length runs
    pub numbers_are : (i : ℕ) → i < length runs → (entry_at es i).number ≡ get_or (numbers_of runs) i 0

  pub of_true : is_of number runs h es ≡ true → OfJob
  unfolding is_of
  of_true t =
      let (a, t1) = and_split (eqb h.job number) (eqb h.runs (length runs) && every same_number (below (length runs))) t in
      let (b, c) = and_split (eqb h.runs (length runs)) (every same_number (below (length runs))) t1 in
      record {
        job_is = eqb-true h.job number a;
        runs_are = eqb-true h.runs (length runs) b;
        numbers_are = λ i k. eqb-true (entry_at es i).number (get_or (numbers_of runs) i 0) (every_at same_number (length runs) c i k);
      }

  pub true_of : OfJob → is_of number runs h es ≡ true
  unfolding is_of
  true_of o =
      and_join (eqb h.job number) (eqb h.runs (length runs) && every same_number (below (length runs))) (eq-eqb h.job number o.job_is)
      (and_join (eqb h.runs (length runs)) (every same_number (below (length runs))) (eq-eqb h.runs (length runs) o.runs_are)
      (at_every same_number (length runs) (λ i k. eq-eqb (entry_at es i).number (get_or (numbers_of runs) i 0) (o.numbers_are i k))))

  -- what the second test says of the head, and of each entry
  pub record HeadIs : Type 0 where
    pub kinds : h.grouped ≡ true
    pub trench_is : h.trench ≡ is.trench
    pub saved_is : h.saved ≡ is.saved
    pub pits_are : h.pits ≡ is.pits
    pub last_is : h.last ≡ is.last

  pub head_true : is_head runs h es ≡ true → HeadIs
  unfolding is_head
  head_true t =
      let (a, t1) = and_split h.grouped (eqb h.trench is.trench && (eqb h.saved is.saved && (eqb h.pits is.pits && eqb h.last is.last))) t in
      let (b, t2) = and_split (eqb h.trench is.trench) (eqb h.saved is.saved && (eqb h.pits is.pits && eqb h.last is.last)) t1 in
      let (c, t3) = and_split (eqb h.saved is.saved) (eqb h.pits is.pits && eqb h.last is.last) t2 in
      let (d, e) = and_split (eqb h.pits is.pits) (eqb h.last is.last) t3 in
      record {
        kinds = a;
        trench_is = eqb-true h.trench is.trench b;
        saved_is = eqb-true h.saved is.saved c;
        pits_are = eqb-true h.pits is.pits d;
        last_is = eqb-true h.last is.last e;
      }

  pub true_head : HeadIs → is_head runs h es ≡ true
  unfolding is_head
  true_head o =
      and_join h.grouped (eqb h.trench is.trench && (eqb h.saved is.saved && (eqb h.pits is.pits && eqb h.last is.last))) o.kinds
      (and_join (eqb h.trench is.trench) (eqb h.saved is.saved && (eqb h.pits is.pits && eqb h.last is.last)) (eq-eqb _ _ o.trench_is)
      (and_join (eqb h.saved is.saved) (eqb h.pits is.pits && eqb h.last is.last) (eq-eqb _ _ o.saved_is)
      (and_join (eqb h.pits is.pits) (eqb h.last is.last) (eq-eqb _ _ o.pits_are) (eq-eqb _ _ o.last_is))))

  pub record EntryIs (i : ℕ) : Type 0 where
    pub meets_is : (entry_at es i).meets ≡ meets_of plane i
    pub centre_is : (entry_at es i).centre ≡ centre_figure (numbers_of runs) plane i
    pub route_is : is_manhattan g (run_at plane i) (entry_at es i).corners ≡ true

  entry_true : (i : ℕ) → is_entry runs es i ≡ true → EntryIs i
  unfolding is_entry
  entry_true i t =
      let m = eqb (entry_at es i).meets (meets_of plane i) in
      let c = eqb (entry_at es i).centre (centre_figure (numbers_of runs) plane i) in
      let r = is_manhattan g (run_at plane i) (entry_at es i).corners in
      let (a, t1) = and_split m (c && r) t in
      let (b, d) = and_split c r t1 in
      record { meets_is = eqb-true _ _ a; centre_is = eqb-true _ _ b; route_is = d }

  true_entry : (i : ℕ) → EntryIs i → is_entry runs es i ≡ true
  unfolding is_entry
  true_entry i o =
      let m = eqb (entry_at es i).meets (meets_of plane i) in
      let c = eqb (entry_at es i).centre (centre_figure (numbers_of runs) plane i) in
      let r = is_manhattan g (run_at plane i) (entry_at es i).corners in
      and_join m (c && r) (eq-eqb _ _ o.meets_is) (and_join c r (eq-eqb _ _ o.centre_is) o.route_is)

  pub test_true : is_true runs h es ≡ true → HeadIs × ((i : ℕ) → i < length runs → EntryIs i)
  unfolding is_true
  test_true t =
      let (a, b) = and_split (is_head runs h es) (every (is_entry runs es) (below (length runs))) t in
      (head_true a, λ i k. entry_true i (every_at (is_entry runs es) (length runs) b i k))

  pub true_test : HeadIs → ((i : ℕ) → i < length runs → EntryIs i) → is_true runs h es ≡ true
  unfolding is_true
  true_test a b =
      and_join (is_head runs h es) (every (is_entry runs es) (below (length runs))) (true_head a)
      (at_every (is_entry runs es) (length runs) (λ i k. true_entry i (b i k)))

  -- ---- true books

  module _ (counted : h.runs ≡ length es) where
    length_own : length own ≡ length es
    length_own = length-map es (λ e. e.corners)

    length_plane : length plane ≡ length runs
    length_plane = length-map runs run_of

    -- the tests make a true book
    tests_true : OfJob → HeadIs → ((i : ℕ) → i < length runs → EntryIs i) → True number runs h es
    tests_true o a b =
        record {
          routes =
              at_routes g plane own (omega (arith, length_own, length_plane, o.runs_are))
              (λ i k.
              manhattan_true g (run_at plane i) (get_or own i [])
              (ap (is_manhattan g (run_at plane i)) (drawn_at es i) ∙ (b i (omega (arith, length_plane))).route_is));
          head = λ i.
              record {
                grouped = a.kinds i;
                job = o.job_is i;
                runs = (o.runs_are ∙ sym length_plane) i;
                trench = a.trench_is i;
                saved = a.saved_is i;
                pits = a.pits_are i;
                last = a.last_is i;
              };
          entries =
              ext_get_or (entry_at [] 0) es entries (omega (arith, length_own, entries_length (λ i. get_or (numbers_of runs) i 0) (meets_of plane) (centre_figure (numbers_of runs) plane) 0 own))
              (λ i k.
              let l : i < length runs = omega (arith, o.runs_are) in
              let e = b i l in
              (λ j. record { number = o.numbers_are i l j; meets = e.meets_is j; centre = e.centre_is j; corners = sym (drawn_at es i) j })
              ∙ sym (entries_index (λ i. get_or (numbers_of runs) i 0) (meets_of plane) (centre_figure (numbers_of runs) plane) own i (omega (arith, length_own))));
        }

    module _ (t : True number runs h es) where
      count_runs : length es ≡ length runs
      count_runs = omega (arith, length_own, length_plane, routes_length g plane own t.routes)

      entry_is : (i : ℕ) → i < length runs → entry_at es i
          ≡ record { number = get_or (numbers_of runs) i 0; meets = meets_of plane i; centre = centre_figure (numbers_of runs) plane i; corners = get_or own i [] }
      entry_is i k =
          ap (λ l. entry_at l i) t.entries
          ∙ entries_index (λ i. get_or (numbers_of runs) i 0) (meets_of plane) (centre_figure (numbers_of runs) plane) own i (omega (arith, length_own, count_runs))

      -- a true book passes them
      true_tests : OfJob × HeadIs × ((i : ℕ) → i < length runs → EntryIs i)
      true_tests = (
        record {
          job_is = ap (λ (x : Head). x.job) t.head;
          runs_are = counted ∙ count_runs;
          numbers_are = λ i k. ap (λ (e : Entry). e.number) (entry_is i k);
        },
        record {
          kinds = ap (λ (x : Head). x.grouped) t.head;
          trench_is = ap (λ (x : Head). x.trench) t.head;
          saved_is = ap (λ (x : Head). x.saved) t.head;
          pits_are = ap (λ (x : Head). x.pits) t.head;
          last_is = ap (λ (x : Head). x.last) t.head;
        },
        λ i k.
            record {
              meets_is = ap (λ (e : Entry). e.meets) (entry_is i k);
              centre_is = ap (λ (e : Entry). e.centre) (entry_is i k);
              route_is =
                  ap (is_manhattan g (run_at plane i)) (sym (drawn_at es i))
                  ∙ true_manhattan g (run_at plane i) (get_or own i []) (routes_at g plane own t.routes i (omega (arith, length_plane)));
            },
      )

    -- The tests pass exactly the true books, whatever was read.
    pub true_iff : (is_of number runs h es && is_true runs h es ≡ true) ↔ True number runs h es
    true_iff = (
      λ t.
          let (a, b) = and_split (is_of number runs h es) (is_true runs h es) t in
          let (c, d) = test_true b in
          tests_true (of_true a) c d,
      λ t.
          let (a, b, c) = true_tests t in
          and_join (is_of number runs h es) (is_true runs h es) (true_of a) (true_test b c),
    )
