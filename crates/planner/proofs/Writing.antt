-- The plan that is written is that of the routes that were laid: its figures are measured on them.
use mathlib.Core.Path.{◌≡◌, refl, sym, ap, ap₂, ◌∙◌}
use mathlib.Core.Bool.{true}
use mathlib.Core.List.{List, map, map-map}
use Prim.Native.Nat.{ℕ, ◌*◌, ◌/◌, ◌-◌, ◌≤◌, ◌<◌, ◌%◌}
use native.Mathlib.Omega.{arith}
use lib.ListN.{length, get_or}
use Rattle.network.specs.Lists.{sum, All}
use Rattle.network.specs.Plane.{Run, distance}
use Rattle.network.specs.Grid.{Grid}
use Rattle.network.specs.Hanan.{hanan}
use Rattle.network.specs.Route.{union_length}
use Rattle.network.specs.Corners.{corners}
use Rattle.network.specs.Graph.{meets}
use Rattle.network.proofs.Lists.{all_imp}
use Rattle.network.proofs.Corners.{corners_union}
use Rattle.groups.specs.Groups.{group_count}
use Rattle.grid.specs.declared.Axis.{Axis}
use Rattle.grid.proofs.Places.{axis_line, axis_count}
use Rattle.job.specs.declared.Job.{Job}
use Rattle.route.specs.Route.{drawn_of, OnGrid, numbered, indexed, corners_of, Tables}
use Rattle.network.specs.Pits.{pits_of}
use Rattle.route.proofs.Corners.{on_indexed, on_marks, pits_placed}
use Rattle.plan.specs.declared.Head.{Head}
use Rattle.plan.specs.Plan.{book_bytes, head_of, meets_of, centre_figure}
use Rattle.plan.specs.Writers.{entries_at}
use Rattle.plan.proofs.Whole.{plan_written}
use Rattle.laying.specs.Lease.{Layout, drawn_by, LaidOut}
use Rattle.planner.specs.Call.{runs_of, numbers_of, plan_of}
use Rattle.planner.specs.Forecast.{bytes_for}
use Rattle.planner.specs.Held.{runs_in, Held}
use Rattle.planner.specs.Stages.{Lined, own_of, Heading}
use Rattle.planner.proofs.Held.{length_held, length_plane, held_few, numbers_held}
use Rattle.planner.proofs.Fits.{runs_apart, few_lines, distances_bounded}
use Rattle.planner.proofs.Room.{plan_within}

-- a grid's own lines are tables of them
own_tables : (g : Grid) → Tables g g.columns g.rows
own_tables g = record { column_at = λ i h. refl; row_at = λ j h. refl }

module _ (j : Job) (h : Held j) (laid : Layout) (L : LaidOut (runs_of (runs_in j)) laid) where
  abbrev runs : List Run
  runs = runs_of (runs_in j)

  abbrev g : Grid
  g = hanan (runs_of (runs_in j))

  lines_few : (length g.columns ≤ 64) × (length g.rows ≤ 64)
  lines_few = few_lines (runs_in j) (omega (arith, length_held j, held_few j h))

  -- the routes are on the grid of indexes
  pub on_indexes : All (OnGrid numbered) laid.routes
  on_indexes = all_imp (OnGrid g) (OnGrid numbered) (λ r o. on_indexed 64 64 g r lines_few.0 lines_few.1 o) laid.routes L.on_grid

  own_is : own_of runs laid ≡ map (λ r. corners (drawn_of g r)) laid.routes
  own_is = map-map corners (drawn_of g) laid.routes

  -- ---- the head

  union_own : union_length g (own_of runs laid) ≡ union_length g (drawn_by runs laid)
  union_own = corners_union g runs (drawn_by runs laid) L.best.least.are_routes

  pub saved_below : laid.saved ≤ sum distance runs
  saved_below = omega (arith, L.best.trench)

  pub saved_word : laid.saved < 4294967296
  saved_word = omega (arith, saved_below, distances_bounded (runs_in j) h.well_formed.in_range, h.well_formed.most)

  trench_is : sum distance runs - laid.saved ≡ union_length g (own_of runs laid)
  trench_is = omega (arith, L.best.trench, union_own)

  saved_is : laid.saved ≡ sum distance runs - union_length g (own_of runs laid)
  saved_is = omega (arith, L.best.trench, union_own)

  pits_are : pits_of (map corners_of laid.routes) ≡ pits_of (own_of runs laid)
  pits_are = sym (pits_placed g lines_few.0 lines_few.1 g.columns g.rows (own_tables g) laid.routes L.on_grid) ∙ ap pits_of (sym own_is)

  -- the figures of the head
  pub head_is : (groups total saved pits : ℕ) → Heading j groups total saved pits laid
      → ◌≡◌ {A = Head}
      (record {
        grouped = true;
        job = j.number;
        runs = j.count % 65536;
        trench = total - saved;
        saved = saved;
        pits = pits % 65536;
        last = groups % 65536;
      })
      (head_of j.number runs (own_of runs laid))
  head_is groups total saved pits H =
      let r : j.count % 65536 ≡ length runs = omega (arith, length_plane j, held_few j h) in
      let u : total - saved ≡ union_length g (own_of runs laid) = ap₂ ◌-◌ H.total_is H.saved_is ∙ trench_is in
      let x = H.saved_is ∙ saved_is in
      let o : pits % 65536 ≡ pits_of (own_of runs laid) = omega (arith, pits_are, H.pits_are, H.few_pits) in
      let k : groups % 65536 ≡ groups = omega (arith, H.few, held_few j h) in
      let q : groups % 65536 ≡ group_count (meets g runs) (length runs) = k ∙ H.groups_are ∙ ap (group_count (meets g runs)) (sym (length_plane j)) in
      λ i. record { grouped = true; job = j.number; runs = r i; trench = u i; saved = x i; pits = o i; last = q i }

  -- the marks of as many vertices as the grid has are enough for them
  pub on_vertices : (columns rows : Axis) → Lined runs columns rows → (n : ℕ) → rows.count * columns.count ≤ n
      → All (OnGrid (indexed columns.count (n / columns.count))) laid.routes
  on_vertices columns rows a n k =
      on_marks columns.count rows.count n g (omega (arith, axis_count columns g.columns a.columns_are)) (omega (arith, axis_count rows g.rows a.rows_are)) k
      laid.routes L.on_grid

  -- ---- the bytes

  module _ (columns rows : Axis) (a : Lined runs columns rows) (ms : List ℕ) (m : (i : ℕ) → i < j.count → get_or ms i 0 ≡ meets_of runs i) (cs : List ℕ)
      (k : (i : ℕ) → i < j.count → get_or cs i 0 ≡ centre_figure (numbers_of (runs_in j)) runs i) (head : Head) (e : head ≡ head_of j.number runs (own_of runs laid)) where
    lines_held : Tables g columns.lines rows.lines
    lines_held =
        record {
          column_at = axis_line columns g.columns a.columns_are;
          row_at = axis_line rows g.rows a.rows_are;
        }

    pub bytes_are : book_bytes head (entries_at columns.lines rows.lines j.numbers ms cs laid.routes)
        ≡ plan_of j.number (runs_in j) (drawn_by runs laid)
    bytes_are =
        plan_written j.number (numbers_of (runs_in j)) runs columns.lines rows.lines j.numbers ms cs laid.routes head lines_few.0 lines_few.1 lines_held
        L.on_grid (e ∙ ap (head_of j.number runs) own_is)
        (λ i l. let o : i < j.count = omega (arith, L.full, length_plane j) in (numbers_held j h i, m i o, k i o))

    pub bytes_fit : length (book_bytes head (entries_at columns.lines rows.lines j.numbers ms cs laid.routes)) ≤ bytes_for runs
    bytes_fit = rw bytes_are (plan_within j.number (runs_in j) (drawn_by runs laid) (runs_apart (runs_in j) h.well_formed.apart) L.best.least.are_routes)
