-- What is measured on the marks of a book's routes, against what the book's head says.
use mathlib.Core.Path.{◌≡◌, sym, ap, ap₂, ◌∙◌, subst}
use mathlib.Core.Logic.{◌⊎◌, inl, inr}
use mathlib.Core.Bool.{Bool, true, false, ◌&&◌, and_assoc}
use mathlib.Core.List.{List, []}
use Prim.Native.Nat.{ℕ, suc, pred, ◌+◌, ◌-◌, ◌≤◌, ◌<◌}
use native.Mathlib.Omega.{arith}
use lib.Dec.{eqb}
use lib.ListN.{length, get_or, length-map}
use Rattle.network.specs.Lists.{sum, every}
use Rattle.network.specs.Plane.{Run, distance}
use Rattle.network.specs.Grid.{Grid}
use Rattle.network.specs.Hanan.{hanan}
use Rattle.network.specs.Route.{Route, Routes, union_length}
use Rattle.network.specs.Graph.{run_at, below}
use Rattle.network.specs.Pits.{pits_of}
use Rattle.network.specs.Entries.{length_table, get_or_table}
use Rattle.network.proofs.Numbers.{order}
use Rattle.network.proofs.Tests.{eqb_same}
use Rattle.network.proofs.Counting.{counting}
use Rattle.network.proofs.Pits.{routes_vertices}
use Rattle.grid.specs.declared.Axis.{Axis}
use Rattle.grid.specs.Tables.{table, padded}
use Rattle.grid.specs.Lines.{axis_of, length_at, RisingTo}
use Rattle.grid.proofs.Tables.{get_or_padded, get_or_behind}
use Rattle.grid.proofs.Places.{axis_line, axis_count, axis_rises, axis_lengths, length_at_most}
use Rattle.grid.proofs.Hanan.{columns_are, rows_are, lines_below}
use Rattle.job.specs.declared.Job.{Job}
use Rattle.plan.specs.declared.Head.{Head}
use Rattle.plan.specs.Plan.{Entry, head_of}
use Rattle.measure.specs.Marks.{Told}
use Rattle.measure.specs.Measured.{Short, trench_in, pits_in}
use Rattle.measure.proofs.Union.{told_trench}
use Rattle.measure.proofs.Pits.{told_pits}
use Rattle.planner.specs.Call.{runs_of}
use Rattle.planner.specs.Held.{runs_in, Held}
use Rattle.planner.specs.Stages.{Lined}
use Rattle.planner.proofs.Held.{length_held, length_plane, held_few, held_range, plane_held}
use Rattle.planner.proofs.Fits.{few_lines}
use Rattle.judge.specs.True.{drawn_in}
use Rattle.judge.specs.Judged.{is_manhattan, entry_at}
use Rattle.judge.specs.Steps.{Lines, is_measured}
use Rattle.judge.proofs.Tests.{manhattan_true}
use Rattle.judge.proofs.TrueIff.{every_at, at_routes, drawn_at}

-- ---- the lengths of the edges from line to line

module _ (a : Axis) (l : List ℕ) (e : a ≡ axis_of l) (t : List ℕ) (w : t ≡ padded 64 (table (length_at a.lines) (pred a.count))) where
  -- they are those between the lines
  lengths_are : t ≡ padded 64 (table (length_at l) (pred (length l)))
  lengths_are = w ∙ ap (padded 64) (axis_lengths a l e)

  -- there is one for each line but the last
  length_here : (i : ℕ) → suc i < length l → get_or t i 0 ≡ length_at l i
  length_here i h =
      ap (λ s. get_or s i 0) lengths_are
      ∙ get_or_padded 64 (table (length_at l) (pred (length l))) i (omega (arith, length_table (length_at l) (pred (length l))))
      ∙ get_or_table (length_at l) (pred (length l)) i 0 (omega arith)

  -- and none is longer than its second line is far
  lengths_short : ((i : ℕ) → i < length l → get_or l i 0 ≤ 2000000) → Short t
  lengths_short most i = go (order (length l) (suc i))
    where
      go : (length l ≤ suc i) ⊎ (suc i < length l) → get_or t i 0 ≤ 2000000
      go (inl h) =
          omega (
            arith,
            ap (λ s. get_or s i 0) lengths_are,
            get_or_behind 64 (table (length_at l) (pred (length l))) i (omega (arith, length_table (length_at l) (pred (length l)))),
          )
      go (inr h) = omega (arith, length_here i h, length_at_most l i 2000000 (most (suc i) h))

module _ (j : Job) (held : Held j) where
  -- the columns of a job are at most 2,000,000 dm from the first that can be
  columns_near : (i : ℕ) → i < length (hanan (runs_of (runs_in j))).columns → get_or (hanan (runs_of (runs_in j))).columns i 0 ≤ 2000000
  columns_near =
      let r = held_range j held in
      subst (λ (l : List ℕ). (i : ℕ) → i < length l → get_or l i 0 ≤ 2000000)
      (sym (ap (λ (plane : List Run). (hanan plane).columns) (plane_held j) ∙ columns_are j.x.first j.y.first j.x.second j.y.second j.count))
      (lines_below j.x.first j.x.second j.count 2000000 (λ k l. (r.x1_in k l, r.x2_in k l)))

  -- and so are its rows
  rows_near : (i : ℕ) → i < length (hanan (runs_of (runs_in j))).rows → get_or (hanan (runs_of (runs_in j))).rows i 0 ≤ 2000000
  rows_near =
      let r = held_range j held in
      subst (λ (l : List ℕ). (i : ℕ) → i < length l → get_or l i 0 ≤ 2000000)
      (sym (ap (λ (plane : List Run). (hanan plane).rows) (plane_held j) ∙ rows_are j.x.first j.y.first j.x.second j.y.second j.count))
      (lines_below j.y.first j.y.second j.count 2000000 (λ k l. (r.y1_in k l, r.y2_in k l)))

  module _ (columns rows : Axis) (lined : Lined (runs_of (runs_in j)) columns rows) where
    -- the job's grid
    abbrev g : Grid
    g = hanan (runs_of (runs_in j))

    -- the axes have the lines of the job's grid
    pub lines_held : Lines j columns rows
    lines_held =
        let x = axis_count columns g.columns lined.columns_are in
        let y = axis_count rows g.rows lined.rows_are in
        let few = few_lines (runs_in j) (omega (arith, length_held j, held_few j held)) in (
          record {
            tables = record { column_at = axis_line columns g.columns lined.columns_are; row_at = axis_line rows g.rows lined.rows_are };
            across_is = x;
            down_is = y;
          },
          omega (arith, x, few.0),
          omega (arith, y, few.1),
        )

    -- which rise
    pub lines_rise : RisingTo columns.lines columns.count × RisingTo rows.lines rows.count
    lines_rise = (axis_rises columns g.columns lined.columns_are g.columns_rise, axis_rises rows g.rows lined.rows_are g.rows_rise)

    module _ (widths heights : List ℕ) (w : widths ≡ padded 64 (table (length_at columns.lines) (pred columns.count)))
        (v : heights ≡ padded 64 (table (length_at rows.lines) (pred rows.count))) where
      -- the edges are short
      pub edges_short : Short widths × Short heights
      edges_short = (
        lengths_short columns g.columns lined.columns_are widths w columns_near,
        lengths_short rows g.rows lined.rows_are heights v rows_near,
      )

      -- what is measured on the marks of the routes is their union's length
      pub trench_told : (routes : List Route) (corners right up : List ℕ) → Told g routes corners right up
          → trench_in right up widths columns.count heights rows.count ≡ union_length g routes
      trench_told routes corners right up t =
          ap₂ (λ m n. trench_in right up widths m heights n) (axis_count columns g.columns lined.columns_are) (axis_count rows g.rows lined.rows_are)
          ∙ told_trench g routes corners right up t widths heights (length_here columns g.columns lined.columns_are widths w)
          (length_here rows g.rows lined.rows_are heights v)

    -- and their pits
    pub pits_told : (routes : List Route) → Routes g (runs_of (runs_in j)) routes → (corners right up : List ℕ) → Told g routes corners right up
        → pits_in corners right up columns.count rows.count ≡ pits_of routes
    pits_told routes m corners right up t =
        ap₂ (λ m n. pits_in corners right up m n) (axis_count columns g.columns lined.columns_are) (axis_count rows g.rows lined.rows_are)
        ∙ told_pits g routes (routes_vertices g (runs_of (runs_in j)) routes m) corners right up t

-- ---- the head

module _ (j : Job) (h : Head) (es : List Entry) where
  -- the job's runs
  abbrev plane : List Run
  plane = runs_of (runs_in j)

  -- every route is a Manhattan path of its run
  abbrev all_right : ℕ → Bool
  all_right n = every (λ i. is_manhattan (hanan plane) (run_at plane i) (entry_at es i).corners) (below n)

  -- what the head is tested for
  abbrev figures : Bool
  figures =
      eqb h.trench (head_of 0 plane (drawn_in es)).trench && (eqb h.saved (head_of 0 plane (drawn_in es)).saved && eqb h.pits (head_of 0 plane (drawn_in es)).pits)

  -- some route is none
  pub measured_off : false ≡ all_right j.count → false ≡ is_measured plane h es
  unfolding is_measured
  measured_off e = ap (λ b. b && figures) (e ∙ ap all_right (sym (length_plane j)))

  module _ (counted : length es ≡ j.count) (e : true ≡ all_right j.count) where
    -- all are
    pub are_routes : Routes (hanan plane) plane (drawn_in es)
    are_routes =
        at_routes (hanan plane) plane (drawn_in es) (length-map es (λ (e : Entry). e.corners) ∙ counted ∙ sym (length_plane j))
        (λ i k. manhattan_true (hanan plane) (run_at plane i) (get_or (drawn_in es) i [])
        (ap (is_manhattan (hanan plane) (run_at plane i)) (drawn_at es i)
        ∙ every_at (λ i. is_manhattan (hanan plane) (run_at plane i) (entry_at es i).corners) j.count (sym e) i (omega (arith, length_plane j))))

    -- then the figures decide: the union is no longer than the runs together, so what is saved can be added to it
    pub measured_on : (trench pits total : ℕ) → trench ≡ union_length (hanan plane) (drawn_in es) → pits ≡ pits_of (drawn_in es) → total ≡ sum distance plane
        → ((eqb trench h.trench && eqb (trench + h.saved) total) && eqb pits h.pits) ≡ is_measured plane h es
    unfolding is_measured
    measured_on trench pits total t p s =
        let c = counting (hanan plane) plane (drawn_in es) are_routes in
        let T = union_length (hanan plane) (drawn_in es) in
        and_assoc (eqb trench h.trench) (eqb (trench + h.saved) total) (eqb pits h.pits)
        ∙ ap₂ ◌&&◌ (eqb_same trench h.trench h.trench T (λ q. sym q ∙ t) (λ q. t ∙ sym q))
        (ap₂ ◌&&◌ (eqb_same (trench + h.saved) total h.saved (sum distance plane - T) (λ q. omega (arith, q, c, t, s)) (λ q. omega (arith, q, c, t, s)))
        (eqb_same pits h.pits h.pits (pits_of (drawn_in es)) (λ q. sym q ∙ p) (λ q. p ∙ sym q)))
        ∙ ap (λ b. b && figures) (e ∙ ap all_right (sym (length_plane j)))
