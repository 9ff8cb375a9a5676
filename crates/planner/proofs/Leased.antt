-- What is known of a job whose groups are stars: what the finder says of it, the figures that are told of it, and its lines.
use mathlib.Core.Path.{◌≡◌, sym, ap, ◌∙◌, subst}
use Rattle.std.specs.Prelude.{Option, Some, None}
use mathlib.Core.Bool.{Bool, true, false}
use mathlib.Core.List.{List}
use Prim.Native.Nat.{ℕ, ◌<◌}
use native.Mathlib.Omega.{arith}
use lib.ListN.{length, get_or}
use Rattle.network.specs.Hanan.{hanan}
use Rattle.network.specs.Distinct.{distinct}
use Rattle.network.specs.Graph.{below, degree, meets}
use Rattle.network.specs.Entries.{length_table, get_or_table}
use Rattle.groups.specs.Groups.{heads, group_count, all_stars, centre_of}
use Rattle.grid.specs.declared.Axis.{Axis}
use Rattle.grid.specs.Tables.{table, padded}
use Rattle.grid.specs.Lines.{values, axis_of}
use Rattle.grid.proofs.Tables.{get_or_padded}
use Rattle.grid.proofs.Hanan.{axis_columns, axis_rows}
use Rattle.intersection.specs.Centres.{meets_in, neighbour_sets, joined_in, centres_at, centres_in}
use Rattle.job.specs.declared.Job.{Job}
use Rattle.plan.specs.Plan.{meets_of, centre_figure}
use Rattle.planner.specs.Call.{runs_of, numbers_of}
use Rattle.planner.specs.Verdict.{are_stars}
use Rattle.planner.specs.Held.{runs_in, Held}
use Rattle.planner.specs.Stages.{Leased, Lined}
use Rattle.planner.proofs.Held.{length_plane, plane_held, held_few, numbers_held}
use Rattle.planner.proofs.Judged.{centres_judged, meets_judged, none_judged, some_judged, centre_judged, centre_listed, groups_judged}

module _ (j : Job) (sets centres : List ℕ) (S : Leased j sets centres) where
  -- the meets figures
  pub leased_meets : (ms : List ℕ) → ms ≡ padded 32 (table (λ i. degree (joined_in sets) (below 32) i) j.count) → (i : ℕ) → i < j.count
      → get_or ms i 0 ≡ meets_of (runs_of (runs_in j)) i
  leased_meets ms e i h =
      ap (λ l. get_or l i 0) e ∙ meets_judged (runs_of (runs_in j)) j.count (held_few j S.held) (length_plane j) sets S.sets i h

  -- the numbers of the centres
  pub leased_centres : (cs : List ℕ) → cs ≡ padded 32 (table (λ i. get_or j.numbers (get_or centres i 0) 0) j.count) → (i : ℕ) → i < j.count
      → get_or cs i 0 ≡ centre_figure (numbers_of (runs_in j)) (runs_of (runs_in j)) i
  leased_centres cs e i l =
      let runs = runs_of (runs_in j) in
      let f : ℕ → ℕ = λ i. get_or j.numbers (get_or centres i 0) 0 in
      ap (λ l. get_or l i 0) e ∙ get_or_padded 32 (table f j.count) i (omega (arith, held_few j S.held, length_table f j.count)) ∙ get_or_table f j.count i 0 l
      ∙ numbers_held j S.held (get_or centres i 0)
      ∙ ap (λ c. get_or (numbers_of (runs_in j)) c 0)
      (centre_judged runs j.count (held_few j S.held) (length_plane j) S.stars centres S.centres_are i l
      ∙ ap (λ n. centre_of (meets (hanan runs) runs) n i) (sym (length_plane j)))

  -- each centre is one of the runs
  pub leased_listed : (i : ℕ) → i < j.count → get_or centres i 0 < 32
  leased_listed i h =
      omega (arith, held_few j S.held, centre_listed (runs_of (runs_in j)) j.count (held_few j S.held) (length_plane j) S.stars centres S.centres_are i h)

  -- the number of groups
  pub leased_groups : (groups : ℕ) → groups ≡ length (heads (λ i. get_or centres i 0) j.count)
      → groups ≡ group_count (meets (hanan (runs_of (runs_in j))) (runs_of (runs_in j))) j.count
  leased_groups groups g = g ∙ groups_judged (runs_of (runs_in j)) j.count (held_few j S.held) (length_plane j) S.stars centres S.centres_are

-- the axes of the job's arrays have the lines of its grid
pub axes_held : (j : Job) (x y : Axis) → x ≡ axis_of (distinct (values j.x.first j.x.second j.count)) → y ≡ axis_of (distinct (values j.y.first j.y.second j.count))
    → Lined (runs_of (runs_in j)) x y
axes_held j x y e f =
    subst (λ rs. Lined rs x y) (sym (plane_held j))
    (record { columns_are = axis_columns j.x.first j.y.first j.x.second j.y.second j.count x e; rows_are = axis_rows j.x.first j.y.first j.x.second j.y.second j.count y f })

-- ---- what the finder says

module _ (j : Job) (h : Held j) (sets : List ℕ) (e : sets ≡ neighbour_sets (meets_in (runs_of (runs_in j))) j.count) (found : Option (List ℕ))
    (f : found ≡ centres_in (joined_in sets) j.count) where
  -- it is said of the job's runs
  found_is : found ≡ centres_in (meets_in (runs_of (runs_in j))) j.count
  found_is = f ∙ centres_judged (runs_of (runs_in j)) j.count (held_few j h) (length_plane j) sets e

  -- whether every group is a star
  stars_are : (b : Bool) → all_stars (meets_in (runs_of (runs_in j))) j.count ≡ b → are_stars (runs_of (runs_in j)) ≡ b
  stars_are b s = ap (all_stars (meets_in (runs_of (runs_in j)))) (length_plane j) ∙ s

  pub found_none : found ≡ None → are_stars (runs_of (runs_in j)) ≡ false
  found_none n = stars_are false (none_judged (runs_of (runs_in j)) j.count (held_few j h) (length_plane j) (sym found_is ∙ n))

  -- and then the centres
  module _ (centres : List ℕ) (s : found ≡ Some centres) where
    judged_some : (all_stars (meets_in (runs_of (runs_in j))) j.count ≡ true) × (centres ≡ centres_at (meets_in (runs_of (runs_in j))) j.count)
    judged_some = some_judged (runs_of (runs_in j)) j.count (held_few j h) (length_plane j) centres (sym found_is ∙ s)

    pub found_stars : are_stars (runs_of (runs_in j)) ≡ true
    found_stars = stars_are true judged_some.0

    pub found_leased : Leased j sets centres
    found_leased = record { held = h; sets = e; stars = judged_some.0; centres_are = judged_some.1 }
