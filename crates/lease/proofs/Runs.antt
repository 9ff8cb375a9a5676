-- Every lease whose groups are stars has best routes, whatever the grid on which its runs are placed.
-- They are drawn by the table that is filled by recursion for each centre, and by its trace.
use mathlib.Core.Path.{◌≡◌, refl, ap, ◌∙◌}
use mathlib.Core.Bool.{true}
use mathlib.Core.List.{List, [], ◌∷◌}
use Prim.Native.Nat.{ℕ, ◌<◌}
use native.Mathlib.Decide.{dec_lt}
use lib.ListN.{length}
use Rattle.network.specs.Lists.{sum, each}
use Rattle.network.specs.Plane.{Point, Run}
use Rattle.network.specs.Grid.{Grid}
use Rattle.network.specs.Route.{Route, Vertex}
use Rattle.network.specs.Graph.{run_at, meets}
use Rattle.network.specs.Entries.{length_table, get_or_table}
use Rattle.network.specs.Boxes.{Placed}
use Rattle.network.specs.Steps.{Dir, hor, ver, Lane, forth, Frame, drawn}
use Rattle.network.proofs.Hanan.{placed_frame}
use Rattle.sharing.specs.Box.{Box}
use Rattle.sharing.specs.Instance.{Instance}
use Rattle.sharing.specs.Table.{figure}
use Rattle.sharing.specs.Trace.{trace}
use Rattle.sharing.specs.View.{View, Indexed, view_of, box_of}
use Rattle.sharing.specs.Star.{star_of, Best, steps_of}
use Rattle.sharing.proofs.Fill.{filled, filled_exact}
use Rattle.sharing.proofs.Trace.{traced}
use Rattle.sharing.proofs.Runs.{indexed_shows, facing_rises}
use Rattle.groups.specs.Groups.{heads, all_stars, centre_of}
use Rattle.groups.proofs.Stars.{stars}
use Rattle.groups.proofs.Runs.{meets_graph}
use Rattle.lease.specs.Lease.{Sheet}
use Rattle.lease.proofs.Excess.{leaves_apart}
use Rattle.lease.proofs.Theorem.{lease_best}

-- a point where lines cross is a vertex
indexed_vertex : {g : Grid} {p : Point} (i : Dir → ℕ) → Indexed g p i → Vertex g p
indexed_vertex i x = record { column = (i hor, x.fits hor, x.at_line hor); row = (i ver, x.fits ver, x.at_line ver) }

module _ (g : Grid) (runs : List Run) (firsts seconds : ℕ → Dir → ℕ)
    (first_at_lem : (k : ℕ) → k < length runs → Indexed g (run_at runs k).first (firsts k))
    (second_at_lem : (k : ℕ) → k < length runs → Indexed g (run_at runs k).second (seconds k)) where
  -- a frame of run k
  lanes : (k : ℕ) → Dec (k < length runs) → (X : Lane) × (Y : Lane) × (k < length runs → Frame g (run_at runs k) X Y)
  lanes k (yes h) =
      let placed : Placed g (run_at runs k)
      = record { first_vertex = indexed_vertex (firsts k) (first_at_lem k h); second_vertex = indexed_vertex (seconds k) (second_at_lem k h) } in
      let (X, Y, f) = placed_frame g (run_at runs k) placed in
      (X, Y, λ i. f)
  lanes k (no n) = (forth 0 0, forth 0 0, λ i. absurd (n i))

  -- the view of run c
  abbrev view : ℕ → View
  view = view_of g firsts seconds

  -- the boxes in it
  abbrev box : ℕ → ℕ → Box
  box = box_of g firsts seconds

  -- the centre c among its leaves
  abbrev star_in : ℕ → Instance
  star_in c = star_of (view c) runs (box c) c

  -- the sheet of c: its own view, the table by recursion, and its trace
  abbrev sheet : ℕ → Sheet
  sheet c = record { flip = (view c).flip; box = box c; table = filled (star_in c); moves = trace (star_in c) (filled (star_in c)) }

  pub lease_has_best : all_stars (meets g runs) (length runs) ≡ true
      → (routes : List Route) × Best g runs routes (sum (λ c. figure (star_in c) (filled (star_in c))) (heads (centre_of (meets g runs) (length runs)) (length runs)))
  lease_has_best t =
      let centre = centre_of (meets g runs) (length runs) in
      let S = stars (meets_graph g runs) t in
      let X : ℕ → Lane = λ k. (lanes k (dec_lt k (length runs))).0 in
      let Y : ℕ → Lane = λ k. (lanes k (dec_lt k (length runs))).1 in
      let by : ℕ → ℕ → Route = λ c k. drawn g (X k) (Y k) (steps_of (star_in c) c (sheet c).moves k) in
      let route : ℕ → Route = λ k. by (centre k) k in
      let routes = each (length runs) (λ k. route k ∷ []) in (
        routes,
        lease_best g runs centre S X Y (λ k l. (lanes k (dec_lt k (length runs))).2 l) routes (length_table route (length runs)) _ (λ c h e. (
          sheet c,
          record {
            centred = record {
              listed = h;
              shows = λ k l. indexed_shows (view c) (run_at runs k) (firsts k) (seconds k) (first_at_lem k l) (second_at_lem k l);
              rises = facing_rises g (firsts c) (seconds c) (first_at_lem c h).fits (second_at_lem c h).fits;
              apart = leaves_apart g runs centre S c h e;
            };
            exact = filled_exact (star_in c);
            says = refl;
            traced = traced (star_in c) (filled (star_in c)) (filled_exact (star_in c));
            drawn_by = λ k l z. get_or_table route (length runs) k [] l ∙ ap (λ c. by c k) z;
          },
        )),
      )
