-- One group of a lease, from its table and the walk in it to its routes; and the routes of all groups, which save the most.
use mathlib.Core.Path.{◌≡◌, refl, sym, ap, ◌∙◌, subst}
use mathlib.Core.Logic.{◌⊎◌, inl, inr}
use mathlib.Core.Bool.{true}
use mathlib.Core.List.{List, []}
use Prim.Native.Nat.{ℕ, ◌*◌, ◌≤◌, ◌<◌}
use native.Mathlib.Nat.{le_trans, mul_comm, mul-le-mul, mul-le-mul_right}
use native.Mathlib.Decide.{ℕ_discrete}
use native.Mathlib.Omega.{arith}
use lib.ListN.{length, length-map, get_or, drop}
use Rattle.network.specs.Lists.{sum}
use Rattle.network.specs.Plane.{Run}
use Rattle.network.specs.Hanan.{hanan}
use Rattle.network.specs.Graph.{run_at, meets}
use Rattle.network.specs.Steps.{Dir, hor, ver, Frame, drawn}
use Rattle.sharing.specs.View.{lines}
use Rattle.sharing.specs.Star.{Centred}
use Rattle.table.specs.Side.{Side, first_of, second_of, Placed, Rises}
use Rattle.table.specs.OnSides.{OnSides, view_by, box_by}
use Rattle.table.specs.Frame.{Group, Grouped}
use Rattle.table.specs.Rule.{table_of, Ruled, figure_of, Beyond}
use Rattle.table.specs.Rule as rule
use Rattle.table.specs.Walk.{walked}
use Rattle.table.proofs.Lines.{gap_lt}
use Rattle.table.proofs.Star.{group_fit}
use Rattle.table.proofs.Survey.{sides_centred, sides_rise, star_exact, star_figure, star_traced}
use Rattle.route.specs.declared.Track.{Track}
use Rattle.route.specs.Route.{Route, columns_of, rows_of, drawn_of, OnGrid}
use Rattle.route.specs.Stored.{tracks_of, routes_in}
use Rattle.route.proofs.Stored.{route_in, routes_length, routes_at}
use Rattle.layout.specs.Points.{points_of}
use Rattle.layout.specs.Laid.{Layable, Laid}
use Rattle.layout.proofs.Lists.{all_at, mapped_at}
use Rattle.layout.proofs.Laying.{laid_more}
use Rattle.layout.proofs.Fitting.{steps_lifted, steps_are, traced_layable}
use Rattle.layout.proofs.Drawing.{laid_frame, laid_on_grid}
use Rattle.groups.specs.Groups.{heads, centre_of}
use Rattle.groups.proofs.Stars.{Stars, stars, stars_same}
use Rattle.groups.proofs.Runs.{meets_graph}
use Rattle.lease.proofs.Excess.{leaves_apart}
use Rattle.lease.proofs.Theorem.{lease_best}
use Rattle.laying.specs.Lease.{table_words, LeaseSurveyed, block_of, GroupLayable, GroupLaid, Served, Layout, drawn_by, LaidOut}
use Rattle.laying.proofs.Loop.{Progress}

module _ (runs : List Run) (xs ys : Side) (n : ℕ) (centres sets : List ℕ) (L : LeaseSurveyed runs xs ys n centres sets) where
  abbrev centre : ℕ → ℕ
  centre k = get_or centres k 0

  in_list : (k : ℕ) → k < n → k < length runs
  in_list k h = omega (arith, L.count)

  of_list : (k : ℕ) → k < length runs → k < n
  of_list k h = omega (arith, L.count)

  -- the centres of the lease
  centred_by : Stars (meets (hanan runs) runs) (length runs) centre
  centred_by =
      stars_same (centre_of (meets (hanan runs) runs) (length runs)) centre (λ i h. sym (L.centres_are i (of_list i h))) (stars (meets_graph (hanan runs) runs) L.stars)

  sides : (c : ℕ) → c < length runs → OnSides (hanan runs) runs xs ys c (get_or sets c 0)
  sides c h = L.surveyed c (of_list c h)

  -- ---- one group

  module _ (c : ℕ) (h : c < n) where
    -- at most 64 lines
    lines_few : (d : Dir) → length (lines (hanan runs) d) ≤ 64
    lines_few d = L.few_lines d

    placed_x : Placed xs.first xs.second n
    placed_x k l = (
      omega (arith, ((L.surveyed c h).first_at_lem k (in_list k l)).fits hor, lines_few hor),
      omega (arith, ((L.surveyed c h).second_at_lem k (in_list k l)).fits hor, lines_few hor),
    )

    placed_y : Placed ys.first ys.second n
    placed_y k l = (
      omega (arith, ((L.surveyed c h).first_at_lem k (in_list k l)).fits ver, lines_few ver),
      omega (arith, ((L.surveyed c h).second_at_lem k (in_list k l)).fits ver, lines_few ver),
    )

    -- what the group asks for
    pub group_asks : (n ≤ 32) × Placed xs.first xs.second n × Placed ys.first ys.second n × (c < n)
        × Rises xs.lines (first_of xs c) (second_of xs c) × Rises ys.lines (first_of ys c) (second_of ys c)
    group_asks =
        let rise = sides_rise (hanan runs) runs xs ys c (get_or sets c 0) (L.surveyed c h) c (in_list c h) in
        (L.few, placed_x, placed_y, h, rise hor, rise ver)

    module _ (g : Group) (G : Grouped xs ys n c (get_or sets c 0) g) where
      -- the table takes four words for each vertex of the centre's box
      table_room : g.h * g.w * 4 ≤ table_words runs
      table_room =
          let S = L.surveyed c h in
          let k = in_list c h in
          let w = gap_lt (length (hanan runs).columns) (first_of xs c) (second_of xs c) ((S.first_at_lem c k).fits hor) ((S.second_at_lem c k).fits hor) in
          let h = gap_lt (length (hanan runs).rows) (first_of ys c) (second_of ys c) ((S.first_at_lem c k).fits ver) ((S.second_at_lem c k).fits ver) in
          let wide : g.w ≤ length (hanan runs).columns = omega (arith, G.wide) in
          let high : g.h ≤ length (hanan runs).rows = omega (arith, G.high) in
          subst (λ m. m * 4 ≤ table_words runs) (mul_comm g.w g.h) (mul-le-mul_right 4 (mul-le-mul wide high))

      pub group_fits : (words : List ℕ) → table_words runs ≤ length words → rule.Fit g words
      group_fits words l = group_fit g xs ys n c (get_or sets c 0) words G placed_x placed_y h L.short (le_trans table_room l)

      -- nothing behind the table of the whole grid changes
      pub work_beyond : (old new : List ℕ) → Beyond old new (g.h * g.w * 4) → Beyond old new (table_words runs)
      work_beyond old new b = record { size = b.size; same = λ k l. b.same k (le_trans table_room l) }

    module _ (e : centre c ≡ c) where
      -- the centre of a group is centred in the view that the sides give
      sees : Centred (view_by (hanan runs) xs ys c) runs (box_by (hanan runs) xs ys c) c
      sees =
          sides_centred (hanan runs) runs xs ys c (get_or sets c 0) (L.surveyed c h) (in_list c h) (leaves_apart (hanan runs) runs centre centred_by c (in_list c h) e)

      -- a run of its group is the centre or a leaf
      part : (k : ℕ) → k < length runs → centre k ≡ c → (k ≡ c) ⊎ (meets (hanan runs) runs c k ≡ true)
      part k l z = go (ℕ_discrete k (centre k))
        where
          go : Dec (k ≡ centre k) → (k ≡ c) ⊎ (meets (hanan runs) runs c k ≡ true)
          go (yes q) = inl (q ∙ z)
          go (no d) = inr (ap (λ c. meets (hanan runs) runs c k) (sym z) ∙ centred_by.leaf k l d)

      module _ (g : Group) (G : Grouped xs ys n c (get_or sets c 0) g) (words : List ℕ) (R : Ruled g words) where
        G' : Grouped xs ys (length runs) c (get_or sets c 0) g
        G' = subst (λ m. Grouped xs ys m c (get_or sets c 0) g) (sym L.count) G

        -- the walk fits the runs of the group
        pub walk_fits : GroupLayable xs ys n centres c (walked g words)
        walk_fits =
            record {
              few = L.few;
              centre = h;
              own = e;
              layable = λ k l z. traced_layable (hanan runs) runs xs ys c (get_or sets c 0) (L.surveyed c h) lines_few sees (table_of g.w words) (walked g words)
                  (star_traced (hanan runs) runs xs ys c (get_or sets c 0) (L.surveyed c h) sees g G' words R) k (in_list k l) (part k (in_list k l) z);
            }

        -- so the steps laid by it serve the group, and share what the table says
        pub group_served : (steps : ℕ → List ℕ) → GroupLaid xs ys n centres c (walked g words) steps → Served runs xs ys centres c (figure_of g.w g.h words) steps
        group_served steps laid =
            record {
              table = table_of g.w words;
              moves = walked g words;
              exact = star_exact (hanan runs) runs xs ys c (get_or sets c 0) (L.surveyed c h) sees g G' words R;
              traced = star_traced (hanan runs) runs xs ys c (get_or sets c 0) (L.surveyed c h) sees g G' words R;
              says = sym (star_figure (hanan runs) runs xs ys c (get_or sets c 0) (L.surveyed c h) sees g G' words R);
              laid = λ k l z. laid k (of_list k l) z;
            }

  -- ---- all groups

  module _ (saved stride : ℕ) (bytes : List ℕ) (P : Progress runs xs ys centres n saved (block_of bytes stride)) where
    served : (c : ℕ) → c < length runs → (e : centre c ≡ c) → Served runs xs ys centres c (P.size c) (block_of bytes stride)
    served c h e = P.served c (of_list c h) e

    abbrev tracks : ℕ → Track
    tracks = tracks_of xs.first ys.first xs.second ys.second

    abbrev route : ℕ → Route
    route k = route_in bytes stride tracks k

    abbrev layout : Layout
    layout = record { saved = saved; routes = routes_in bytes stride tracks n }

    laid : (k : ℕ) → k < length runs → (c : ℕ) (h : c < length runs) (e : centre c ≡ c) → centre k ≡ c
        → Laid (points_of xs ys c) (points_of xs ys k) c (served c h e).moves k (drop (k * stride) bytes)
    laid k l c h e z = laid_more (points_of xs ys c) (points_of xs ys k) c (served c h e).moves k stride (drop (k * stride) bytes) ((served c h e).laid k l z)

    -- by the group of its centre each run is laid, and fits
    fits : (k : ℕ) (l : k < length runs) (c : ℕ) (z : centre k ≡ c) (h : c < length runs) (e : centre c ≡ c)
        → Layable (points_of xs ys c) (points_of xs ys k) c (served c h e).moves k
    fits k l c z h e =
        let D = served c h e in
        let m = of_list c h in
        traced_layable (hanan runs) runs xs ys c (get_or sets c 0) (sides c h) (lines_few c m) (sees c m e) D.table D.moves D.traced k l (part c m e k l z)

    frames : (k : ℕ) → k < length runs → Frame (hanan runs) (run_at runs k) (columns_of (route k)) (rows_of (route k))
    frames k l =
        let c = centre k in
        let h = centred_by.listed k l in
        let e = centred_by.own k l in
        laid_frame (hanan runs) runs xs ys c (get_or sets c 0) (sides c h) (served c h e).moves k l (drop (k * stride) bytes) (fits k l c refl h e) (laid k l c h e refl)

    full : length layout.routes ≡ length runs
    full = routes_length bytes stride tracks n ∙ sym L.count

    -- THEOREM: the routes save what the tables say together, and no routes save more
    pub laid_out : LaidOut runs layout
    laid_out =
        record {
          best = rw (P.total ∙ ap (λ m. sum P.size (heads centre m)) (sym L.count))
              (lease_best (hanan runs) runs centre centred_by (λ k. columns_of (route k)) (λ k. rows_of (route k)) frames (drawn_by runs layout)
              (length-map layout.routes (drawn_of (hanan runs)) ∙ full) P.size
              (λ c h e. let D = served c h e in
              let m = of_list c h in (
                record { flip = (view_by (hanan runs) xs ys c).flip; box = box_by (hanan runs) xs ys c; table = D.table; moves = D.moves },
                record {
                  centred = sees c m e;
                  exact = D.exact;
                  says = D.says;
                  traced = D.traced;
                  drawn_by = λ k l z. mapped_at (drawn_of (hanan runs)) layout.routes k (route 0) [] (rw full l)
                      ∙ ap (drawn_of (hanan runs)) (routes_at bytes stride tracks n k (route 0) (of_list k l))
                      ∙ ap (drawn (hanan runs) (columns_of (route k)) (rows_of (route k)))
                      ((laid k l c h e z).goes ∙ steps_lifted (hanan runs) runs xs ys c (get_or sets c 0) (sides c h) (lines_few c m) D.moves h k l
                      ∙ steps_are (hanan runs) runs xs ys c (get_or sets c 0) (sides c h) (lines_few c m) (sees c m e) D.table D.moves D.traced k (part c m e k l z));
                },
              )));
          on_grid = all_at (OnGrid (hanan runs)) layout.routes (route 0) (λ k i.
              let l : k < length runs = rw (sym full) i in
              let c = centre k in
              let h = centred_by.listed k l in
              let e = centred_by.own k l in
              let p = (sides c h).first_at_lem k l in
              let q = (sides c h).second_at_lem k l in
              rw (routes_at bytes stride tracks n k (route 0) (of_list k l))
              (laid_on_grid (points_of xs ys c) (points_of xs ys k) c (served c h e).moves k (drop (k * stride) bytes) (fits k l c refl h e) (laid k l c h e refl) (hanan runs)
              (p.fits hor, q.fits hor) (p.fits ver, q.fits ver)));
          full = full;
        }
