-- The routes of a book, marked one after the other: what the marks tell of the first i routes, and with one more.
use mathlib.Core.Path.{◌≡◌, sym, ap, ◌∙◌, subst}
use mathlib.Core.Bool.{true, false, not, ◌&&◌, ◌||◌, and-false, or-false, and-or_distrib_left}
use mathlib.Core.List.{List, [], ◌∷◌, ◌++◌}
use Prim.Native.Nat.{ℕ, suc, ◌+◌, ◌*◌, ◌≤◌, ◌<◌}
use native.Mathlib.Numerals.{add-one}
use native.Mathlib.Omega.{arith}
use lib.Dec.{eqb, ltb}
use lib.ListN.{length, get_or, take, replicate, length-map}
use lib.Seq.{take-suc}
use Rattle.network.specs.Lists.{any}
use Rattle.network.specs.Plane.{Run}
use Rattle.network.specs.Grid.{Grid}
use Rattle.network.specs.Hanan.{hanan}
use Rattle.network.specs.Route.{Route, on}
use Rattle.network.specs.Passes.{among}
use Rattle.network.specs.Steps.{Dir, hor, ver, vertex}
use Rattle.network.proofs.Lists.{any_append, get_or_nothing}
use Rattle.grid.specs.Runs.{runs_held}
use Rattle.job.specs.declared.Job.{Job}
use Rattle.job.specs.Fields.{word2}
use Rattle.job.specs.Written.{InRange}
use Rattle.book.specs.declared.Reading.{Reading}
use Rattle.plan.specs.Plan.{Entry}
use Rattle.measure.specs.Marks.{places, edge_on, edge_behind, cell, is_marked, Told, Ruled}
use Rattle.planner.specs.Held.{run_in, Held}
use Rattle.planner.proofs.Held.{length_held, held_at, plane_held}
use Rattle.grid.specs.declared.Axis.{Axis}
use Rattle.judge.specs.declared.routes.Marks.{Marks}
use Rattle.judge.specs.True.{drawn_in}
use Rattle.judge.specs.Judged.{entry_at}
use Rattle.judge.specs.Steps.{ReadAs, Lines, Shown, RouteMarked}
use Rattle.judge.proofs.TrueIff.{drawn_at}
use Rattle.judge.proofs.Entries.{count_read, newer_room, corners_at_lem, route_drawn}

-- ---- marks

-- a table of zeros has no mark
no_mark : (n m : ℕ) (ms : List ℕ) → ms ≡ replicate n 0 → is_marked ms m ≡ false
unfolding is_marked
no_mark n m ms e = ap (λ l. not (eqb (get_or l m 0) 0)) e ∙ ap (λ k. not (eqb k 0)) (get_or_nothing 0 n m)

-- no route is told
pub told_none : (g : Grid) (n : ℕ) (corners right up : List ℕ) → corners ≡ replicate n 0 → right ≡ replicate n 0 → up ≡ replicate n 0 → Told g [] corners right up
unfolding edge_behind
told_none g n corners right up c r u =
    record {
      at_corners = λ i j h k. no_mark n (j * 64 + i) corners c;
      to_right = λ a k h l. no_mark n (cell hor a k) right r ∙ sym (and-false (ltb (suc k) (places g hor)));
      upwards = λ a k h l. no_mark n (cell ver a k) up u ∙ sym (and-false (ltb (suc k) (places g ver)));
    }

-- some routes, and one more: the edges behind a place
edges_more : (g : Grid) (d : Dir) (routes : List Route) (route : Route) (a k : ℕ)
    → (edge_behind g d (λ e. any (on e) routes) a k || edge_behind g d (λ e. on e route) a k) ≡ edge_behind g d (λ e. any (on e) (routes ++ route ∷ [])) a k
unfolding edge_behind
edges_more g d routes route a k =
    let e = edge_on g d a k in
    let b = ltb (suc k) (places g d) in
    sym
    (ap (λ t. b && t) (any_append (on e) routes (route ∷ []) ∙ ap (λ t. any (on e) routes || t) (or-false (on e route)))
    ∙ and-or_distrib_left b (any (on e) routes) (on e route))

-- a route that is marked is told with the others
told_more : (g : Grid) (routes : List Route) (route : Route) (ms ns : Marks) → Told g routes ms.corners ms.right ms.up
    → RouteMarked g route ms ns → Told g (routes ++ route ∷ []) ns.corners ns.right ns.up
told_more g routes route ms ns t m =
    record {
      at_corners = λ i j h k. m.at_corners.marked i j h k
          ∙ ap (λ b. b || among (vertex g i j) route) (t.at_corners i j h k)
          ∙ sym (any_append (among (vertex g i j)) routes (route ∷ []) ∙ ap (λ b. any (among (vertex g i j)) routes || b) (or-false (among (vertex g i j) route)));
      to_right = λ a k h l. m.to_right.marked a k h l
          ∙ ap (λ b. b || edge_behind g hor (λ e. on e route) a k) (t.to_right a k h l)
          ∙ edges_more g hor routes route a k;
      upwards = λ a k h l. m.upwards.marked a k h l
          ∙ ap (λ b. b || edge_behind g ver (λ e. on e route) a k) (t.upwards a k h l)
          ∙ edges_more g ver routes route a k;
    }

-- the first i routes of a book, and the next
pub told_next : (g : Grid) (es : List Entry) (i : ℕ) (ms ns : Marks) → i < length es → Told g (take i (drawn_in es)) ms.corners ms.right ms.up
    → RouteMarked g (entry_at es i).corners ms ns → Told g (take (i + 1) (drawn_in es)) ns.corners ns.right ns.up
told_next g es i ms ns h t m =
    let l : i < length (drawn_in es) = omega (arith, length-map es (λ (e : Entry). e.corners)) in
    let next : take i (drawn_in es) ++ ((entry_at es i).corners ∷ []) ≡ take (i + 1) (drawn_in es) =
    sym
    (ap (λ n. take n (drawn_in es)) (add-one i)
    ∙ take-suc (drawn_in es) i [] l
    ∙ ap (λ r. take i (drawn_in es) ++ (r ∷ [])) (drawn_at es i)) in
    subst (λ (routes : List Route). Told g routes ns.corners ns.right ns.up) next
    (told_more g (take i (drawn_in es)) (entry_at es i).corners ms ns t m)

-- ---- run i of a job, and route i of a book

-- the runs of the job, as its arrays hold them
abbrev pub plane_of : Job → List Run
plane_of j = runs_held j.x.first j.y.first j.x.second j.y.second j.count

-- run i is in range
pub run_in_range : (j : Job) → Held j → (i : ℕ) → i < j.count → InRange (run_in j i)
run_in_range j h i l = subst InRange (held_at j i l) (h.well_formed.in_range i (omega (arith, length_held j)))

-- the record of each route is there, and says at most 127 corners
pub routes_there : (book : List ℕ) (n : ℕ) (r : Reading) (es : List Entry) → ReadAs book r es → r.head.runs ≡ n → r.head.grouped ≡ true
    → (k : ℕ) → k < n → (get_or r.places k 0 + 9 ≤ length book) × (word2 book (get_or r.places k 0 + 5) ≤ 127)
routes_there book n r es R e newer k l =
    let m : k < length es = omega (arith, count_read book r es R) in
    (newer_room book r es R k m newer, omega (arith, corners_at_lem book r es R k m, (route_drawn book r es R k m newer).few))

-- its route stands in the book, and the lines of the job's grid in the tables
pub route_shown : (j : Job) (book : List ℕ) (columns rows : Axis) (r : Reading) (es : List Entry) → ReadAs book r es → r.head.grouped ≡ true
    → Lines j columns rows → (i : ℕ) → i < length es → (many : ℕ) → many ≡ word2 book (get_or r.places i 0 + 5)
    → Shown (hanan (plane_of j)) (entry_at es i).corners book (get_or r.places i 0 + 9) many columns rows
route_shown j book columns rows r es R newer lines i l many e =
    record {
      drawn = route_drawn book r es R i l newer;
      many = e ∙ corners_at_lem book r es R i l;
      ruled = subst (λ (plane : List Run). Ruled (hanan plane) columns.lines columns.count rows.lines rows.count) (plane_held j) lines.0;
    }
