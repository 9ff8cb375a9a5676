use mathlib.Core.Path.{◌≡◌, refl, sym, ap, ◌∙◌, subst}
use mathlib.Core.Bool.{true, false, false≢true}
use mathlib.Core.List.{List}
use Prim.Native.Nat.{ℕ, ◌<◌}
use native.Mathlib.Omega.{arith}
use lib.ListN.{length, length-map, length-replicate}
use lib.Seq.{take_all}
use Rattle.network.specs.Lists.{every}
use Rattle.network.specs.Plane.{Run}
use Rattle.network.specs.Hanan.{hanan}
use Rattle.network.specs.Route.{Route}
use Rattle.network.specs.Graph.{below}
use Rattle.intersection.proofs.Finding.{every_on, every_off}
use Rattle.grid.proofs.Hanan.{run_at_lem, run_placed}
use Rattle.plan.specs.Plan.{Entry}
use Rattle.measure.specs.Marks.{Told}
use Rattle.planner.proofs.Held.{held_few, plane_held}
use Rattle.job.specs.declared.Job.{Job}
use Rattle.planner.specs.Call.{run_of}
use Rattle.planner.specs.Held.{run_in}
use Rattle.judge.specs.declared.routes.Marks.{Marks}
use Rattle.judge.specs.True.{drawn_in}
use Rattle.judge.specs.Judged.{is_manhattan, entry_at}
use Rattle.judge.proofs.Entries.{count_read}
use Rattle.judge.proofs.Marked.{plane_of, told_none, told_next, run_in_range, routes_there, route_shown}
use Rattle.judge.proofs.Measuring.{lines_held}
use Rattle.judge.proofs.routes.Marks.mark_routes.Invariants.{right_route}
use Rattle.judge.proofs.routes.Marks.mark_routes.Goals as goal

-- route i is tried for run i as the job's arrays hold it
path_of : (j : Job) (i : ℕ) → i < j.count → (es : List Entry)
    → right_route (plane_of j) es i ≡ is_manhattan (hanan (plane_of j)) (run_of (run_in j i)) (entry_at es i).corners
path_of j i h es =
    ap (λ r. is_manhattan (hanan (plane_of j)) r (entry_at es i).corners) (run_at_lem j.x.first j.y.first j.x.second j.y.second j.count i h)

pub loop-i-init : goal.loop-i-init
loop-i-init c =
    let a = c.args in
    let j = a.known.now.job in
    let clear = c.requires.1 in
    let (es, R) = c.requires.4 in (
      held_few j c.requires.0.held,
      routes_there a.book.now j.count a.reading.now es R c.requires.2 c.requires.3,
      λ es R. (
        record {
          corners_size = ap (λ (m : Marks). length m.corners) clear ∙ length-replicate {A = ℕ} 4096 0;
          right_size = ap (λ (m : Marks). length m.right) clear ∙ length-replicate {A = ℕ} 4096 0;
          up_size = ap (λ (m : Marks). length m.up) clear ∙ length-replicate {A = ℕ} 4096 0;
        },
        refl,
        told_none (hanan (plane_of j)) 4096 _ _ _ (ap (λ (m : Marks). m.corners) clear) (ap (λ (m : Marks). m.right) clear) (ap (λ (m : Marks). m.up) clear),
      ),
    )

pub overflow_cast-at : goal.overflow_cast-at
overflow_cast-at c = omega (arith, (c.loop-i.invariant.1 c.loop-i.i c.loop-i-test.true).0)

pub overflow_add-route : goal.overflow_add-route
overflow_add-route c = omega (arith, (c.loop-i.invariant.1 c.loop-i.i c.loop-i-test.true).0)

pub overflow_cast-route : goal.overflow_cast-route
overflow_cast-route c = omega (arith, c.le16.ensures, (c.loop-i.invariant.1 c.loop-i.i c.loop-i-test.true).1)

pub le16-requires : goal.le16-requires
le16-requires c = omega (arith, (c.loop-i.invariant.1 c.loop-i.i c.loop-i-test.true).0)

pub mark_route-requires : goal.mark_route-requires
mark_route-requires c =
    let l = c.loop-i in
    let a = c.args in
    let K = c.requires.0 in
    let j = a.known.now.job in
    let lines = lines_held j K.held a.known.now.columns a.known.now.rows K.lined in
    let (es, R) = c.requires.4 in
    let k : l.i < length es = omega (arith, count_read a.book.now a.reading.now es R, c.requires.2) in (
      (l.invariant.2 es R).0,
      lines.1,
      lines.2,
      run_in_range j K.held l.i c.loop-i-test.true,
      (
        hanan (plane_of j),
        (entry_at es l.i).corners,
        route_shown j a.book.now _ _ a.reading.now es R c.requires.3 lines l.i k c.le16.result c.le16.ensures,
        run_placed j.x.first j.y.first j.x.second j.y.second j.count l.i c.loop-i-test.true,
      ),
    )

pub returns-then-not-mark_route : goal.returns-then-not-mark_route
returns-then-not-mark_route c = λ es R.
    let l = c.loop-i in
    let a = c.args in
    let K = c.requires.0 in
    let j = a.known.now.job in
    let lines = lines_held j K.held a.known.now.columns a.known.now.rows K.lined in
    let k : l.i < length es = omega (arith, count_read a.book.now a.reading.now es R, c.requires.2) in
    let tried = c.mark_route.ensures (hanan (plane_of j)) (entry_at es l.i).corners
    (route_shown j a.book.now _ _ a.reading.now es R c.requires.3 lines l.i k c.le16.result c.le16.ensures)
    (run_placed j.x.first j.y.first j.x.second j.y.second j.count l.i c.loop-i-test.true) in (
      subst (λ (plane : List Run). false ≡ every (right_route plane es) (below j.count)) (sym (plane_held j))
          (every_off (right_route (plane_of j) es) l.i j.count c.loop-i-test.true
          (path_of j l.i c.loop-i-test.true es ∙ sym tried.decides ∙ c.if-not-mark_route.true)),
      λ t. absurd (false≢true t),
    )

pub loop-i-preserved : goal.loop-i-preserved
loop-i-preserved c =
    let l = c.loop-i in
    let a = c.args in
    let K = c.requires.0 in
    let j = a.known.now.job in
    let lines = lines_held j K.held a.known.now.columns a.known.now.rows K.lined in (
      l.invariant.0,
      l.invariant.1,
      λ es R.
          let k : l.i < length es = omega (arith, count_read a.book.now a.reading.now es R, c.requires.2) in
          let tried = c.mark_route.ensures (hanan (plane_of j)) (entry_at es l.i).corners
          (route_shown j a.book.now _ _ a.reading.now es R c.requires.3 lines l.i k c.le16.result c.le16.ensures)
          (run_placed j.x.first j.y.first j.x.second j.y.second j.count l.i c.loop-i-test.true) in
          let on = c.if-not-mark_route.false in
          let marks = tried.marks on in
          let (sized, t, told) = l.invariant.2 es R in (
            record { corners_size = marks.at_corners.size; right_size = marks.to_right.size; up_size = marks.upwards.size },
            every_on (right_route (plane_of j) es) l.i (path_of j l.i c.loop-i-test.true es ∙ sym tried.decides ∙ on) t,
            told_next (hanan (plane_of j)) es l.i l.self _ k told marks,
          ),
    )

pub returns : goal.returns
returns c = λ es R.
    let l = c.loop-i in
    let a = c.args in
    let j = a.known.now.job in
    let n : l.i ≡ j.count = omega arith in
    let all = take_all l.i (drawn_in es) (omega (arith, count_read a.book.now a.reading.now es R, c.requires.2, length-map es (λ (e : Entry). e.corners))) in
    let (sized, t, told) = l.invariant.2 es R in (
      subst (λ (plane : List Run). true ≡ every (right_route plane es) (below j.count)) (sym (plane_held j))
          (sym t ∙ ap (λ (k : ℕ). every (right_route (plane_of j) es) (below k)) n),
      λ _. subst (λ (plane : List Run). Told (hanan plane) (drawn_in es) l.self.corners l.self.right l.self.up) (sym (plane_held j))
          (subst (λ (routes : List Route). Told (hanan (plane_of j)) routes l.self.corners l.self.right l.self.up) all told),
    )
