use mathlib.Core.Path.{sym, ap, ◌∙◌, subst}
use mathlib.Core.Bool.{false≢true}
use Prim.Native.Nat.{◌<◌}
use native.Mathlib.Omega.{arith}
use lib.Seq.{take_all}
use lib.ListN.{length}
use Rattle.network.specs.Lists.{every}
use Rattle.network.specs.Route.{Route}
use Rattle.judge.specs.Judged.{is_vertex}
use Rattle.judge.specs.Steps.{RouteMarked}
use Rattle.judge.proofs.Tracing.{resized, marked_first, vertex_first, turn_astray, turn_on, turn_marked}
use Rattle.judge.proofs.routes.Marks.trace.Goals as goal

pub mark_corner-requires : goal.mark_corner-requires
mark_corner-requires c = (omega (arith, c.requires), omega (arith, c.requires), c.requires.0)

pub loop-k-init : goal.loop-k-init
loop-k-init c = (
  resized c.mark_corner.ensures c.requires.0.right_size c.requires.0.up_size,
  λ g route shown e.
      let h : c.args.from.column < length g.columns = omega (arith, c.requires.3, shown.ruled.across_is) in
      let k : c.args.from.row < length g.rows = omega (arith, c.requires.4, shown.ruled.down_is) in (
        c.requires.3,
        c.requires.4,
        e,
        vertex_first g c.args.from h k route shown.drawn.some e,
        marked_first g c.args.from h k (omega (arith, c.requires.1, shown.ruled.across_is)) (omega (arith, c.requires.2, shown.ruled.down_is))
            c.args.self.now _ c.mark_corner.ensures route c.requires.0 shown.drawn.some e,
      ),
)

pub corner-c-requires : goal.corner-c-requires
corner-c-requires c =
    let (g, route, shown, e) = c.requires.5 in
    omega (arith, shown.drawn.within, shown.many)

pub mark_piece-requires : goal.mark_piece-requires
mark_piece-requires c =
    let l = c.loop-k in
    let (g, route, shown, e) = c.requires.5 in
    let (x, y, q, t, marked) = l.invariant.1 g route shown e in
    (c.requires.1, c.requires.2, x, y, l.invariant.0.right_size, l.invariant.0.up_size)

pub returns-in_default : goal.returns-in_default
returns-in_default c = λ g route shown e.
    let l = c.loop-k in
    let (x, y, q, t, marked) = l.invariant.1 g route shown e in
    record {
      decides =
          turn_astray g route shown c.requires.1 c.requires.2 l.k (omega arith) c.loop-k-test.true l.v q
          c.corner-c.result c.corner-c.ensures (c.in_default.ensures.2 g shown.ruled);
      marks = λ t. absurd (false≢true t);
    }

pub mark_corner-requires-in-loop-k : goal.mark_corner-requires-in-loop-k
mark_corner-requires-in-loop-k c =
    let l = c.loop-k in
    let (g, route, shown, e) = c.requires.5 in
    let (x, y, q, t, marked) = l.invariant.1 g route shown e in
    let (i, j, p, u) =
    turn_on g route shown c.requires.1 c.requires.2 l.k (omega arith) c.loop-k-test.true l.v q
    c.corner-c.result c.corner-c.ensures c.in-Some.next (c.in-Some.ensures.2 g shown.ruled) t in (
      omega (arith, i, c.requires.1),
      omega (arith, j, c.requires.2),
      record { corners_size = l.invariant.0.corners_size; right_size = c.in-Some.ensures.0; up_size = c.in-Some.ensures.1 },
    )

pub loop-k-preserved : goal.loop-k-preserved
loop-k-preserved c =
    let l = c.loop-k in (
      resized c.mark_corner-in-loop-k.ensures c.in-Some.ensures.0 c.in-Some.ensures.1,
      λ g route shown e.
          let (x, y, q, t, marked) = l.invariant.1 g route shown e in
          let a = c.in-Some.ensures.2 g shown.ruled in
          let (i, j, p, u) =
          turn_on g route shown c.requires.1 c.requires.2 l.k (omega arith) c.loop-k-test.true l.v q
          c.corner-c.result c.corner-c.ensures c.in-Some.next a t in (
            i,
            j,
            p,
            u,
            turn_marked g route shown c.requires.1 c.requires.2 l.k (omega arith) c.loop-k-test.true l.v q
                c.corner-c.result c.corner-c.ensures c.in-Some.next a c.args.self.now _ l.self.corners c.mark_corner-in-loop-k.ensures marked,
          ),
    )

pub returns : goal.returns
returns c = λ g route shown e.
    let l = c.loop-k in
    let (x, y, q, t, marked) = l.invariant.1 g route shown e in
    let all = take_all l.k route (omega (arith, shown.many)) in
    record {
      decides = sym (sym (ap (every (is_vertex g)) all) ∙ t);
      marks = λ _. subst (λ (p : Route). RouteMarked g p c.args.self.now l.self) all marked;
    }
