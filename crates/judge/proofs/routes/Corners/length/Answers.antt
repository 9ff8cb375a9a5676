use mathlib.Core.Path.{sym, ap, ap₂, ◌∙◌}
use Prim.Native.Nat.{◌+◌, ◌-◌}
use native.Mathlib.Omega.{arith}
use lib.Seq.{take_all}
use Rattle.network.specs.Lists.{sum as total}
use Rattle.network.specs.Plane.{distance, ◌to◌}
use Rattle.network.specs.Route.{pieces}
use Rattle.judge.proofs.Pieces.{length_more, first_corner, corner_read}
use Rattle.judge.proofs.routes.Corners.length.Goals as goal

pub loop-k-init : goal.loop-k-init
loop-k-init c =
    let (route, d, e) = c.requires in
    (omega arith, λ r dr er. sym (ap (λ l. total distance (pieces l)) (first_corner r dr.some)))

pub corner-p-requires : goal.corner-p-requires
corner-p-requires c = let (route, d, e) = c.requires in omega (arith, d.within)

pub corner-q-requires : goal.corner-q-requires
corner-q-requires c = let (route, d, e) = c.requires in omega (arith, d.within)

pub distance_of-sum-requires : goal.distance_of-sum-requires
distance_of-sum-requires c =
    let (route, d, e) = c.requires in
    let l = c.loop-k in
    let p = corner_read c.args.self.now.book.now c.args.self.now.at route d (l.k - 1) (omega arith) c.corner-p.result c.corner-p.ensures in
    let q = corner_read c.args.self.now.book.now c.args.self.now.at route d l.k (omega arith) c.corner-q.result c.corner-q.ensures in
    (p.1, p.2, q.1, q.2)

pub overflow_add-sum : goal.overflow_add-sum
overflow_add-sum c =
    let (route, d, e) = c.requires in
    omega (arith, d.few, c.distance_of-sum.ensures.1, c.loop-k.invariant.0)

pub loop-k-preserved : goal.loop-k-preserved
loop-k-preserved c =
    let l = c.loop-k in (
      omega (arith, l.invariant.0, c.distance_of-sum.ensures.1),
      λ route d e.
          let p =
          corner_read c.args.self.now.book.now c.args.self.now.at route d (l.k - 1) (omega arith) c.corner-p.result c.corner-p.ensures in
          let q = corner_read c.args.self.now.book.now c.args.self.now.at route d l.k (omega arith) c.corner-q.result c.corner-q.ensures in
          ap₂ ◌+◌ (l.invariant.1 route d e) (c.distance_of-sum.ensures.0 ∙ ap₂ (λ a b. distance (a to b)) p.0 q.0)
          ∙ sym (length_more route l.k (omega arith) (omega arith)),
    )

pub returns : goal.returns
returns c = λ route d e.
    let l = c.loop-k in
    l.invariant.1 route d e ∙ ap (λ r. total distance (pieces r)) (take_all l.k route (omega arith))
