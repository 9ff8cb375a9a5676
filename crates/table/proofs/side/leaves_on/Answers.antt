use mathlib.Core.Path.{◌∙◌, sym}
use Rattle.table.specs.Frame.{line_of}
use Rattle.network.specs.Plane.{gap}
use Rattle.table.proofs.Boxes.{leaves_none, leaves_more, leaves_lt}
use native.Mathlib.Omega.{arith}
use Rattle.table.proofs.side.leaves_on.Goals as goal

pub loop-k-init : goal.loop-k-init
unfolding gap
loop-k-init c =
    let a = c.args in
    (c.loop-i.invariant.0, λ i h. c.loop-i.invariant.1 i (omega arith) ∙ sym (leaves_none a.places.now.first a.places.now.second a.leaves (line_of a.p a.q i)))

pub put_run-requires : goal.put_run-requires
put_run-requires c =
    let a = c.args in (
      c.loop-k.invariant.0,
      omega arith,
      c.requires.2,
      c.requires.3,
      λ i h. rw (c.loop-k.invariant.1 i h) (leaves_lt a.places.now.first a.places.now.second c.loop-k.k a.leaves (line_of a.p a.q i)),
    )

pub loop-k-preserved : goal.loop-k-preserved
loop-k-preserved c =
    let a = c.args in (
      c.put_run.ensures.0,
      λ i h. rw (leaves_more a.places.now.first a.places.now.second c.loop-k.k a.leaves (line_of a.p a.q i), ← c.loop-k.invariant.1 i h) (c.put_run.ensures.1 i h),
    )
