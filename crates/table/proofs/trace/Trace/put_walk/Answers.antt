use mathlib.Core.Path.{◌≡◌}
use Prim.Native.Nat.{suc, ◌-◌, ◌%◌}
use native.Mathlib.Nat.{mod-eq_of_lt}
use Rattle.table.specs.Frame.{group_of}
use Rattle.table.specs.Rule.{position}
use Rattle.table.proofs.Walking.{held_more, held_all}
use native.Mathlib.Omega.{arith}
use Rattle.table.proofs.trace.Trace.put_walk.Goals as goal

pub loop-i-preserved : goal.loop-i-preserved
unfolding position
loop-i-preserved c =
    let f = c.requires.0 in
    let r = c.arrive-u.ensures in
    let e : c.up_no-n.result % 256 ≡ c.up_no-n.result = mod-eq_of_lt (omega (arith, c.up_no-n.ensures)) in
    let z : c.loop-i.i ≡ suc (c.loop-i.i - 1) = omega arith in
    let s = c.loop-i.self in (
      rw e (held_more (group_of c.args.g.now) c.args.work.now _ c.loop-i.a c.loop-i.b s.steps s.shares c.loop-i.t c.arrive-u.result (c.loop-i.i - 1) c.up_no-n.result c.share_no.result
          (omega (arith, c.loop-i.invariant.0, f.columns, f.rows)) r c.up_no-n.ensures.0 c.up_no-n.ensures.1 c.up_no-n.ensures.2 c.up_no-n.ensures.3 c.share_no.ensures (rw z at c.loop-i.invariant.0)),
      c.loop-i.invariant.1,
    )

pub returns : goal.returns
returns c =
    let l = c.loop-i in
    let e : l.i ≡ 0 = omega arith in
    (rw l.invariant.1 (held_all (group_of c.args.g.now) c.args.work.now _ _ _ _ _ _ (rw e at l.invariant.0)), l.invariant.1, l.invariant.0.steps_size, l.invariant.0.shares_size)
