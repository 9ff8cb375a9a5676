use mathlib.Core.Path.{◌≡◌, sym, subst}
use mathlib.Core.List.{List}
use Prim.Native.Nat.{ℕ, ◌+◌, ◌*◌, ◌≤◌}
use lib.ListN.{length}
use Rattle.network.specs.Plane.{Run}
use Rattle.table.specs.Side.{side_by}
use Rattle.table.specs.Rule.{Beyond}
use Rattle.laying.specs.Lease.{table_words, LeaseSurveyed, block_of}
use Rattle.laying.proofs.Laying.{laid_out}
use Rattle.laying.proofs.Loop.{beyond_self, beyond_on, Progress, progress_start, progress_skip, progress_step}
use native.Mathlib.Omega.{arith}
use Rattle.laying.proofs.lay.Goals as goal
use Rattle.laying.proofs.lay.Goals.{else-centres-i, then-centres-i}

pub loop-i-init : goal.loop-i-init
loop-i-init c =
    let f = c.new-frame.ensures in
    let t = c.new-trace.ensures in
    (omega arith, λ runs L. (progress_start _ _ _ _ _, beyond_self _ _), f.0, f.1, t.0, t.1)

pub put_moves-more-requires : goal.put_moves-more-requires
put_moves-more-requires c =
    let p = c.requires.0 in
    let l = c.loop-i in
    ((p.0, p.1, subst (λ m. table_words p.0 ≤ m) (sym l.auto.work) p.2), omega arith, c.if-centres-i.true, l.invariant.2, l.invariant.3, l.invariant.4, l.invariant.5)

pub lay_group-requires : goal.lay_group-requires
lay_group-requires c =
    let p = c.requires in
    let g = (c.put_moves-more.ensures.0 p.0.0 p.0.1).0.layable in (
      record { few = g.few; centre = g.centre; own = g.own; layable = g.layable },
      record { enough = p.1.enough; room = omega (arith, p.1.room, c.loop-i.auto.routes) },
      c.put_moves-more.ensures.3,
    )

pub overflow_add-saved : goal.overflow_add-saved
overflow_add-saved c = omega (arith, c.loop-i.invariant.0, c.requires.0.1.few, c.put_moves-more.type_inv)

pub loop-i-preserved : goal.loop-i-preserved
loop-i-preserved c =
    let l = c.loop-i in
    let a = c.args in
    let xs = side_by a.x.now in
    let ys = side_by a.y.now in
    let Next : List ℕ → List ℕ → ℕ → Type 0
    = λ work routes saved. (saved ≤ (l.i + 1) * 4294967296)
    × ((runs : List Run) → LeaseSurveyed runs xs ys a.n a.centres.now a.neighbours.now
    → Progress runs xs ys a.centres.now (l.i + 1) saved (block_of routes a.stride) × Beyond a.work.now work (table_words runs)) in
    let r : Next c.if-centres-i.work c.if-centres-i.routes c.if-centres-i.saved
    = elim c.if-centres-i.branch [
      | then-centres-i w ↦ let m = w.put_moves-more in
          let work = m.new.work in
          let routes = w.lay_group.new.routes in
          let written = w.lay_group.ensures.0 in
          subst (λ work. Next work c.if-centres-i.routes c.if-centres-i.saved) (sym w.work-is)
          (subst (λ routes. Next work routes c.if-centres-i.saved) (sym w.routes-is)
          (subst (Next work routes) (sym w.saved-is) (
            omega (arith, l.invariant.0, m.type_inv),
            λ runs L. (
              progress_step runs xs ys a.centres.now l.i m.result l.saved (block_of l.routes a.stride) (block_of routes a.stride) w.if-centres-i.true
                  (l.invariant.1 runs L).0 ((m.ensures.0 runs L).0.serves (block_of routes a.stride) written.laid) (λ j o d. written.others j (λ h e. d e)),
              beyond_on _ _ _ _ (l.invariant.1 runs L).1 (m.ensures.0 runs L).1,
            ),
          )))
      | else-centres-i w ↦ subst (λ work. Next work c.if-centres-i.routes c.if-centres-i.saved) (sym w.work-is)
          (subst (λ routes. Next l.work routes c.if-centres-i.saved) (sym w.routes-is)
          (subst (Next l.work l.routes) (sym w.saved-is) (
            omega (arith, l.invariant.0),
            λ runs L. (progress_skip _ _ _ _ _ _ _ w.if-centres-i.false (l.invariant.1 runs L).0, (l.invariant.1 runs L).1),
          )))
    ] in
    let full : (length c.if-centres-i.frame.cols ≡ 64) × (length c.if-centres-i.frame.rows ≡ 64) × (length c.if-centres-i.trace.steps ≡ 128) × (length c.if-centres-i.trace.shares ≡ 128)
    = elim c.if-centres-i.branch [ then-centres-i w ↦ rw (w.frame-is, w.trace-is) (w.put_moves-more.ensures.1, w.put_moves-more.ensures.2, w.put_moves-more.ensures.3, w.put_moves-more.ensures.4) | else-centres-i w ↦ rw (w.frame-is, w.trace-is) (l.invariant.2, l.invariant.3, l.invariant.4, l.invariant.5) ] in
    (r.0, r.1, full.0, full.1, full.2, full.3)

pub returns : goal.returns
returns c =
    let a = c.args in
    let xs = side_by a.x.now in
    let ys = side_by a.y.now in
    let l = c.loop-i in
    let e : l.i ≡ a.n = omega arith in (
      λ runs L. (
        laid_out runs xs ys a.n a.centres.now a.neighbours.now L l.saved a.stride l.routes
            (subst (λ m. Progress runs xs ys a.centres.now m l.saved (block_of l.routes a.stride)) e (l.invariant.1 runs L).0),
        (l.invariant.1 runs L).1,
      ),
      l.auto.routes,
    )
