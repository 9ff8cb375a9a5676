use Prim.Native.Nat.{ℕ, pred, ◌-◌, ◌*◌}
use mathlib.Core.Path.{◌≡◌, refl, sym, ap, ◌∙◌}
use native.Mathlib.Numerals.{add-one}
use Rattle.network.specs.Steps.{hor, ver}
use Rattle.table.specs.Frame.{group_of}
use Rattle.table.specs.Rule.{position}
use Rattle.table.proofs.Filling.{position_base, position_first, position_next, position_plus, position_end, near, done_all, filled_again, filled_more, filled_next, position_few, position_behind}
use native.Mathlib.Omega.{arith}
use Rattle.table.proofs.fill.fill.Goals as goal

-- the line before a line
pred_of : (i : ℕ) → i - 1 ≡ pred i
pred_of i = omega arith

pub vertex-cell-requires : goal.vertex-cell-requires
vertex-cell-requires c =
    let F = c.loop-p.invariant.0 in
    let e = sym (position_base c.args.g.now.w c.loop-p.p) in
    let h = c.requires.some_rows in (
      near _ _ _ F.fit F.done hor _ 0 c.loop-p-test.true h e,
      near _ _ _ F.fit F.done ver 0 _ h c.loop-p-test.true e,
      c.loop-p.invariant.1,
    )

pub loop-p-preserved : goal.loop-p-preserved
loop-p-preserved c =
    let s : c.saturating_sub.result ≡ pred c.loop-p.p = omega (arith, c.saturating_sub.ensures) in
    let e = rw s at c.vertex-cell.ensures in
    let n = filled_next (group_of c.args.g.now) _ c.loop-p.work c.loop-p.p c.loop-p.p 0 c.loop-p.invariant.0 c.loop-p-test.true c.requires.some_rows (sym (position_base c.args.g.now.w c.loop-p.p))
    c.vertex-cell.result _ e.0 e.1 e.2 in
    (n.0, λ _. n.1)

pub loop-b-init : goal.loop-b-init
loop-b-init c =
    let e : c.loop-p.p ≡ c.args.g.now.w = omega arith in
    (omega (arith, position_first c.args.g.now.w 1), rw e at (filled_again _ _ _ _ c.loop-p.invariant.0))

pub vertex-last-requires : goal.vertex-last-requires
vertex-last-requires c =
    let F = c.loop-b.invariant.1 in
    let w = c.requires.some_columns in (
      near _ _ _ F.fit F.done hor 0 _ w c.loop-b-test.true c.loop-b.invariant.0,
      near _ _ _ F.fit F.done ver _ 0 c.loop-b-test.true w c.loop-b.invariant.0,
      λ z. absurd (z refl),
    )

pub overflow_add-p : goal.overflow_add-p
overflow_add-p c =
    omega (arith, position_few (group_of c.args.g.now) _ _ c.loop-b.p 0 c.loop-b.b c.loop-b.invariant.1 c.requires.some_columns c.loop-b-test.true c.loop-b.invariant.0)

pub loop-a-init : goal.loop-a-init
loop-a-init c =
    let e = rw (pred_of c.loop-b.b) at c.vertex-last.ensures in
    let n = filled_next (group_of c.args.g.now) _ c.loop-b.work c.loop-b.p 0 c.loop-b.b c.loop-b.invariant.1 c.requires.some_columns c.loop-b-test.true c.loop-b.invariant.0 c.vertex-last.result _ e.0 e.1 e.2 in
    (omega (arith, c.loop-b.invariant.0, position_plus c.args.g.now.w 1 c.loop-b.b), filled_again _ _ _ _ n.0, n.1)

pub inner_vertex-cell-requires : goal.inner_vertex-cell-requires
inner_vertex-cell-requires c =
    let F = c.loop-a.invariant.1 in
    let e = c.loop-a.invariant.0 in (
      near _ _ _ F.fit F.done hor _ _ c.loop-a-test.true c.loop-b-test.true e,
      near _ _ _ F.fit F.done ver _ _ c.loop-b-test.true c.loop-a-test.true e,
      c.loop-a.invariant.2,
      omega arith,
      omega arith,
      c.requires.some_columns,
      omega (arith, e, position_behind c.args.g.now.w c.loop-a.a c.loop-b.b (omega arith)),
    )

pub overflow_add-p-in-loop-a : goal.overflow_add-p-in-loop-a
overflow_add-p-in-loop-a c =
    omega (arith, position_few (group_of c.args.g.now) _ _ c.loop-a.p c.loop-a.a c.loop-b.b c.loop-a.invariant.1 c.loop-a-test.true c.loop-b-test.true c.loop-a.invariant.0)

pub loop-a-preserved : goal.loop-a-preserved
loop-a-preserved c =
    let e = rw (pred_of c.loop-a.a, pred_of c.loop-b.b) at c.inner_vertex-cell.ensures in
    let n = filled_next (group_of c.args.g.now) _ c.loop-a.work c.loop-a.p c.loop-a.a c.loop-b.b c.loop-a.invariant.1 c.loop-a-test.true c.loop-b-test.true c.loop-a.invariant.0
    c.inner_vertex-cell.result _ e.0 e.1 e.2 in
    (rw (add-one c.loop-a.a, position_next c.args.g.now.w c.loop-a.a c.loop-b.b, ← c.loop-a.invariant.0) (add-one c.loop-a.p), n.0, n.1)

pub loop-b-preserved : goal.loop-b-preserved
loop-b-preserved c =
    let w = c.args.g.now.w in
    let e : c.loop-a.a ≡ w = omega arith in
    let n = rw (pred_of c.loop-b.b) at c.vertex-last.ensures in
    let m = filled_next (group_of c.args.g.now) _ c.loop-b.work c.loop-b.p 0 c.loop-b.b c.loop-b.invariant.1 c.requires.some_columns c.loop-b-test.true c.loop-b.invariant.0 c.vertex-last.result _ n.0 n.1 n.2 in (
      c.loop-a.invariant.0 ∙ ap (λ a. position w a c.loop-b.b) e ∙ position_end w c.loop-b.b ∙ ap (position w 0) (sym (add-one c.loop-b.b)),
      filled_more _ _ _ _ _ _ (omega (arith, c.loop-b.invariant.0, c.loop-a.invariant.0, position_plus w c.loop-a.a c.loop-b.b)) m.0 c.loop-a.invariant.1,
    )

pub returns : goal.returns
returns c =
    let l = c.loop-b in
    let w = c.args.g.now.w in
    let h = c.args.g.now.h in
    let e : l.b ≡ h = omega arith in
    let f : l.p ≡ h * w = l.invariant.0 ∙ position_first w l.b ∙ ap (λ n. n * w) e in
    let F = filled_more _ _ _ _ _ _ (omega (arith, position_behind w 0 l.b (omega arith), l.invariant.0)) c.loop-p.invariant.0 l.invariant.1 in
    (done_all (group_of c.args.g.now) _ (rw f at F.done), rw (← f) F.beyond)
