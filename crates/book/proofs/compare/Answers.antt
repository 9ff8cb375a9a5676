use mathlib.Core.Path.{sym, ap, ◌∙◌}
use Prim.Native.Nat.{ℕ, ◌+◌, ◌*◌}
use native.Mathlib.Omega.{arith}
use Rattle.std.specs.Prelude.{Err}
use Rattle.refusal.specs.declared.Refusal.TheVariants.{Miscounted}
use Rattle.job.specs.Fields.{word2}
use Rattle.book.proofs.Counts.{whole_book, by_places, runs_wrong, comparing_start, small, said_room, compared_wrong, compared_on, few_routes, comparing_all, total_wrong, all_right}
use Rattle.book.proofs.compare.Goals as goal

pub returns-then-wide-n : goal.returns-then-wide-n
returns-then-wide-n c = runs_wrong (whole_book _ c.args.head.now _ _ _ c.requires) (λ z. c.if-wide-n.true (c.wide.ensures.0 ∙ z))

pub loop-i-init : goal.loop-i-init
loop-i-init c w = comparing_start w

pub bounds-places-i : goal.bounds-places-i
bounds-places-i c = omega (arith, small (whole_book _ c.args.head.now _ _ _ c.requires) c.loop-i.i (omega arith))

pub bounds-places-i-in-loop-i : goal.bounds-places-i-in-loop-i
bounds-places-i-in-loop-i c = omega (arith, small (whole_book _ c.args.head.now _ _ _ c.requires) c.loop-i.i (omega arith))

pub le16-requires : goal.le16-requires
le16-requires c = omega (arith, said_room (whole_book _ c.args.head.now _ _ _ c.requires) c.loop-i.i (omega arith), c.wide-at.ensures.0)

pub returns-then-end-at : goal.returns-then-end-at
returns-then-end-at c =
    let w = whole_book _ c.args.head.now _ _ _ c.requires in
    let size = c.route_size-size.ensures.0 in
    let at = c.wide-at.ensures.0 in
    let end = c.wide-end.ensures.0 in
    let said = c.wide-said.ensures.0 ∙ c.le16.ensures ∙ ap (λ (k : ℕ). word2 c.args.book.now (k + 5)) at in
    ap (λ (k : ℕ). Err (Miscounted k)) at
    ∙ compared_wrong w _ c.loop-i-test.true _ said ((λ k. by_places (sym size k) (sym at k) (sym end k) c.wide-said.result) ∙ c.if-end-at.true)
    (sym c.wide.ensures.0 ∙ c.if-wide-n.false) (c.loop-i.invariant w)

pub loop-i-preserved : goal.loop-i-preserved
loop-i-preserved c w =
    let size = c.route_size-size.ensures.0 in
    let at = c.wide-at.ensures.0 in
    let end = c.wide-end.ensures.0 in
    let said = c.wide-said.ensures.0 ∙ c.le16.ensures ∙ ap (λ (k : ℕ). word2 c.args.book.now (k + 5)) at in
    compared_on w _ c.loop-i-test.true _ said ((λ k. by_places (sym size k) (sym at k) (sym end k) c.wide-said.result) ∙ c.if-end-at.false) (c.loop-i.invariant w)

pub bounds-places-n : goal.bounds-places-n
bounds-places-n c = omega (arith, few_routes (whole_book _ c.args.head.now _ _ _ c.requires))

pub returns-then-end-size : goal.returns-then-end-size
returns-then-end-size c =
    let w = whole_book _ c.args.head.now _ _ _ c.requires in
    let end = c.wide-end-2.ensures.0 in
    ap (λ (k : ℕ). Err (Miscounted k)) end
    ∙ total_wrong w (sym c.wide.ensures.0 ∙ c.if-wide-n.false) (comparing_all w _ c.loop-i.auto.i-end c.loop-i-test.false (c.loop-i.invariant w))
    (λ z. c.if-end-size.true (end ∙ z ∙ sym (λ k. 19 + c.route_size-size.ensures.0 k * c.args.n + 9 * c.wide-2.ensures.0 k)))

pub returns : goal.returns
returns c =
    let w = whole_book _ c.args.head.now _ _ _ c.requires in
    all_right w (sym c.wide.ensures.0 ∙ c.if-wide-n.false) (comparing_all w _ c.loop-i.auto.i-end c.loop-i-test.false (c.loop-i.invariant w))
    (sym c.wide-end-2.ensures.0 ∙ c.if-end-size.false ∙ λ k. 19 + c.route_size-size.ensures.0 k * c.args.n + 9 * c.wide-2.ensures.0 k)
