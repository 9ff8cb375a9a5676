-- The ways and the stretch are those of the definition, and there is room for them.
use mathlib.Core.Path.{◌∙◌}
use native.Mathlib.Omega.{arith}
use Rattle.table.specs.Walk.{trace_of}
use Rattle.layout.proofs.Laying.{leaf_few, leaf_count, walked_length, laid_leaf}
use Rattle.layout.proofs.leaf_route.Goals as goal

pub way_of-x-requires : goal.way_of-x-requires
way_of-x-requires c =
    let few = leaf_few _ _ _ (trace_of c.args.trace.now.steps c.requires.2.2 c.requires.2.3) _ _ c.requires.0 c.requires.2.4 in
    (c.requires.2.4.ready.centre_layable.in_columns, c.requires.2.4.ready.layable.in_columns, omega arith, omega arith)

pub overflow_sub-from : goal.overflow_sub-from
overflow_sub-from c =
    let few = leaf_few _ _ _ (trace_of c.args.trace.now.steps c.requires.2.2 c.requires.2.3) _ _ c.requires.0 c.requires.2.4 in
    few.0

pub overflow_sub-size : goal.overflow_sub-size
overflow_sub-size c =
    let few = leaf_few _ _ _ (trace_of c.args.trace.now.steps c.requires.2.2 c.requires.2.3) _ _ c.requires.0 c.requires.2.4 in
    few.1

pub way_of-y-requires : goal.way_of-y-requires
way_of-y-requires c =
    let few = leaf_few _ _ _ (trace_of c.args.trace.now.steps c.requires.2.2 c.requires.2.3) _ _ c.requires.0 c.requires.2.4 in
    (c.requires.2.4.ready.centre_layable.in_rows, c.requires.2.4.ready.layable.in_rows, omega arith, omega arith)

pub leg-at-requires : goal.leg-at-requires
leg-at-requires c =
    let room = leaf_count _ _ _ (trace_of c.args.trace.now.steps c.requires.2.2 c.requires.2.3) _ _ c.requires.0 c.requires.2.4 _ _ c.way_of-x.ensures c.way_of-y.ensures in
    omega (arith, room, c.requires.1)

pub slice_bounds-along-end : goal.slice_bounds-along-end
slice_bounds-along-end c = omega (arith, c.requires.0, leaf_few _ _ _ (trace_of c.args.trace.now.steps c.requires.2.2 c.requires.2.3) _ _ c.requires.0 c.requires.2.4)

pub along-at-requires : goal.along-at-requires
along-at-requires c =
    let room = leaf_count _ _ _ (trace_of c.args.trace.now.steps c.requires.2.2 c.requires.2.3) _ _ c.requires.0 c.requires.2.4 _ _ c.way_of-x.ensures c.way_of-y.ensures in
    let size = walked_length _ _ _ (trace_of c.args.trace.now.steps c.requires.2.2 c.requires.2.3) _ _ c.requires.0 c.requires.2.4 in
    let l = c.leg-at.ensures in
    omega (arith, room, size, c.requires.1, c.requires.2.4.some, l.more, l.same_size)

pub leg-requires : goal.leg-requires
leg-requires c =
    let room = leaf_count _ _ _ (trace_of c.args.trace.now.steps c.requires.2.2 c.requires.2.3) _ _ c.requires.0 c.requires.2.4 _ _ c.way_of-x.ensures c.way_of-y.ensures in
    let size = walked_length _ _ _ (trace_of c.args.trace.now.steps c.requires.2.2 c.requires.2.3) _ _ c.requires.0 c.requires.2.4 in
    let l = c.leg-at.ensures in
    let m = c.along-at.ensures in
    omega (arith, room, size, c.requires.1, l.more, l.same_size, m.more, m.same_size)

pub returns : goal.returns
returns c = (
  λ i k shares count h. laid_leaf _ _ i (trace_of c.args.trace.now.steps shares count) k _ c.requires.0 h _ _ c.way_of-x.ensures c.way_of-y.ensures _ _ _ _ _ _ _
      c.requires.1 c.leg-at.ensures c.along-at.ensures c.leg.ensures,
  c.leg.ensures.same_size ∙ c.along-at.ensures.same_size ∙ c.leg-at.ensures.same_size,
)
