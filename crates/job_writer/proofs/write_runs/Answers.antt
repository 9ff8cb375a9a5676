use mathlib.Core.Path.{ap, ◌∙◌}
use native.Mathlib.Omega.{arith}
use Rattle.job_writer.specs.Listed.{run_of}
use Rattle.job_writer.proofs.Writing.{writing_all, next_held, next_room, writing_next, writing_end}
use Rattle.job_writer.proofs.write_runs.Goals as goal

pub loop-i-init : goal.loop-i-init
loop-i-init c =
    writing_all _ _ c.args.out.now c.requires.3 c.requires.2

pub listed_at-requires : goal.listed_at-requires
listed_at-requires c = omega arith

pub run_of-requires : goal.run_of-requires
run_of-requires c = rw c.listed_at.ensures (next_held _ _ _ _ _ _ c.loop-i.invariant c.loop-i-test.true).1

pub slice_bounds-write_run-count : goal.slice_bounds-write_run-count
slice_bounds-write_run-count c = omega (arith, next_room _ _ _ _ _ _ c.loop-i.invariant c.loop-i-test.true)

pub slice_bounds-write_run-start : goal.slice_bounds-write_run-start
slice_bounds-write_run-start c = omega (arith, next_room _ _ _ _ _ _ c.loop-i.invariant c.loop-i-test.true)

pub write_run-at-requires : goal.write_run-at-requires
write_run-at-requires c = omega (arith, next_room _ _ _ _ _ _ c.loop-i.invariant c.loop-i-test.true)

pub overflow_add-at : goal.overflow_add-at
overflow_add-at c = omega (arith, c.write_run-at.ensures.size)

pub loop-i-preserved : goal.loop-i-preserved
loop-i-preserved c =
    let w = c.write_run-at in
    let run = c.run_of.ensures ∙ ap run_of c.listed_at.ensures in
    writing_next _ _ _ _ _ _ c.loop-i.invariant c.loop-i-test.true w.new.out w.result (rw run at w.ensures)

pub shape_of-out : goal.shape_of-out
shape_of-out c = c.loop-i.invariant.rest.same

pub returns : goal.returns
returns c = writing_end _ _ _ _ _ _ c.loop-i.invariant c.loop-i-test.false
