-- The run's two values are put in one after the other.
use mathlib.Core.Path.{sym, ap, ◌∙◌}
use native.Mathlib.Omega.{arith}
use lib.ListN.{get_or}
use Rattle.network.proofs.Rising.{distinct_rises}
use Rattle.network.specs.Distinct.{insert, distinct}
use Rattle.grid.specs.Lines.{values, axis_of}
use Rattle.grid.proofs.Insert.{length_insert}
use Rattle.grid.proofs.Values.{distinct_more, few_lines, room_for, line_more, insert_rising}
use Rattle.grid.proofs.Axis.add_run.Goals as goal

pub add_line-requires : goal.add_line-requires
add_line-requires c =
    let s = c.args.spans.now in
    let v = values s.first s.second c.args.i in
    room_for _ (distinct v) c.requires.1 (distinct_rises v) (omega (arith, c.requires.0, few_lines s.first s.second c.args.i))

pub add_line-requires-2 : goal.add_line-requires-2
add_line-requires-2 c =
    let s = c.args.spans.now in
    let v = values s.first s.second c.args.i in
    let x = get_or s.first c.args.i 0 in
    room_for _ (insert x (distinct v)) (line_more _ _ (distinct v) x c.requires.1 c.add_line.ensures) (insert_rising x v)
    (omega (arith, c.requires.0, few_lines s.first s.second c.args.i, length_insert x (distinct v)))

pub returns : goal.returns
returns c =
    let s = c.args.spans.now in
    let v = values s.first s.second c.args.i in
    let x = get_or s.first c.args.i 0 in
    let y = get_or s.second c.args.i 0 in
    line_more _ _ (insert x (distinct v)) y (line_more _ _ (distinct v) x c.requires.1 c.add_line.ensures) c.add_line-2.ensures
    ∙ ap axis_of (sym (distinct_more s.first s.second c.args.i))
