-- What is lent is weighed against what is counted, and then the groups decide.
use mathlib.Core.Path.{refl, sym, ap, ◌∙◌}
use lib.ListN.{length}
use Rattle.intersection.specs.Centres.{meets_in, neighbour_sets}
use Rattle.planner.proofs.Held.{held_few, plane_held}
use Rattle.planner.proofs.Stages.{blank_sides, placed_within, short_work, short_plan, lent_words, lent_bytes, goes_on}
use Rattle.planner.proofs.plan_job.Goals as goal

pub lay_out-requires : goal.lay_out-requires
lay_out-requires c =
    let n = held_few _ c.requires in
    let e = c.find_neighbours.ensures in
    (n, blank_sides _ _ _ _ n c.new-x.ensures e.1, blank_sides _ _ _ _ n c.new-y.ensures e.2)

pub returns-then-work-words_for : goal.returns-then-work-words_for
returns-then-work-words_for c =
    let a = c.args in
    (short_work a.job.now _ _ c.lay_out.ensures a.out.now (length a.work.now) _ c.words_for.ensures c.if-work-words_for.true, refl)

pub bytes_for-requires : goal.bytes_for-requires
bytes_for-requires c = let S = c.lay_out.ensures in (held_few _ c.requires, placed_within _ _ _ _ S.on_columns, placed_within _ _ _ _ S.on_rows)

pub returns-then-out-bytes_for : goal.returns-then-out-bytes_for
returns-then-out-bytes_for c =
    let a = c.args in
    (short_plan a.job.now _ _ c.lay_out.ensures a.out.now (length a.work.now) _ c.words_for.ensures _ c.bytes_for.ensures c.if-work-words_for.false c.if-out-bytes_for.true, refl)

pub plan_groups-requires : goal.plan_groups-requires
plan_groups-requires c =
    let a = c.args in
    let w = c.words_for.ensures in
    let b = c.bytes_for.ensures in
    let v = c.lay_out.ensures in (
      c.requires,
      v,
      record {
        words = lent_words a.job.now _ _ v a.out.now (length a.work.now) _ w _ b c.if-work-words_for.false c.if-out-bytes_for.false;
        bytes = lent_bytes a.job.now _ _ v a.out.now (length a.work.now) _ w _ b c.if-work-words_for.false c.if-out-bytes_for.false;
      },
      c.find_neighbours.ensures.0 ∙ ap (λ rs. neighbour_sets (meets_in rs) a.job.now.count) (sym (plane_held a.job.now)),
    )

pub returns : goal.returns
returns c =
    let a = c.args in
    let g = c.plan_groups.ensures in
    (goes_on a.job.now _ _ c.lay_out.ensures a.out.now (length a.work.now) _ c.words_for.ensures _ c.bytes_for.ensures c.if-work-words_for.false c.if-out-bytes_for.false _ _ g.0, g.1)
