-- What is told of the job are the figures of its plans; the lines are those of its grid.
use mathlib.Core.Path.{refl, sym, ap, ◌∙◌}
use Rattle.network.specs.Lists.{sum}
use Rattle.network.specs.Plane.{distance}
use Rattle.network.specs.Hanan.{hanan}
use Rattle.network.specs.Graph.{meets}
use Rattle.groups.specs.Groups.{group_count}
use Rattle.planner.specs.Call.{runs_of}
use Rattle.planner.specs.Held.{runs_in}
use Rattle.planner.proofs.Held.{held_few, held_range, length_plane, plane_held}
use Rattle.planner.proofs.Leased.{leased_meets, leased_centres, leased_listed, leased_groups, axes_held}
use Rattle.judge.proofs.known_of.Goals as goal

pub count_groups-groups-requires : goal.count_groups-groups-requires
count_groups-groups-requires c = held_few c.args.j.now c.requires.held

pub tell_meets-requires : goal.tell_meets-requires
tell_meets-requires c = (held_few c.args.j.now c.requires.held, refl)

pub tell_centres-requires : goal.tell_centres-requires
tell_centres-requires c =
    (held_few c.args.j.now c.requires.held, leased_listed c.args.j.now _ _ c.requires, refl)

pub total_distance-total-requires : goal.total_distance-total-requires
total_distance-total-requires c =
    held_range c.args.j.now c.requires.held

pub of-columns-requires : goal.of-columns-requires
of-columns-requires c = held_few c.args.j.now c.requires.held

pub of-rows-requires : goal.of-rows-requires
of-rows-requires c = held_few c.args.j.now c.requires.held

pub returns : goal.returns
returns c =
    let j = c.args.j.now in
    let runs = runs_of (runs_in j) in (
      refl,
      record {
        held = c.requires.held;
        meets_are = leased_meets j _ _ c.requires _ c.tell_meets.ensures;
        centres_are = leased_centres j _ _ c.requires _ c.tell_centres.ensures;
        groups_are = leased_groups j _ _ c.requires _ c.count_groups-groups.ensures.0 ∙ ap (group_count (meets (hanan runs) runs)) (sym (length_plane j));
        total_is = c.total_distance-total.ensures.0 ∙ ap (sum distance) (sym (plane_held j));
        lined = axes_held j _ _ c.of-columns.ensures.0 c.of-rows.ensures.0;
      },
    )
