-- The runs of the arrays are the job's.
use mathlib.Core.Path.{sym, ap, ◌∙◌}
use mathlib.Core.List.{List}
use Rattle.network.specs.Plane.{Run}
use Rattle.intersection.specs.Centres.{meets_in, neighbour_sets}
use Rattle.planner.proofs.Held.{plane_held}
use Rattle.planner.proofs.meetings.neighbours_of.Goals as goal

pub returns : goal.returns
returns c =
    let j = c.args.j.now in
    c.neighbours.ensures ∙ ap (λ (runs : List Run). neighbour_sets (meets_in runs) j.count) (sym (plane_held j))
