-- The lines, run after run on both axes; the places wait.
use mathlib.Core.Path.{◌≡◌}
use Rattle.network.specs.Distinct.{distinct}
use Rattle.grid.specs.Lines.{values, axis_of}
use Rattle.planner.proofs.survey.lay_out.Given as goal

abbrev pub invariant-loop-i : goal.invariant-loop-i
invariant-loop-i l =
    record {
      columns : l.x.axis ≡ axis_of (distinct (values l.job.x.first l.job.x.second l.i));
      rows : l.y.axis ≡ axis_of (distinct (values l.job.y.first l.job.y.second l.i));
      across_wait : l.x.places ≡ l.initial.x.places;
      down_wait : l.y.places ≡ l.initial.y.places;
    }
