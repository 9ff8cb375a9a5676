-- The routes are laid on the job's lines, and what is written is their plan.
use mathlib.Core.Path.{sym, subst}
use Prim.Native.Nat.{◌*◌, ◌≤◌}
use Rattle.table.specs.Side.{side_by}
use Rattle.laying.specs.Lease.{LeaseSurveyed}
use Rattle.planner.specs.Call.{runs_of}
use Rattle.planner.specs.Held.{runs_in}
use Rattle.planner.specs.declared.Grouped.{Grouped}
use Rattle.planner.specs.Stages.{Settled, stride_of, laid_by}
use Rattle.planner.proofs.Stages.{roomy, lease_surveyed, drawn}
use Rattle.planner.proofs.plan_routes.Goals as goal

-- the job is as the laying of routes asks for
settled : (g : Grouped) → Settled g → LeaseSurveyed (runs_of (runs_in g.job.now)) (side_by g.x.now) (side_by g.y.now) g.job.now.count g.centres.now g.neighbours.now
settled g S = lease_surveyed g.job.now g.x.now g.y.now S.surveyed g.neighbours.now g.centres.now S.leased

pub lay-saved-requires : goal.lay-saved-requires
lay-saved-requires c =
    let g = c.args.grouped.now in
    ((runs_of (runs_in g.job.now), settled g c.requires.0, c.requires.1.words), roomy g.job.now g.x.now g.y.now c.requires.0.surveyed _ c.requires.2.steps_room)

pub write-requires : goal.write-requires
write-requires c =
    let g = c.args.grouped.now in
    let r = c.lay-saved in (
      c.requires.0,
      (r.ensures.0 _ (settled g c.requires.0)).0,
      record {
        steps_room = subst (λ m. g.job.now.count * stride_of g ≤ m) (sym r.ensures.1) c.requires.2.steps_room;
        marks_room = c.requires.2.marks_room;
        clear = c.requires.2.clear;
      },
      c.requires.1.bytes,
    )

pub returns : goal.returns
returns c =
    let g = c.args.grouped.now in
    let r = c.lay-saved in
    let l = settled g c.requires.0 in
    (drawn g.job.now (laid_by r.result _ g) (r.ensures.0 _ l).0 _ _ _ c.write.ensures, (r.ensures.0 _ l).1)
