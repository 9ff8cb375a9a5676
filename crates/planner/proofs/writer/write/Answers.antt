-- The head, the meets figures and the centres' numbers are those of the plan, so what `write_plan` writes is the plan.
use mathlib.Core.Path.{◌≡◌, refl, sym, ap, ◌∙◌, subst}
use mathlib.Core.List.{List, map}
use Prim.Native.Nat.{ℕ, ◌≤◌}
use native.Mathlib.Omega.{arith}
use borrow.Author.Rules.{rules}
use lib.ListN.{length, get_or}
use Rattle.network.specs.Lists.{sum}
use Rattle.network.specs.Plane.{distance}
use Rattle.network.specs.Pits.{pits_of}
use Rattle.groups.specs.Groups.{heads}
use Rattle.route.specs.Route.{corners_of}
use Rattle.fields.specs.Bytes.{Wrote}
use Rattle.job.specs.declared.Job.{Job}
use Rattle.laying.specs.Lease.{Layout, LaidOut}
use Rattle.planner.specs.Call.{runs_of}
use Rattle.planner.specs.Held.{runs_in}
use Rattle.planner.specs.Stages.{Leased, Heading, laid_by}
use Rattle.planner.proofs.Held.{held_few, held_range, plane_held}
use Rattle.planner.proofs.Leased.{leased_meets, leased_centres, leased_listed, leased_groups}
use Rattle.planner.proofs.Stages.{axes_lined}
use Rattle.planner.proofs.Writing.{on_indexes, on_vertices, saved_word, bytes_are, bytes_fit}
use Rattle.planner.proofs.writer.write.Goals as goal

pub mark_routes-pits-requires : goal.mark_routes-pits-requires
mark_routes-pits-requires c =
    let a = c.args in
    let g = a.grouped.now in
    let j = g.job.now in
    let h = c.requires.0.leased.held in
    let laid = laid_by a.saved a.steps.now g in (
      record { few = held_few j h; room = c.requires.2.steps_room; on_grid = on_indexes j h laid c.requires.1 },
      on_vertices j h laid c.requires.1 _ _ (axes_lined j g.x.now g.y.now c.requires.0.surveyed) _ c.requires.2.marks_room,
      c.requires.2.clear,
      refl,
    )

pub total_distance-total-requires : goal.total_distance-total-requires
total_distance-total-requires c = held_range _ c.requires.0.leased.held

pub overflow_cast-saved : goal.overflow_cast-saved
overflow_cast-saved c =
    let a = c.args in
    let g = a.grouped.now in
    let j = g.job.now in
    search (rules, saved_word j c.requires.0.leased.held (laid_by a.saved a.steps.now g) c.requires.1)

-- what the head is made from
heading : (j : Job) (sets centres : List ℕ) → Leased j sets centres → (laid : Layout) → LaidOut (runs_of (runs_in j)) laid → (groups total pits : ℕ)
    → groups ≡ length (heads (λ i. get_or centres i 0) j.count) → groups ≤ j.count → total ≡ sum distance (runs_of (runs_in j))
    → pits ≡ pits_of (map corners_of laid.routes) → pits ≤ 4064 → Heading j groups total laid.saved pits laid
heading j sets centres S laid L groups total pits g few t p most =
    record {
      held = S.held;
      groups_are = leased_groups j sets centres S groups g;
      few = few;
      total_is = t;
      saved_is = refl;
      pits_are = p;
      few_pits = most;
      laid_out = L;
    }

pub head_of-head-requires : goal.head_of-head-requires
head_of-head-requires c =
    let a = c.args in
    let g = a.grouped.now in
    let j = g.job.now in
    let laid = laid_by a.saved a.steps.now g in
    let groups = c.count_groups-groups in
    let t = c.mark_routes-pits in (
      laid,
      heading j g.neighbours.now g.centres.now c.requires.0.leased laid c.requires.1 _ _ _ groups.ensures.0 groups.ensures.1
          (c.total_distance-total.ensures.0 ∙ ap (sum distance) (sym (plane_held j))) t.ensures.0 t.ensures.1,
    )

pub tell_centres-requires : goal.tell_centres-requires
tell_centres-requires c =
    let a = c.args in
    let g = a.grouped.now in
    let j = g.job.now in
    (held_few j c.requires.0.leased.held, leased_listed j _ _ c.requires.0.leased, refl)

pub write_plan-requires : goal.write_plan-requires
write_plan-requires c =
    let a = c.args in
    let g = a.grouped.now in
    let j = g.job.now in
    let h = c.requires.0.leased.held in
    let laid = laid_by a.saved a.steps.now g in
    let groups = c.count_groups-groups in
    let t = c.mark_routes-pits in
    let m = c.tell_meets in
    let n = c.tell_centres in
    let head = c.head_of-head in
    let is = head.ensures laid (heading j g.neighbours.now g.centres.now c.requires.0.leased laid c.requires.1 _ _ _ groups.ensures.0 groups.ensures.1
    (c.total_distance-total.ensures.0 ∙ ap (sum distance) (sym (plane_held j))) t.ensures.0 t.ensures.1) in (
      ap (λ h. h.grouped) is,
      record { few = held_few j h; room = c.requires.2.steps_room; on_grid = on_indexes j h laid c.requires.1 },
      t.ensures.3,
      omega (
        arith,
        bytes_fit j h laid c.requires.1 _ _ (axes_lined j g.x.now g.y.now c.requires.0.surveyed) m.new.told (leased_meets j _ _ c.requires.0.leased m.new.told m.ensures) n.new.told
            (leased_centres j _ _ c.requires.0.leased n.new.told n.ensures) head.result is,
        c.requires.3,
      ),
    )

pub returns : goal.returns
returns c =
    let a = c.args in
    let g = a.grouped.now in
    let j = g.job.now in
    let h = c.requires.0.leased.held in
    let laid = laid_by a.saved a.steps.now g in
    let groups = c.count_groups-groups in
    let t = c.mark_routes-pits in
    let m = c.tell_meets in
    let n = c.tell_centres in
    let head = c.head_of-head in
    let is = head.ensures laid (heading j g.neighbours.now g.centres.now c.requires.0.leased laid c.requires.1 _ _ _ groups.ensures.0 groups.ensures.1
    (c.total_distance-total.ensures.0 ∙ ap (sum distance) (sym (plane_held j))) t.ensures.0 t.ensures.1) in
    let w = c.write_plan in
    subst (λ bs. Wrote bs a.out.now w.new.out w.result)
    (bytes_are j h laid c.requires.1 _ _ (axes_lined j g.x.now g.y.now c.requires.0.surveyed) m.new.told (leased_meets j _ _ c.requires.0.leased m.new.told m.ensures) n.new.told
    (leased_centres j _ _ c.requires.0.leased n.new.told n.ensures) head.result is)
    w.ensures.0
