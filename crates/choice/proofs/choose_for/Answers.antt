-- The finder decides: some group is no star, or the books of the job.
use mathlib.Core.Path.{sym, ap, ◌∙◌}
use Rattle.intersection.proofs.Held.{sets_graph}
use Rattle.job.specs.declared.Job.{Job}
use Rattle.job.specs.Parse.{accepted}
use Rattle.planner.specs.Call.{runs_of}
use Rattle.planner.specs.Held.{runs_in}
use Rattle.planner.proofs.Held.{held_few, length_plane}
use Rattle.planner.proofs.Leased.{found_none, found_stars, found_leased}
use Rattle.choice.specs.Choice.{choice_for}
use Rattle.choice.proofs.Cases.{stars_chosen, no_star_chosen}
use Rattle.choice.proofs.choose_for.Goals as goal

pub neighbours_of-neighbours-requires : goal.neighbours_of-neighbours-requires
neighbours_of-neighbours-requires c = held_few _ c.requires

pub centres_of-requires : goal.centres_of-requires
centres_of-requires c =
    let j = c.args.j.now in
    let n = c.neighbours_of-neighbours in
    let few = held_few j c.requires in
    (few, sets_graph (runs_of (runs_in j)) j.count few (length_plane j) n.result n.ensures)

pub returns-in_default : goal.returns-in_default
returns-in_default c =
    let a = c.args in
    let j = a.j.now in
    let n = c.neighbours_of-neighbours in
    no_star_chosen j.number (runs_in j) a.first.now a.second.now (found_none j c.requires n.result n.ensures _ c.centres_of.ensures c.in_default.is)

pub known_of-requires : goal.known_of-requires
known_of-requires c =
    let n = c.neighbours_of-neighbours in
    found_leased c.args.j.now c.requires n.result n.ensures _ c.centres_of.ensures _ c.in-Some.is

pub choose_known-requires : goal.choose_known-requires
choose_known-requires c = c.known_of.ensures.1

pub returns : goal.returns
returns c =
    let a = c.args in
    let j = a.j.now in
    let n = c.neighbours_of-neighbours in
    c.choose_known.ensures
    ∙ ap (λ (k : Job). choice_for (accepted k.number (runs_in k)) a.first.now a.second.now) c.known_of.ensures.0
    ∙ sym (stars_chosen j.number (runs_in j) a.first.now a.second.now (found_stars j c.requires n.result n.ensures _ c.centres_of.ensures _ c.in-Some.is))
