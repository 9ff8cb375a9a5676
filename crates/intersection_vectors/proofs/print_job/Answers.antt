-- The sets of runs that meet are a graph.
use Rattle.grid.specs.Runs.{runs_held}
use Rattle.grid.proofs.Hanan.{length_runs}
use Rattle.intersection.proofs.Held.{sets_graph}
use Rattle.intersection_vectors.proofs.print_job.Goals as goal

pub centres_of-requires : goal.centres_of-requires
centres_of-requires c =
    let j = c.args.job.now in
    let x = j.x in
    let y = j.y in
    let few = c.requires in
    let found = c.neighbours-neighbours in
    (few, sets_graph (runs_held x.first y.first x.second y.second j.count) j.count few (length_runs x.first y.first x.second y.second j.count) found.result found.ensures)
