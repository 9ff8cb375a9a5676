-- `plan::write_runs` meets its contract. The loop's invariant is `Running`: the runs from index k on, behind what is written, complete all.
use Rattle.route.specs.Stored.{routes_of}
use Rattle.plan.proofs.Runs.{Running}
use Rattle.plan.proofs.write_runs.Given as goal

abbrev pub invariant-loop-k : goal.invariant-loop-k
invariant-loop-k l =
    let f = l.figures in
    Running l.columns l.rows f.numbers.now f.meets.now f.centres.now (routes_of l.routes) l.initial.out l.out l.at l.all l.k
