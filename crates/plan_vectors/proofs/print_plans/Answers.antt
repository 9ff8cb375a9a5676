-- `plan_vectors::print_plans` is safe: the plan of routes on the grid fits each buffer.
use Rattle.std.proofs.Common.{List, ℕ, ◌≤◌, length, arith, rules, le_trans}
use Rattle.route.specs.declared.Routes.{Routes}
use Rattle.route.specs.Stored.{tracks_in, routes_of, AreStored}
use Rattle.route.proofs.Stored.{routes_length}
use Rattle.plan.specs.declared.Figures.{Figures}
use Rattle.plan.specs.declared.Head.{Head}
use Rattle.plan.specs.Plan.{book_bytes}
use Rattle.plan.specs.Writers.{entries_in}
use Rattle.plan.proofs.Runs.{written_most}
use Rattle.plan_vectors.proofs.print_plans.Goals as goal

book_fits : (columns rows : List ℕ) (head : Head) (f : Figures) (r : Routes) (n : ℕ) → AreStored r → 36886 ≤ n
    → length (book_bytes head (entries_in columns rows f r)) ≤ n
book_fits columns rows head f r n s h =
    le_trans (written_most columns rows f.numbers.now f.meets.now f.centres.now head (routes_of r) (omega (arith, s.few, routes_length r.steps.now r.stride (tracks_in r) r.count)) s.on_grid) h

pub write_plan-n-requires : goal.write_plan-n-requires
write_plan-n-requires c = (c.requires.0, c.requires.1, c.requires.2, book_fits _ _ _ c.args.figures.now c.args.routes.now _ c.requires.1 (search rules))

pub write_plan-m-requires : goal.write_plan-m-requires
write_plan-m-requires c = (c.requires.0, c.requires.1, c.requires.2, book_fits _ _ _ c.args.figures.now c.args.routes.now _ c.requires.1 (search rules))
