-- `plan_vectors::print_pits` meets its contract: the marks are clear, 64 a row.
use Rattle.std.proofs.Common.{ℕ, arith}
use lib.ListN.{get_or-replicate}
use Rattle.route.specs.Stored.{routes_of}
use Rattle.plan_vectors.proofs.Counts.{marks_suffice}
use Rattle.plan_vectors.proofs.print_pits.Goals as goal

pub mark_routes-pits-requires : goal.mark_routes-pits-requires
mark_routes-pits-requires c =
    let rs = routes_of c.args.routes.now in
    (c.requires.0, marks_suffice rs c.requires.0.on_grid, λ k h. get_or-replicate {A = ℕ} 4096 k 0 0 (omega arith), c.requires.1)
