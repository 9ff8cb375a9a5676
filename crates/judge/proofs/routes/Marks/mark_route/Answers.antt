-- `judge::routes::Marks::mark_route` meets its contract: where the ends are right, the route is a Manhattan path exactly if its corners are vertices.
use mathlib.Core.Path.{sym, ap, ◌∙◌}
use mathlib.Core.Bool.{◌&&◌, false≢true}
use Rattle.network.specs.Lists.{every}
use Rattle.planner.specs.Call.{run_of}
use Rattle.judge.specs.Judged.{is_vertex}
use Rattle.judge.proofs.Ends.{manhattan_is, ends_first, found_vertex, column_there, row_there}
use Rattle.judge.proofs.routes.Marks.mark_route.Goals as goal

pub ends_right-requires : goal.ends_right-requires
ends_right-requires c =
    let (g, route, shown, placed) = c.requires.4 in
    (c.requires.3, (route, shown.drawn, shown.many))

pub returns-then-not-ends_right : goal.returns-then-not-ends_right
returns-then-not-ends_right c = λ g route shown placed.
    let a = c.args in
    let e = c.ends_right.ensures route shown.drawn shown.many in
    record {
      decides =
          sym
          (manhattan_is g (run_of a.run.now) a.route.now.book.now a.route.now.at route shown.drawn
          ∙ ap (λ b. b && every (is_vertex g) route) (sym e ∙ c.if-not-ends_right.true));
      marks = λ t. absurd (false≢true t);
    }

pub returns-in_default : goal.returns-in_default
returns-in_default c = λ g route shown placed.
    absurd (column_there g (run_of c.args.run.now).first shown.ruled placed.first_vertex c.in_default.ensures)

pub returns-in_default-find : goal.returns-in_default-find
returns-in_default-find c = λ g route shown placed.
    absurd (row_there g (run_of c.args.run.now).first shown.ruled placed.first_vertex c.in_default-find.ensures)

pub trace-requires : goal.trace-requires
trace-requires c =
    let (g, route, shown, placed) = c.requires.4 in
    let t = sym (c.ends_right.ensures route shown.drawn shown.many) ∙ c.if-not-ends_right.false in
    let (a, b, q) = found_vertex g (run_of c.args.run.now).first shown.ruled _ _ c.in-Some.ensures c.in-Some-find.ensures in
    (c.requires.0, c.requires.1, c.requires.2, a, b, (g, route, shown, q ∙ sym (ends_first (run_of c.args.run.now) route shown.drawn.some t)))

pub returns : goal.returns
returns c = λ g route shown placed.
    let t = sym (c.ends_right.ensures route shown.drawn shown.many) ∙ c.if-not-ends_right.false in
    let (a, b, q) = found_vertex g (run_of c.args.run.now).first shown.ruled _ _ c.in-Some.ensures c.in-Some-find.ensures in
    let tried = c.trace.ensures g route shown (q ∙ sym (ends_first (run_of c.args.run.now) route shown.drawn.some t)) in
    record {
      decides =
          tried.decides
          ∙ sym
          (manhattan_is g (run_of c.args.run.now) c.args.route.now.book.now c.args.route.now.at route shown.drawn
          ∙ ap (λ b. b && every (is_vertex g) route) t);
      marks = tried.marks;
    }
