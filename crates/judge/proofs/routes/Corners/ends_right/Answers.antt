-- `judge::routes::Corners::ends_right` meets its contract: the first corner and the last are the run's points, or one of their coordinates differs.
use mathlib.Core.Path.{sym, ap, ap₂, ◌∙◌}
use mathlib.Core.Bool.{not, ◌&&◌}
use lib.Dec.{eqb}
use Rattle.network.specs.Lists.{sum}
use Rattle.network.specs.Plane.{distance}
use Rattle.network.specs.Route.{pieces}
use Rattle.planner.specs.Call.{run_of}
use Rattle.judge.proofs.Ends.{ends_read}
use Rattle.judge.proofs.routes.Corners.ends_right.Goals as goal

pub returns-then-p-run : goal.returns-then-p-run
returns-then-p-run c = λ route d e.
    let a = c.args in
    sym
    (ends_read a.self.now.book.now a.self.now.at a.self.now.count (run_of a.run.now) route d e c.corner-p.result c.corner-q.result
    c.corner-p.ensures c.corner-q.ensures
    ∙ ap (λ b. not b && eqb (sum distance (pieces route)) (distance (run_of a.run.now))) c.if-p-run.true)

pub returns : goal.returns
returns c = λ route d e.
    let a = c.args in
    ap₂ eqb (c.length.ensures route d e) c.distance_of.ensures.0
    ∙ sym
    (ends_read a.self.now.book.now a.self.now.at a.self.now.count (run_of a.run.now) route d e c.corner-p.result c.corner-q.result
    c.corner-p.ensures c.corner-q.ensures
    ∙ ap (λ b. not b && eqb (sum distance (pieces route)) (distance (run_of a.run.now))) c.if-p-run.false)
