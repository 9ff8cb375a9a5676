-- `judge::routes::mark_corner` meets its contract: one mark is set.
use Rattle.judge.proofs.Tracing.{dotted}
use Rattle.judge.proofs.routes.Marks.mark_corner.Goals as goal

pub returns : goal.returns
returns c = dotted c.args.v c.args.self.now c.requires.0 c.requires.1 c.requires.2
