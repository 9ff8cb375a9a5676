-- Each figure is that of the routes, by the laws of `Writing`.
use Rattle.planner.proofs.Writing.{head_is}
use Rattle.planner.proofs.writer.head_of.Goals as goal

pub returns : goal.returns
returns c = λ laid H. head_is c.args.job.now H.held laid H.laid_out _ _ _ _ H
