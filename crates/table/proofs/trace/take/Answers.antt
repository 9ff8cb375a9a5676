-- As the definition has it.
use mathlib.Core.Path.{refl}
use Rattle.table.specs.Walk.{taken_by}
use Rattle.table.proofs.trace.take.Goals as goal

pub returns : goal.returns
unfolding taken_by
returns c = refl
