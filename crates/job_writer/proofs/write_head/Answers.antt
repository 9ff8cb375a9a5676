-- `job_writer::write_head` meets its contract: the field stands behind the kind byte.
use mathlib.Core.Path.{refl}
use mathlib.Core.List.{[], ◌∷◌}
use Rattle.job.specs.Written.{bytes4}
use Rattle.fields.proofs.Over.{next}
use Rattle.job_writer.proofs.write_head.Goals as goal

pub returns : goal.returns
returns c =
    let a = c.args in
    record { bytes = next (0x48 ∷ []) (bytes4 a.number) a.out.now c.put1.ensures c.put4.ensures; size = refl }
