-- `fields::write_end` meets its contract: the field stands behind the kind byte.
use mathlib.Core.Path.{refl}
use mathlib.Core.List.{[], ◌∷◌}
use Rattle.job.specs.Written.{bytes2}
use Rattle.fields.proofs.Over.{next}
use Rattle.fields.proofs.write_end.Goals as goal

pub returns : goal.returns
returns c =
    let a = c.args in
    record { bytes = next (0x5A ∷ []) (bytes2 a.count) a.out.now c.put1.ensures c.put2.ensures; size = refl }
