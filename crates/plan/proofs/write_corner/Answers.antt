-- `plan::write_corner` meets its contract: each field stands behind the bytes before it.
use mathlib.Core.Path.{refl}
use mathlib.Core.List.{[], ◌∷◌}
use Rattle.job.specs.Written.{bytes4}
use Rattle.job.specs.Fields.{word_of}
use lib.ListN.{get_or}
use Rattle.fields.proofs.Over.{next}
use Rattle.plan.proofs.write_corner.Goals as goal

pub returns : goal.returns
returns c =
    let a = c.args in
    let xs = a.out.now in
    let x = bytes4 (word_of (get_or a.columns.now a.v.column 0)) in
    let y = bytes4 (word_of (get_or a.rows.now a.v.row 0)) in
    let e1 = next (0x43 ∷ []) x xs c.put1.ensures (rw c.word.ensures at c.put4.ensures) in
    record { bytes = next (0x43 ∷ x) y xs e1 (rw c.word-2.ensures at c.put4-2.ensures); size = refl }
