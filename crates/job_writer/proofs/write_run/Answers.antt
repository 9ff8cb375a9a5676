-- `job_writer::write_run` meets its contract: each field stands behind the bytes before it.
use mathlib.Core.Path.{refl}
use mathlib.Core.List.{List, [], ◌∷◌, ◌++◌}
use Prim.Native.Nat.{ℕ}
use Rattle.job.specs.Fields.{word_of}
use Rattle.job.specs.Written.{bytes2, bytes4}
use Rattle.fields.proofs.Over.{next}
use Rattle.job_writer.proofs.write_run.Goals as goal

pub returns : goal.returns
returns c =
    let a = c.args in
    let xs = a.out.now in
    let r = a.run in
    let b1 : List ℕ = 0x52 ∷ bytes2 r.number in
    let b2 = b1 ++ bytes4 (word_of r.x1) in
    let b3 = b2 ++ bytes4 (word_of r.y1) in
    let b4 = b3 ++ bytes4 (word_of r.x2) in
    let e1 = next (0x52 ∷ []) (bytes2 r.number) xs c.put1.ensures c.put2.ensures in
    let e2 = next b1 (bytes4 (word_of r.x1)) xs e1 (rw c.word.ensures at c.put4.ensures) in
    let e3 = next b2 (bytes4 (word_of r.y1)) xs e2 (rw c.word-2.ensures at c.put4-2.ensures) in
    let e4 = next b3 (bytes4 (word_of r.x2)) xs e3 (rw c.word-3.ensures at c.put4-3.ensures) in
    let e5 = next b4 (bytes4 (word_of r.y2)) xs e4 (rw c.word-4.ensures at c.put4-4.ensures) in
    record { bytes = e5; size = refl }
