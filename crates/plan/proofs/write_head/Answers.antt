-- `plan::write_head` meets its contract: each field stands behind the bytes before it.
use mathlib.Core.Path.{refl}
use mathlib.Core.List.{List, [], ◌∷◌, ◌++◌}
use Prim.Native.Nat.{ℕ}
use Rattle.job.specs.Written.{bytes2, bytes4}
use Rattle.fields.proofs.Over.{next}
use Rattle.plan.proofs.write_head.Goals as goal

pub returns : goal.returns
returns c =
    let a = c.args in
    let xs = a.out.now in
    let h = a.head in
    let b1 : List ℕ = 0x51 ∷ bytes4 h.job in
    let b2 = b1 ++ bytes2 h.runs in
    let b3 = b2 ++ bytes4 h.trench in
    let b4 = b3 ++ bytes4 h.saved in
    let e1 = next (0x51 ∷ []) (bytes4 h.job) xs c.put1.ensures c.put4.ensures in
    let e2 = next b1 (bytes2 h.runs) xs e1 c.put2.ensures in
    let e3 = next b2 (bytes4 h.trench) xs e2 c.put4-2.ensures in
    let e4 = next b3 (bytes4 h.saved) xs e3 c.put4-3.ensures in
    let e5 = next b4 (bytes2 h.pits) xs e4 c.put2-2.ensures in
    rw c.requires.0 (record { bytes = next (b4 ++ bytes2 h.pits) (bytes2 h.last) xs e5 c.put2-3.ensures; size = refl })
