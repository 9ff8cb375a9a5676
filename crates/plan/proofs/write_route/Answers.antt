-- `plan::write_route` meets its contract: each field stands behind the bytes before it.
use mathlib.Core.Path.{refl}
use mathlib.Core.List.{List, [], ◌∷◌, ◌++◌}
use Prim.Native.Nat.{ℕ}
use Rattle.job.specs.Written.{bytes2}
use Rattle.fields.proofs.Over.{next}
use Rattle.plan.proofs.write_route.Goals as goal

pub returns : goal.returns
returns c =
    let a = c.args in
    let xs = a.out.now in
    let b1 : List ℕ = 0x4F ∷ bytes2 a.number in
    let b2 = b1 ++ bytes2 a.meets in
    let e1 = next (0x4F ∷ []) (bytes2 a.number) xs c.put1.ensures c.put2.ensures in
    let e2 = next b1 (bytes2 a.meets) xs e1 c.put2-2.ensures in
    let e3 = next b2 (bytes2 a.corners) xs e2 c.put2-3.ensures in
    record { bytes = next (b2 ++ bytes2 a.corners) (bytes2 a.centre) xs e3 c.put2-4.ensures; size = refl }
