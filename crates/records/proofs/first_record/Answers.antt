-- `records::first_record` meets its contract: the body that is handed on is what stands behind the kind byte.
use Prim.Native.Nat.{◌-◌, ◌<◌}
use mathlib.Core.Path.{ap, ◌∙◌}
use native.Mathlib.Omega.{arith}
use lib.ListN.{length, get_or, drop, length-drop}
use lib.Seq.{take_all}
use Rattle.records.specs.Records.{decoded}
use Rattle.records.proofs.Records.{record_none, record_some}
use Rattle.records.proofs.first_record.Goals as goal

pub returns-in_default : goal.returns-in_default
returns-in_default c = record_none _ (omega (arith, c.in_default.len_below))

pub returns : goal.returns
returns c =
    let s = c.args.book.now in
    let h : 0 < length s = omega arith in
    c.decode.ensures
    ∙ ap (decoded (get_or s 0 0)) (take_all (length s - 1) (drop 1 s) (omega (arith, length-drop 1 s)))
    ∙ record_some s h
