-- `job::record_at` meets its contract: the body that is handed on is the job without the bytes up to the kind byte.
-- Assumes nothing.
use Prim.Native.Nat.{◌+◌, ◌-◌}
use mathlib.Core.Path.{ap, ◌∙◌}
use native.Mathlib.Omega.{arith}
use native.Mathlib.Numerals.{add-one}
use lib.ListN.{length, get_or, drop, length-drop, drop_of_length-le}
use lib.Seq.{take_all, drop-cons}
use Rattle.job.specs.Records.{decoded, record_of}
use Rattle.job.proofs.record_at.Goals as goal

pub returns-then-at-job : goal.returns-then-at-job
unfolding record_of
returns-then-at-job c = rw (drop_of_length-le _ c.if-at-job.true)

pub returns : goal.returns
unfolding record_of
returns c =
    let s = c.args.job.now in
    let at = c.args.at in
    c.decode.ensures
    ∙ ap (decoded (get_or s at 0)) (take_all (length s - (at + 1)) (drop (at + 1) s) (omega (arith, length-drop (at + 1) s)))
    ∙ rw (add-one, drop-cons s at 0 c.if-at-job.false)
