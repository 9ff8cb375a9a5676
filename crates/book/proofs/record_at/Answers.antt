-- `book::record_at` meets its contract: behind the book there is no record.
use mathlib.Core.Logic.{inl, inr}
use Prim.Native.Nat.{◌≤◌}
use native.Mathlib.Omega.{arith}
use lib.ListN.{length, drop_of_length-le}
use Rattle.records.specs.Records.{record_of}
use Rattle.book.proofs.record_at.Goals as goal

pub returns-in_default : goal.returns-in_default
unfolding record_of
returns-in_default c =
    let a = c.args in
    let behind : length a.book.now ≤ a.at = elim c.in_default.ensures.lookup.0 [ inl l ↦ omega arith | inr l ↦ omega arith ] in
    rw (drop_of_length-le a.book.now {i = a.at} behind)
