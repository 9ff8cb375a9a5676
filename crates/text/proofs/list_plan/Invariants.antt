-- `text::list_plan` meets its contract. The loop's invariant is `Listing`: what is written, and the text of the bytes from `read` on, are the text of
-- all. The measure is what is left of the bytes.
use Prim.Native.Nat.{◌-◌}
use lib.ListN.{length}
use Rattle.text.proofs.Listing.{Listing}
use Rattle.text.proofs.list_plan.Given as goal

abbrev pub invariant-loop-read : goal.invariant-loop-read
invariant-loop-read l = Listing l.plan l.initial.text l.text l.read l.written

abbrev pub decreases-loop-read : goal.decreases-loop-read
decreases-loop-read l = length l.plan - l.read
