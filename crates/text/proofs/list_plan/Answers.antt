use native.Mathlib.Omega.{arith}
use Rattle.text.proofs.Listing.{listing_none, listing_next, listing_end, step_most, step_some}
use Rattle.text.proofs.list_plan.Goals as goal

pub loop-read-init : goal.loop-read-init
loop-read-init c = listing_none _ _

pub overflow_add-read : goal.overflow_add-read
overflow_add-read c = omega (arith, step_most _ _ _ _ c.list_record-step.ensures)

pub loop-read-smaller : goal.loop-read-smaller
loop-read-smaller c = omega (arith, step_some _ _ _ _ c.list_record-step.ensures)

pub loop-read-preserved : goal.loop-read-preserved
loop-read-preserved c = listing_next _ _ _ _ _ _ c.loop-read.invariant _ c.list_record-step.ensures

pub returns : goal.returns
returns c = listing_end _ _ _ _ _ c.loop-read.invariant c.loop-read-test.false
