-- By the test of the definition.
use mathlib.Core.Bool.{true, false}
use borrow.Author.Tests.{le-leb, lt-leb}
use Rattle.network.specs.Plane.{gap}
use Rattle.layout.proofs.way_by.Goals as goal

pub returns-then-p-q : goal.returns-then-p-q
unfolding gap
returns-then-p-q c =
    rw (le-leb _ _ c.if-p-q.true)
    (λ i. record { before = c.abs_diff.ensures i; after = c.abs_diff-then-p-q.ensures i; forward = true })

pub returns : goal.returns
unfolding gap
returns c =
    rw (lt-leb _ _ c.if-p-q.false)
    (λ i. record { before = c.abs_diff-2.ensures i; after = c.abs_diff-3.ensures i; forward = false })
