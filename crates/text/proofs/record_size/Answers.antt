-- `text::record_size` meets its contract: each arm is a case of `record_size`.
use mathlib.Core.Path.{refl}
use mathlib.Core.Logic.{inl, inr}
use native.Mathlib.Omega.{arith}
use borrow.Author.Rules.{rules}
use Rattle.text.specs.Listing.{record_size}
use Rattle.text.proofs.record_size.Goals as goal

pub returns-in-Route : goal.returns-in-Route
unfolding record_size
returns-in-Route c =
    rw c.in-Route.is (record { size = c.route_size.ensures.0; some = omega (arith, c.route_size.ensures.1) })

pub returns-in-Head : goal.returns-in-Head
unfolding record_size
returns-in-Head c = search rules

pub returns-in-Corner : goal.returns-in-Corner
unfolding record_size
returns-in-Corner c = search rules

pub returns-in-End : goal.returns-in-End
unfolding record_size
returns-in-End c =
    elim c.in-End.is [
      | inl e ↦ rw e.1 (record { size = refl; some = omega arith })
      | inr e ↦ rw e (record { size = refl; some = omega arith })
    ]
