-- `route::mark` meets its contract: the digits are set, and a pit came where the test says so.
use mathlib.Core.Path.{◌≡◌, refl}
use mathlib.Core.Bool.{Bool, true, false, cond, ◌||◌}
use Prim.Native.Nat.{◌≤◌}
use native.Mathlib.Omega.{arith}
use mir.Val.{bool_byte}
use Rattle.route.specs.Marked.{indexes_of, along}
use Rattle.route.proofs.Marks.{mark_one}
use Rattle.route.proofs.mark.Goals as goal

-- a test as a number
number_of : (b : Bool) → bool_byte b ≡ cond b 1 0
number_of true = refl
number_of false = refl

at_most_one : (b : Bool) → cond b 1 0 ≤ 1
at_most_one true = omega arith
at_most_one false = omega arith

pub returns : goal.returns
returns c =
    let a = c.args in
    rw (c.from.ensures, number_of _)
    (mark_one a.width a.marks.now (indexes_of a.v) (λ d. a.corner || along d a.heading) c.requires.0 _ c.digits_of.ensures _ refl, at_most_one _)
