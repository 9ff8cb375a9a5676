-- Each test that was passed says how the sides of the common rectangle lie, and that is the case.
use Rattle.intersection.proofs.Cases.{apart_made, point_made, line_made, area_made}
use Rattle.intersection.proofs.case_of.Goals as goal

pub returns-then-right-left : goal.returns-then-right-left
returns-then-right-left c =
    apart_made _ _ _ _ _ _
    (record { left_is = c.max-left.ensures; right_is = c.min-right.ensures; low_is = c.max-low.ensures; high_is = c.min-high.ensures })
    c.if-right-left.true

pub returns-then-left-right : goal.returns-then-left-right
returns-then-left-right c =
    point_made _ _ _ _ _ _
    (record { left_is = c.max-left.ensures; right_is = c.min-right.ensures; low_is = c.max-low.ensures; high_is = c.min-high.ensures })
    c.if-left-right.true

pub returns-then-left-right-2 : goal.returns-then-left-right-2
returns-then-left-right-2 c =
    line_made _ _ _ _ _ _
    (record { left_is = c.max-left.ensures; right_is = c.min-right.ensures; low_is = c.max-low.ensures; high_is = c.min-high.ensures })
    c.if-right-left.false c.if-left-right.false c.if-left-right-2.true

pub returns : goal.returns
returns c =
    area_made _ _ _ _ _ _
    (record { left_is = c.max-left.ensures; right_is = c.min-right.ensures; low_is = c.max-low.ensures; high_is = c.min-high.ensures })
    c.if-right-left.false c.if-left-right-2.false
