-- Where the case of the boxes is a meeting, both sets grow by one number; else they stay.
use Rattle.intersection.specs.Steps.{box_at}
use Rattle.intersection.proofs.Meetings.{compared_met, compared_apart}
use Rattle.intersection.proofs.compare.Goals as goal

pub returns-then-is_meeting : goal.returns-then-is_meeting
returns-then-is_meeting c =
    let a = c.args in
    compared_met (box_at a.wide.now a.high.now) a.i a.j c.requires.0 c.requires.1 _ _ c.box_at-a.ensures c.box_at-b.ensures
    c.case_of.result c.case_of.ensures _
    c.is_meeting.ensures a.neighbours.now c.if-is_meeting.true
    _ _ c.add.type_inv c.add-then-is_meeting.type_inv c.add.ensures c.add-then-is_meeting.ensures

pub returns-else-is_meeting : goal.returns-else-is_meeting
returns-else-is_meeting c =
    let a = c.args in
    compared_apart (box_at a.wide.now a.high.now) a.i a.j c.requires.0 c.requires.1 _ _ c.box_at-a.ensures c.box_at-b.ensures
    c.case_of.result c.case_of.ensures _
    c.is_meeting.ensures a.neighbours.now c.if-is_meeting.false
