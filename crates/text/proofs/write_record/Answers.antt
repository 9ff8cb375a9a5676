-- `text::write_record` meets its contract: each arm is a case of `record_text`.
use Rattle.text.specs.Listing.{record_text}
use Rattle.text.proofs.Listed.{listed_none}
use Rattle.text.proofs.write_record.Goals as goal

pub returns-in-Head : goal.returns-in-Head
unfolding record_text
returns-in-Head c = rw c.in-Head.is c.write_head.ensures

pub returns-in-Route : goal.returns-in-Route
unfolding record_text
returns-in-Route c = rw c.in-Route.is c.write_route.ensures

pub returns-in-Corner : goal.returns-in-Corner
unfolding record_text
returns-in-Corner c = rw c.in-Corner.is c.write_corner.ensures

pub returns-in-End : goal.returns-in-End
unfolding record_text
returns-in-End c = rw c.in-End.is c.write_byte.ensures

pub returns-in-Other : goal.returns-in-Other
unfolding record_text
returns-in-Other c = rw c.in-Other.is (listed_none _)
