-- The text of any bytes: record by record, up to the first that is an end or no whole record. Of a plan it is the plan's text (`proofs/Plan.antt`).
use Rattle.std.specs.Prelude.{◌≡◌, List, [], ◌++◌, ℕ, zero, suc, ◌-◌, ◌≤◌, length, drop}
use Rattle.std.specs.Int.{w32}
use Rattle.std.proofs.Common.{to_z}
use Rattle.text.specs.Numerals.{ascii}
use Rattle.text.specs.Text.{head_text, route_text, corner_text}
use Rattle.plan.specs.Records.{route_size}
use Rattle.records.specs.Records.{record_of}
use Rattle.records.specs.declared.Record.{Record}
use Rattle.records.specs.declared.Record.TheVariants as rec

-- The text of a record. A line ends where the next begins, so its line feed stands with the record after it. The words of a corner are in two's
-- complement: `to_z w32` is the machine's signed reading of a word.
unfoldable pub record_text : Record → List ℕ
record_text (rec.Head h) = head_text h
record_text (rec.Route grouped number meets corners centre) = ascii "\n" ++ route_text grouped number meets centre corners
record_text (rec.Corner x y) = corner_text (to_z w32 x) (to_z w32 y)
record_text (rec.End corners) = ascii "\n"
record_text rec.Other = []

-- how many of the bytes are passed over: a record's own, or all that are left
unfoldable pub record_size : Record → (left : ℕ) → ℕ
record_size (rec.Head h) left = 19
record_size (rec.Route grouped number meets corners centre) left = route_size grouped
record_size (rec.Corner x y) left = 9
record_size (rec.End corners) left = left
record_size rec.Other left = left

-- The same of a record that takes r bytes. The second field follows from the first: a reader that goes on behind the record comes to the end.
pub record Sized (it : Record) (left r : ℕ) : Type 0 where
  pub size : r ≡ record_size it left
  pub some : left - r ≤ left - 1

-- the text of at most so many records
unfoldable pub listing_from : (records : ℕ) → List ℕ → List ℕ
listing_from zero bytes = []
listing_from (suc records) bytes = record_text (record_of bytes) ++ listing_from records (drop (record_size (record_of bytes) (length bytes)) bytes)

-- there are no more records than bytes
unfoldable pub listing_of : List ℕ → List ℕ
listing_of bytes = listing_from (length bytes) bytes
