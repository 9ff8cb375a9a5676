-- `text::list_record` meets its contract: it writes the text of the record that was found, and passes over its bytes.
use mathlib.Core.Path.{sym}
use Rattle.text.proofs.Listing.{record_listed}
use Rattle.text.proofs.list_record.Goals as goal

pub returns : goal.returns
returns c =
    record_listed _ _ _ _ _ (sym c.first_record-found.ensures) c.write_record-written.ensures c.record_size.ensures.size
