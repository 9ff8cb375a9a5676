-- A text in a lent buffer: as much of it as there is room for.
use Rattle.std.specs.Prelude.{◌≡◌, List, ℕ, ◌≤◌, length, take}
use Rattle.fields.specs.Bytes.{Wrote}
use Rattle.text.specs.declared.Step.{Step}
use Rattle.records.specs.Records.{record_of}
use Rattle.text.specs.Listing.{record_text, record_size}

-- What a writer of the text t makes of the buffer xs: the first bytes of t, as many as xs has room for, stand over the front of xs, the bytes behind
-- them stay, and n is how many were written. The last two fields follow from the first; a caller that lends the first n bytes looks for them.
pub record Listed (t xs ys : List ℕ) (n : ℕ) : Type 0 where
  pub wrote : Wrote (take (length xs) t) xs ys n
  pub within : n ≤ length ys
  pub front : n ≡ length (take n ys)

-- what listing one record makes of the buffer, and what it says
pub record ListedRecord (bytes xs ys : List ℕ) (s : Step) : Type 0 where
  pub text : Listed (record_text (record_of bytes)) xs ys s.written
  pub read : s.read ≡ record_size (record_of bytes) (length bytes)
