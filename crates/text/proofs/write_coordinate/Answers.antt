-- `text::write_coordinate` meets its contract: a word below 2^31 is its own number, and any other the number that is 2^32 less.
use native.Mathlib.Omega.{arith}
use Rattle.text.proofs.Listed.{listed_next}
use Rattle.text.proofs.Signed.{signed_low, signed_high}
use Rattle.text.proofs.write_coordinate.Goals as goal

pub returns-then-word-lt2147483648 : goal.returns-then-word-lt2147483648
returns-then-word-lt2147483648 c = rw (signed_low _ c.if-word-lt2147483648.true) c.write_number.ensures

pub returns : goal.returns
returns c =
    rw (signed_high _ c.if-word-lt2147483648.false (omega arith)) (listed_next _ _ _ _ _ _ _ c.write_byte-at.ensures c.write_number-2.ensures)
