use Rattle.text.proofs.Numerals.{decimal_small, decimal_next}
use Rattle.text.proofs.Listed.{listed_next}
use Rattle.text.proofs.+write_number.Goals as goal

pub returns-then-n-lt10 : goal.returns-then-n-lt10
returns-then-n-lt10 t c = rw (decimal_small _ c.if-n-lt10.true) c.write_byte.ensures

pub returns : goal.returns
returns t c =
    rw (decimal_next _ c.if-n-lt10.false) (listed_next _ _ _ _ _ _ _ c.write_number-at.ensures c.write_byte-2.ensures)
