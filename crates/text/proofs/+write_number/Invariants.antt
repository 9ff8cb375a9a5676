-- `text::write_number` calls itself with a tenth of the number: what it writes are the two ways in which a numeral is made. The measure is the number.
use Rattle.text.proofs.+write_number.Given as goal

abbrev pub decreases-write_number : goal.decreases-write_number
decreases-write_number l = l.n
