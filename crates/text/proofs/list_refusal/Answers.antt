-- `text::list_refusal` meets its contract: what is written is the refusal's number and its place.
use Rattle.text.specs.Text.{refusal_text}
use Rattle.text.proofs.list_refusal.Goals as goal

pub returns : goal.returns
unfolding refusal_text
returns c =
    rw (c.place-place.ensures, c.number-number.ensures) at c.write_line.ensures
