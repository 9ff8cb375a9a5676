-- Counted from the lines and from the places among them.
use mathlib.Core.Path.{◌∙◌}
use Rattle.planner.proofs.Stages.{placed_within, words_are, bytes_are}
use Rattle.planner.proofs.needs_of.Goals as goal

pub bytes_for-requires : goal.bytes_for-requires
bytes_for-requires c = let S = c.lay_out.ensures in (c.requires, placed_within _ _ _ _ S.on_columns, placed_within _ _ _ _ S.on_rows)

pub returns : goal.returns
returns c =
    let S = c.lay_out.ensures in
    λ i. record { words = (c.words_for.ensures ∙ words_are _ _ _ S) i; bytes = (c.bytes_for.ensures ∙ bytes_are _ _ _ S) i }
