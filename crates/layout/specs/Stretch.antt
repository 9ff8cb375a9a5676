-- Where the moves that are shared with a leaf stand among the centre's moves.
use Rattle.std.specs.Prelude.{◌≡◌, cond, List, ◌++◌, ℕ, ◌+◌, ◌<◌, eqb, length, take}
use Rattle.network.specs.Steps.{hor}
use Rattle.sharing.specs.Trace.{Move}
use Rattle.sharing.specs.Walk.{moved}
use Rattle.sharing.specs.Leaf.{before, stretch}
use Rattle.layout.specs.declared.Stretch.{Stretch}

-- the stretch of no move
abbrev pub nothing : Stretch
nothing = record { from = 0; size = 0; across = 0; wide = 0 }

-- how many columns a step passes
abbrev pub along_row : ℕ → ℕ
along_row step = cond (eqb step 0) 1 0

-- with one move more: move i, before which `across` moves go along the row
abbrev pub grown : Stretch → (i across step : ℕ) → Stretch
grown s i across step =
    record {
      from = cond (eqb s.size 0) i s.from;
      size = s.size + 1;
      across = cond (eqb s.size 0) across s.across;
      wide = s.wide + along_row step;
    }

-- s says where the moves that are shared with k stand, if there are any
pub record Found (k : ℕ) (moves : List Move) (s : Stretch) : Type 0 where
  pub size_is : s.size ≡ length (stretch k moves)
  pub wide_is : s.wide ≡ moved hor (stretch k moves)
  pub from_is : 0 < s.size → s.from ≡ length (before k moves)
  pub across_is : 0 < s.size → s.across ≡ moved hor (before k moves)

-- the moves that are shared with k are consecutive
abbrev pub Together : ℕ → List Move → Type 0
Together k moves = take (length (before k moves) + length (stretch k moves)) moves ≡ before k moves ++ stretch k moves
