-- Where a byte stands in a text.
use Rattle.std.specs.Prelude.{◌≡◌, true, false, List, [], ◌∷◌, ℕ, suc, ◌+◌, ◌≤◌, eqb, drop}
use Rattle.hexadecimal.specs.Counts.{IsPrefixLen}

-- the first place at which c stands, or the end
unfoldable pub place_in : ℕ → List ℕ → ℕ
place_in c [] = 0
place_in c (x ∷ text) = elim (eqb x c) [ true ↦ 0 | false ↦ suc (place_in c text) ]

-- The same from a place on. The last two fields follow; a caller that lends the bytes up to there looks for them.
pub record Stands (c : ℕ) (text : List ℕ) (from place : ℕ) : Type 0 where
  pub first : place ≡ from + place_in c (drop from text)
  pub behind : from ≤ place
  pub counts : IsPrefixLen place text
