-- The bytes that hexadecimal digits stand for.
use Rattle.std.specs.Prelude.{◌≡◌, cond, ◌&&◌, List, [], ◌∷◌, ◌++◌, ℕ, ◌+◌, ◌-◌, ◌*◌, leb, length, take, drop}
use Rattle.hexadecimal.specs.Counts.{IsPrefixLen}

-- what a digit stands for: 0 to 9, which have the codes 48 to 57, and a to f, which have 97 to 102; any other byte stands for 0
unfoldable pub digit_of : ℕ → ℕ
digit_of c = cond (leb 48 c && leb c 57) (c - 48) (cond (leb 97 c && leb c 102) (c - 87) 0)

-- two digits a byte, the higher one first; a single digit at the end stands for none
unfoldable pub bytes_of : List ℕ → List ℕ
bytes_of [] = []
bytes_of (a ∷ []) = []
bytes_of (a ∷ b ∷ digits) = (16 * digit_of a + digit_of b) ∷ bytes_of digits

-- What reading the digits makes of the buffer xs: the first bytes that they stand for, as many as xs has room for, stand over the front of xs, the bytes
-- behind them stay, and n is how many were written. The last field follows from the others; a caller that lends the first n bytes looks for it.
pub record Unhexed (digits xs ys : List ℕ) (n : ℕ) : Type 0 where
  pub bytes : ys ≡ take (length xs) (bytes_of digits) ++ drop n xs
  pub size : n ≡ length (take (length xs) (bytes_of digits))
  pub counts : IsPrefixLen n ys
