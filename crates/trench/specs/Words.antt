-- Words in a lent buffer: all of them, or none.
use Rattle.std.specs.Prelude.{◌≡◌, cond, List, [], ◌++◌, ℕ, leb, length, drop}

-- all of the words, where the buffer has room for them
abbrev pub fitting : {A : Type 0} → List A → List A → List A
fitting ws xs = cond (leb (length ws) (length xs)) ws []

-- What a call with these words makes of the buffer xs: they stand over its front and the words behind them stay, and n is how many were written. Where there
-- is none, or no room for all, nothing is written.
pub record Filled {A : Type 0} (ws xs ys : List A) (n : ℕ) : Type 0 where
  pub words : ys ≡ fitting ws xs ++ drop (length (fitting ws xs)) xs
  pub size : n ≡ length (fitting ws xs)
