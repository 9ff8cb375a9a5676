-- Bytes written into a buffer: "Each record is written into the rest of the plan buffer behind the record before it" (01, Plan book).
use Rattle.std.specs.Prelude.{◌≡◌, List, ◌++◌, ℕ, length, take, drop}

-- bs written over the front of xs: the bytes behind them stay
unfoldable pub over : List ℕ → List ℕ → List ℕ
over bs xs = bs ++ drop (length bs) xs

-- bs written into xs behind its first `at` bytes, which stay
unfoldable pub behind : ℕ → List ℕ → List ℕ → List ℕ
behind at bs xs = take at xs ++ over bs (drop at xs)

-- what a writer of bs makes of xs, and the length that it says
pub record Wrote (bs xs ys : List ℕ) (n : ℕ) : Type 0 where
  pub bytes : ys ≡ over bs xs
  pub size : n ≡ length bs
