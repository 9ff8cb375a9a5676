-- What the laws suppose of a graph on the numbers below n: neighbours are below n and are joined both ways, and none is joined to itself.
use Rattle.std.specs.Prelude.{◌≡◌, Bool, true, false, ℕ, ◌<◌}

pub record Graph (joined : ℕ → ℕ → Bool) (n : ℕ) : Type 0 where
  pub within : (i j : ℕ) → joined i j ≡ true → j < n
  pub both_ways : (i j : ℕ) → joined i j ≡ joined j i
  pub no_loop : (i : ℕ) → joined i i ≡ false
