-- Sets of numbers below 32, each a word of 32 digits: i is a member where digit i is 1.
use Rattle.std.specs.Prelude.{List, Bool, cond, ℕ, zero, suc, ◌+◌, ◌/◌, ◌%◌, ◌^◌, eqb}
use Rattle.network.specs.Lists.{select}
use Rattle.network.specs.Graph.{below}

-- i is a member of s
abbrev pub has : ℕ → ℕ → Bool
has s i = eqb (s / 2 ^ i % 2) 1

-- the members of s, rising
unfoldable pub members : ℕ → List ℕ
members s = select (has s) (below 32)

-- the set of the numbers below n that pass
unfoldable pub pack : (ℕ → Bool) → ℕ → ℕ
pack f zero = 0
pack f (suc n) = cond (f n) (2 ^ n) 0 + pack f n
