-- "Numbers are written without leading zeros, a negative one with a minus before it" (01, Listing).
use Rattle.std.specs.Prelude.{◌≡◌, true, false, List, [], ◌∷◌, ◌++◌, ℕ, zero, suc, ◌+◌, ◌-◌, ◌*◌, ◌/◌, ◌%◌, ◌<◌, ◌≤◌, ltb, ℤ, pos, negsuc}
use Prim.Native.Char.{code}
use Prim.Native.String.{String}
use Prim.Native.String as string
use Rattle.network.specs.Lists.{All}

-- the bytes of a text: the codes of its characters
abbrev pub ascii : String → List ℕ
ascii string.[] = []
ascii (string.◌∷◌ c s) = code c ∷ ascii s

-- the decimal digits of n, the last of them n % 10, where n has at most so many
unfoldable pub digits : (places n : ℕ) → List ℕ
digits zero n = []
digits (suc places) n = elim (ltb n 10) [ true ↦ (48 + n) ∷ [] | false ↦ digits places (n / 10) ++ ((48 + n % 10) ∷ []) ]

-- a number in decimal; n has fewer than n + 2 digits
unfoldable pub decimal : ℕ → List ℕ
decimal n = digits (suc n) n

-- an integer in decimal, a negative one with a minus before it
abbrev pub signed : ℤ → List ℕ
signed (pos n) = decimal n
signed (negsuc n) = ascii "-" ++ decimal (suc n)

-- ---- what a decimal numeral is, without the way in which it is made

-- the number that digits stand for, behind digits that stand for n
abbrev pub value_from : ℕ → List ℕ → ℕ
value_from n [] = n
value_from n (d ∷ ds) = value_from (n * 10 + (d - 48)) ds

-- there is a digit, and the first is 0 only where it is alone
abbrev pub NoZeroBefore : List ℕ → Type 0
NoZeroBefore [] = ⊥
NoZeroBefore (d ∷ []) = Unit {0}
NoZeroBefore (d ∷ e ∷ ds) = 48 < d

-- ds is the numeral of n
pub record Numeral (n : ℕ) (ds : List ℕ) : Type 0 where
  pub digit : All (λ d. (48 ≤ d) × (d ≤ 57)) ds
  pub first : NoZeroBefore ds
  pub value : value_from 0 ds ≡ n
