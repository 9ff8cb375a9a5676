-- Fields are little-endian; coordinates are 32-bit two's complement, in decimetres, from -1,000,000 to 1,000,000 (document 01).
-- Inside, a coordinate is biased: the decimetres plus 1,000,000, a number from 0 to 2,000,000.
-- Assumes nothing.
use Rattle.std.specs.Prelude.{ℕ, ◌+◌, ◌-◌, ◌*◌, ◌%◌, ◌^◌, List, ℤ, pos, ◌-ℤ◌, get_or}

-- the number in the two bytes from i on, and in the four
abbrev pub word2 : List ℕ → ℕ → ℕ
word2 b i = get_or b i 0 + 256 * get_or b (i + 1) 0

abbrev pub word4 : List ℕ → ℕ → ℕ
word4 b i = get_or b i 0 + 256 * get_or b (i + 1) 0 + 65536 * get_or b (i + 2) 0 + 16777216 * get_or b (i + 3) 0

-- the biased number of a coordinate's word; above 2,000,000 where the coordinate lies outside its range
abbrev pub biased_of : ℕ → ℕ
biased_of w = (w + 1000000) % 2 ^ 32

-- the word of a biased coordinate
abbrev pub word_of : ℕ → ℕ
word_of c = (c + (2 ^ 32 - 1000000)) % 2 ^ 32

-- the decimetres of a biased coordinate
abbrev pub decimetres : ℕ → ℤ
decimetres c = pos c -ℤ pos 1000000
