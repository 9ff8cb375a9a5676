-- The first n runs of a job by four arrays of coordinates, each of them the decimetres plus 1,000,000: "A coordinate lies from -1,000,000 to
-- 1,000,000", and there are at most 32 runs (01, Job book).
use Rattle.std.specs.Prelude.{List, ℕ, ◌≤◌, ◌<◌, get_or}

pub record RunsInRange (x1 y1 x2 y2 : List ℕ) (n : ℕ) : Type 0 where
  pub few : n ≤ 32
  pub x1_in : (k : ℕ) → k < n → get_or x1 k 0 ≤ 2000000
  pub y1_in : (k : ℕ) → k < n → get_or y1 k 0 ≤ 2000000
  pub x2_in : (k : ℕ) → k < n → get_or x2 k 0 ≤ 2000000
  pub y2_in : (k : ℕ) → k < n → get_or y2 k 0 ≤ 2000000
