-- Lanes on a list of lines: where they start and go on, and that their lines are lines of the list.
use mathlib.Core.Path.{◌≡◌, refl}
use mathlib.Core.Bool.{Bool, true, false}
use mathlib.Core.List.{List}
use Prim.Native.Nat.{ℕ, suc, ◌≤◌, ◌<◌}
use native.Mathlib.Omega.{arith}
use lib.ListN.{length}
use Rattle.network.specs.Graph.{below}
use Rattle.network.specs.Steps.{hor, ver, steps, Lane, forth, back, extent, at, Fits}
use Rattle.network.proofs.Lanes.{at_fits}
use Rattle.route.specs.Route.{Route, steps_of, lane, columns_of, rows_of}
use Rattle.network.specs.Entries.{length_below}
use Rattle.route.specs.Walker.{following, Room}

-- a lane that fits has fewer steps than there are lines
pub fits_few : (l : List ℕ) (X : Lane) → Fits l X → extent X < length l
fits_few l (forth a n) f = omega arith
fits_few l (back a n) f = omega arith

-- it fits where there are more lines
pub fits_more : (l k : List ℕ) (X : Lane) → length l ≤ length k → Fits l X → Fits k X
fits_more l k (forth a n) h f = omega arith
fits_more l k (back a n) h f = omega arith

-- ---- n steps from line a, to higher indexes or to lower ones

-- the lane has n steps
pub lane_extent : (b : Bool) (a n : ℕ) → extent (lane b a n) ≡ n
lane_extent true a n = refl
lane_extent false a n = refl

-- the columns of a route are as many as its steps along the row
pub columns_extent : (r : Route) → extent (columns_of r) ≡ steps hor (steps_of r)
columns_extent r = lane_extent r.right r.start.column (steps hor (steps_of r))

-- and the rows
pub rows_extent : (r : Route) → extent (rows_of r) ≡ steps ver (steps_of r)
rows_extent r = lane_extent r.up r.start.row (steps ver (steps_of r))

-- the first line is a
pub lane_start : (b : Bool) (a n : ℕ) → a ≡ at (lane b a n) 0
lane_start true a n = omega arith
lane_start false a n = omega arith

-- and each line has its following one
pub lane_following : (b : Bool) (a n i : ℕ) → at (lane b a n) (suc i) ≡ following b (at (lane b a n) i)
lane_following true a n i = omega arith
lane_following false a n i = omega arith

-- on m lines: they are among the m
pub lane_in : (m : ℕ) (b : Bool) (a n i : ℕ) → Fits (below m) (lane b a n) → i ≤ n → at (lane b a n) i < m
lane_in m b a n i f h = omega (arith, at_fits (below m) (lane b a n) f i (rw (lane_extent b a n) h), length_below m)

-- and of 64, before the last there is room for a step
pub lane_room : (b : Bool) (a n i : ℕ) → Fits (below 64) (lane b a n) → i < n → Room b (at (lane b a n) i)
lane_room true a n i f h = omega (arith, length_below 64)
lane_room false a n i f h = omega (arith, length_below 64)
