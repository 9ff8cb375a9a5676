-- The queries by places: what a record of another kind, and two places, in order or not, give.
use mathlib.Core.Path.{◌≡◌, refl, sym, ap}
use mathlib.Core.Bool.{Bool, true, false, cond, ◌&&◌}
use mathlib.Core.List.{List}
use Prim.Native.Nat.{ℕ, ◌+◌, ◌≤◌, ◌<◌}
use native.Mathlib.Omega.{arith}
use lib.ListN.{length, get_or, drop, get_or-eq_default}
use lib.Dec.{ltb}
use borrow.Author.Tests.{lt-ltb, le-ltb}
use Rattle.records.specs.declared.Record.{Record}
use Rattle.records.specs.declared.Record.TheVariants as rec
use Rattle.records.specs.Records.{record_of}
use Rattle.std.specs.Prelude.{None}
use Rattle.book.specs.Parse.{is_grouped}
use Rattle.book.specs.Reading.{as_route, route_by, as_spot, corner_place, corner_by}

-- ---- a record of another kind

pub else_route : (g : Record) → ((q : Bool) (number meets said centre : ℕ) → g ≡ rec.Route q number meets said centre → ⊥) → None ≡ as_route g
else_route (rec.Route g number meets said centre) t = absurd (t g number meets said centre refl)
else_route (rec.Head h) t = refl
else_route (rec.Corner x y) t = refl
else_route (rec.End total) t = refl
else_route rec.Other t = refl

pub else_corner : (g : Record) → ((x y : ℕ) → g ≡ rec.Corner x y → ⊥) → None ≡ as_spot g
else_corner (rec.Corner x y) t = absurd (t x y refl)
else_corner (rec.Head h) t = refl
else_corner (rec.Route g number meets said centre) t = refl
else_corner (rec.End total) t = refl
else_corner rec.Other t = refl

-- ---- places

module _ (book places : List ℕ) (i : ℕ) where
  -- the next place is not behind this one
  pub no_route : get_or places (i + 1) 0 ≤ get_or places i 0 → None ≡ route_by book places i
  no_route h = sym (ap (λ b. cond b (as_route (record_of (drop (get_or places i 0) book))) None) (le-ltb _ _ h))

  -- it is
  pub some_route : get_or places i 0 < get_or places (i + 1) 0 → as_route (record_of (drop (get_or places i 0) book)) ≡ route_by book places i
  some_route h = sym (ap (λ b. cond b (as_route (record_of (drop (get_or places i 0) book))) None) (lt-ltb _ _ h))

  -- past the last place
  pub past_route : length places ≤ i → None ≡ route_by book places i
  past_route h = no_route (omega (arith, get_or-eq_default places 0 {n = i + 1} (omega arith)))

  module _ (j : ℕ) where
    -- past the corners that a route can have
    pub far_corner : 127 ≤ j → None ≡ corner_by book places i j
    far_corner h = simp (le-ltb j 127 h)

    -- the next route's place is not behind the corner's
    pub no_corner : get_or places (i + 1) 0 ≤ corner_place (is_grouped book) (get_or places i 0) j → None ≡ corner_by book places i j
    no_corner h = go (ltb j 127)
      where
        go : (b : Bool) → None ≡ cond (b && ltb (corner_place (is_grouped book) (get_or places i 0) j) (get_or places (i + 1) 0)) (as_spot (record_of (drop (corner_place (is_grouped book) (get_or places i 0) j) book))) None
        go true = simp (le-ltb _ _ h)
        go false = refl

    -- it is
    pub some_corner : j < 127 → corner_place (is_grouped book) (get_or places i 0) j < get_or places (i + 1) 0
        → as_spot (record_of (drop (corner_place (is_grouped book) (get_or places i 0) j) book)) ≡ corner_by book places i j
    some_corner k h = simp (lt-ltb j 127 k, lt-ltb _ _ h)

    -- past the last place
    pub past_corner : length places ≤ i → None ≡ corner_by book places i j
    past_corner h = no_corner (omega (arith, get_or-eq_default places 0 {n = i + 1} (omega arith)))
