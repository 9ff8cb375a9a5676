-- The corner records of a route: nine bytes each, written one behind the other as the walker meets the corners.
use mathlib.Core.Path.{◌≡◌, refl, ap, ◌∙◌}
use mathlib.Core.Bool.{true, false}
use mathlib.Core.List.{List, [], ◌∷◌, map, flat_map}
use Prim.Native.Nat.{ℕ, ◌+◌, ◌-◌, ◌*◌, ◌≤◌, ◌<◌}
use native.Mathlib.Omega.{arith}
use lib.ListN.{length, length-append, length-map}
use borrow.Rule.Slice.PartMut.{mid_of, put_mid}
use Rattle.network.specs.Plane.{Point}
use Rattle.route.specs.declared.Walker.{Walker}
use Rattle.route.specs.declared.Stepped.{Stepped}
use Rattle.route.specs.Route.{Route, OnGrid, numbered, corners_of, placed}
use Rattle.route.specs.Walker.{standing, stepped}
use Rattle.route.specs.Marked.{indexes_of}
use Rattle.route.proofs.Walk.{On, left, left_some, on_start, on_step, left_turned, left_straight, left_end}
use Rattle.route.proofs.Corners.{left_start, corners_few}
use Rattle.fields.specs.Bytes.{Wrote}
use Rattle.plan.specs.Records.{corner_record}
use Rattle.fields.proofs.Over.{Rest, rest_all, rest_next, rest_none}

-- nine bytes a corner
pub records_length : (l : List Point) → length (flat_map corner_record l) ≡ 9 * length l
unfolding flat_map
records_length [] = refl
records_length (p ∷ l) = length-append (corner_record p) (flat_map corner_record l) ∙ omega (arith, records_length l)

module _ (columns rows : List ℕ) where
  -- the corner records of vertices in line indexes
  abbrev pub corners_at : List Point → List ℕ
  corners_at l = flat_map corner_record (map (placed columns rows) l)

  -- nine bytes each too
  at_length : (l : List Point) → length (corners_at l) ≡ 9 * length l
  at_length l = records_length (map (placed columns rows) l) ∙ ap (λ n. 9 * n) (length-map l (placed columns rows))

  -- a walker on the route, and the records of the corners ahead of it left to write
  pub record Writing (r : Route) (xs ys : List ℕ) (w : Walker) (at : ℕ) : Type 0 where
    pub on : On r w
    pub rest : Rest (corners_at (corners_of r)) (corners_at (left r w)) xs ys at

  -- at first all corners are left
  pub writing_all : (r : Route) (xs : List ℕ) → OnGrid numbered r → 9 * length (corners_of r) ≤ length xs → Writing r xs xs (standing r.start) 0
  writing_all r xs g h =
      record {
        on = on_start r g;
        rest = rw (left_start r g) (rest_all (corners_at (corners_of r)) xs (omega (arith, at_length (corners_of r))));
      }

  module _ (r : Route) (xs ys : List ℕ) (w : Walker) (at : ℕ) (i : Writing r xs ys w at) where
    -- there is room for a corner, and all of them are few
    pub corner_fits : at + 9 ≤ length ys
    corner_fits = omega (arith, i.rest.room, i.rest.size, i.rest.same, at_length (left r w), left_some r w)

    pub corner_few : at + 9 ≤ 1143
    corner_few = omega (arith, i.rest.size, at_length (left r w), at_length (corners_of r), left_some r w, corners_few r i.on.grid)

    module _ (s : Stepped) (h : w.at < r.count) (e : s ≡ stepped r w) where
      -- a step straight on: nothing is written
      pub writing_straight : s.turned ≡ false → Writing r xs ys s.walker at
      writing_straight t = record { on = on_step r w s i.on h e; rest = rw (left_straight r w s i.on h e t) at i.rest }

      -- a turn: the vertex's record is written into the rest of ys
      pub writing_turned : s.turned ≡ true → (zs : List ℕ) (n : ℕ) → Wrote (corner_record (placed columns rows (indexes_of w.here))) (mid_of at (length ys - at) ys) zs n
          → Writing r xs (put_mid at (length ys - at) ys zs) s.walker (at + n)
      unfolding flat_map
      writing_turned t zs n q =
          record {
            on = on_step r w s i.on h e;
            rest = rest_next (corners_at (corners_of r)) (corner_record (placed columns rows (indexes_of w.here))) (corners_at (left r s.walker)) xs ys zs at n
                (rw (left_turned r w s i.on h e t) at i.rest) q;
          }

    -- the end of the route: its record is the last
    pub writing_end : r.count ≤ w.at → (zs : List ℕ) (n : ℕ) → Wrote (corner_record (placed columns rows (indexes_of w.here))) (mid_of at (length ys - at) ys) zs n
        → Wrote (corners_at (corners_of r)) xs (put_mid at (length ys - at) ys zs) (at + n)
    unfolding flat_map
    writing_end h zs n q =
        rest_none (corners_at (corners_of r)) xs (put_mid at (length ys - at) ys zs) (at + n)
        (rest_next (corners_at (corners_of r)) (corner_record (placed columns rows (indexes_of w.here))) [] xs ys zs at n
        (rw (left_end r w i.on h) at i.rest) q)
