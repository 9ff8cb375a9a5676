-- The steps by way of a stretch, by the ways along the two axes.
use mathlib.Core.Path.{◌≡◌, refl}
use mathlib.Core.Bool.{Bool, true, false, cond}
use mathlib.Core.List.{List, ◌∷◌, ◌++◌}
use Prim.Native.Nat.{ℕ, ◌+◌}
use native.Mathlib.Omega.{arith}
use lib.Dec.{eqb, leb}
use lib.ListN.{length, length-append, length-reverse}
use Rattle.network.specs.Steps.{Dir, hor, ver, steps}
use Rattle.sharing.specs.Box.{Box}
use Rattle.sharing.specs.Leaf.{forward, turn_if, via}
use Rattle.route.specs.Route.{dir_of}
use Rattle.layout.specs.declared.Way.{Way}
use Rattle.layout.specs.Way.{way_of, passes_forth, leg_of, way_steps}
use Rattle.layout.proofs.Growing.{leg_length}

-- the steps by way of a stretch that begins along d, by the ways along the two axes
pub via_ways : (b : Box) (near : Dir → ℕ) (d : Dir) (m l : List Dir) → l ≡ d ∷ m
    → via b near l
    ≡ way_steps (way_of (b.first hor) (b.second hor) (near hor) (steps hor l)) (way_of (b.first ver) (b.second ver) (near ver) (steps ver l)) (forward b d) l
unfolding via forward
via_ways b near d m l e = rw e

-- which way the run passes a stretch that begins with the step v
pub way_forth : (b : Box) (v : ℕ) → forward b (dir_of v) ≡ passes_forth v (leb (b.first hor) (b.second hor)) (leb (b.first ver) (b.second ver))
unfolding forward
way_forth b v = go (eqb v 0)
  where
    go : (t : Bool) → leb (b.first (cond t hor ver)) (b.second (cond t hor ver)) ≡ cond t (leb (b.first hor) (b.second hor)) (leb (b.first ver) (b.second ver))
    go true = refl
    go false = refl

-- how many steps there are
pub ways_length : (x y : Way) (f : Bool) (m : List Dir) → length (way_steps x y f m) ≡ x.before + y.before + length m + (x.after + y.after)
ways_length x y f m =
    let i = leg_of x.before y.before in
    let o = leg_of x.after y.after in
    omega (
      arith,
      length-append (i ++ turn_if f m) o,
      length-append i (turn_if f m),
      leg_length x.before y.before,
      leg_length x.after y.after,
      turned f,
    )
  where
    turned : (f : Bool) → length (turn_if f m) ≡ length m
    turned true = refl
    turned false = length-reverse m
