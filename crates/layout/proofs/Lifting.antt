-- Boxes that differ in where the lines are counted from have the same steps: all that `via` asks of lines is how far apart they are and which comes first.
use mathlib.Core.Path.{◌≡◌, refl, sym, ap₂, ◌∙◌}
use mathlib.Core.Bool.{Bool, true, false, cond}
use mathlib.Core.List.{List, [], ◌∷◌}
use Prim.Native.Nat.{ℕ, ◌+◌}
use native.Mathlib.Omega.{arith}
use borrow.Author.Tests.{leb-true, leb-false, le-leb, lt-leb}
use lib.Dec.{leb}
use Rattle.network.specs.Plane.{gap}
use Rattle.network.specs.Steps.{Dir, hor, ver, steps}
use Rattle.sharing.specs.Box.{Box}
use Rattle.sharing.specs.Leaf.{forward, via}
use Rattle.layout.specs.Way.{way_of, leg_of, way_steps}
use Rattle.layout.proofs.Ways.{via_ways}

-- ---- one axis

module _ (s : ℕ) where
  -- how far apart two lines are
  pub gap_lifted : (a b : ℕ) → gap (s + a) (s + b) ≡ gap a b
  unfolding gap
  gap_lifted a b = omega arith

  -- which of two lines comes first
  leb_lifted : (a b : ℕ) → leb (s + a) (s + b) ≡ leb a b
  leb_lifted a b = go (leb a b) refl
    where
      go : (f : Bool) → leb a b ≡ f → leb (s + a) (s + b) ≡ f
      go true e = le-leb (s + a) (s + b) (omega (arith, leb-true a b e))
      go false e = lt-leb (s + a) (s + b) (omega (arith, leb-false a b e))

  -- the way by a stretch
  way_lifted : (p q near n : ℕ) → way_of (s + p) (s + q) (s + near) n ≡ way_of p q near n
  unfolding gap
  way_lifted p q near n =
      rw (leb_lifted p q) (λ i. record { before = to (leb p q) i; after = from (leb p q) i; forward = leb p q })
    where
      to : (f : Bool) → gap (s + p) (cond f (s + near) (s + near + n)) ≡ gap p (cond f near (near + n))
      to true = omega arith
      to false = omega arith

      from : (f : Bool) → gap (cond f (s + near + n) (s + near)) (s + q) ≡ gap (cond f (near + n) near) q
      from true = omega arith
      from false = omega arith

-- ---- both axes

-- the box with its lines counted from s before
abbrev pub lifted : (Dir → ℕ) → Box → Box
lifted s b = record { first = λ d. s d + b.first d; second = λ d. s d + b.second d }

-- the steps by way of a stretch
pub via_lifted : (s : Dir → ℕ) (b : Box) (near : Dir → ℕ) (m : List Dir) → via (lifted s b) (λ d. s d + near d) m ≡ via b near m
unfolding via forward
via_lifted s b near [] =
    ap₂ leg_of (gap_lifted (s hor) (b.first hor) (b.second hor)) (gap_lifted (s ver) (b.first ver) (b.second ver))
via_lifted s b near (d ∷ m) =
    let l = d ∷ m in
    via_ways (lifted s b) (λ e. s e + near e) d m l refl
    ∙ (λ i. way_steps
    (way_lifted (s hor) (b.first hor) (b.second hor) (near hor) (steps hor l) i)
    (way_lifted (s ver) (b.first ver) (b.second ver) (near ver) (steps ver l) i)
    (leb_lifted (s d) (b.first d) (b.second d) i)
    l)
    ∙ sym (via_ways b near d m l refl)
