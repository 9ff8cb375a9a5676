-- Points, runs and the distance: "the x distance plus the y distance" (01, Routes and sharing; d in 000, 2.1).
use Rattle.std.specs.Prelude.{Bool, ◌&&◌, ℕ, ◌+◌, ◌-◌, eqb}

pub record Point : Type 0 where
  pub x : ℕ
  pub y : ℕ

unfoldable pub same_point : Point → Point → Bool
same_point p q = eqb p.x q.x && eqb p.y q.y

-- a run (01; a terminal pair in 000, 2.1): its first point and its second
pub record Run : Type 0 where
  pub first : Point
  pub second : Point

infix 60 ◌to◌
abbrev pub ◌to◌ : Point → Point → Run
p to q = record { first = p; second = q }

-- how far apart two numbers are
unfoldable pub gap : ℕ → ℕ → ℕ
gap a b = (a - b) + (b - a)

-- the Manhattan distance of a run's two points
unfoldable pub distance : Run → ℕ
distance r = gap r.first.x r.second.x + gap r.first.y r.second.y
