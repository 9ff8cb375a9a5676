-- The walker: what a step along a route gives. "Corners go from the run's first point to its second: the first point, each vertex at which the
-- route turns, the second point" (01, Plan book).
use Rattle.std.specs.Prelude.{Bool, true, false, not, ℕ, suc, ◌-◌, ◌<◌, get_or, eqb}
use Rattle.network.specs.Steps.{Dir, hor, ver}
use Rattle.route.specs.declared.Vertex.{Vertex}
use Rattle.route.specs.declared.Walker.{Walker}
use Rattle.route.specs.declared.Stepped.{Stepped}
use Rattle.route.specs.Route.{Route, dir_of}

-- the number of a direction
abbrev pub heading_of : Dir → ℕ
heading_of hor = 0
heading_of ver = 1

-- the index of the line after line i
abbrev pub following : Bool → ℕ → ℕ
following true i = suc i
following false i = i - 1

-- the vertex after v
abbrev pub ahead : (right up : Bool) → Dir → Vertex → Vertex
ahead right up hor v = record { column = following right v.column; row = v.row }
ahead right up ver v = record { column = v.column; row = following up v.row }

-- the walker that has not moved
abbrev pub standing : (start : Vertex) → Walker
standing start = record { at = 0; here = start; heading = 2 }

-- the direction of the walker's next step
abbrev pub next_of : Route → Walker → Dir
next_of r w = dir_of (get_or r.steps w.at 0)

-- what a step gives: the walker at the next vertex, and whether the step goes in another direction than the one that led here
abbrev pub stepped : Route → Walker → Stepped
stepped r w =
    record {
      walker = record { at = suc w.at; here = ahead r.right r.up (next_of r w) w.here; heading = heading_of (next_of r w) };
      turned = not (eqb (heading_of (next_of r w)) w.heading);
    }

-- there is a line after line i, among 64
abbrev pub Room : Bool → ℕ → Type 0
Room true i = suc i < 64
Room false i = 0 < i

-- there is a vertex after v
abbrev pub Free : (right up : Bool) → Dir → Vertex → Type 0
Free right up hor v = Room right v.column
Free right up ver v = Room up v.row
