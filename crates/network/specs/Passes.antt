-- Points among others, passing by direction, along the row or along the column, and two routes that cross: what the laws on pits are stated with.
use Rattle.std.specs.Prelude.{◌≡◌, Bool, true, List, [], ℕ, ◌<◌, length, get_or}
use Rattle.network.specs.Lists.{any}
use Rattle.network.specs.Plane.{Point, Run, same_point}
use Rattle.network.specs.Route.{Route, pieces}
use Rattle.network.specs.Steps.{Dir, hor, ver}
use Rattle.network.specs.Pits.{passes_row, passes_column}

-- p is one of the points
abbrev pub among : Point → List Point → Bool
among p l = any (same_point p) l

abbrev pub passes : Dir → Point → Run → Bool
passes hor = passes_row
passes ver = passes_column

-- Two routes, by their indexes, cross straight at p: the one passes p along its row, the other along its column.
pub record Crossed (routes : List Route) (p : Point) : Type 0 where
  pub one : ℕ
  pub other : ℕ
  pub one_in : one < length routes
  pub other_in : other < length routes
  pub two : one ≡ other → ⊥
  pub along_row : any (passes hor p) (pieces (get_or routes one [])) ≡ true
  pub along_column : any (passes ver p) (pieces (get_or routes other [])) ≡ true
