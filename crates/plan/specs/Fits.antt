-- What can be read from its bytes: fields in their range.
use Rattle.std.specs.Prelude.{◌≡◌, Bool, true, false, ℕ, ◌^◌, ◌≤◌, ◌<◌}
use Rattle.network.specs.Plane.{Point}
use Rattle.plan.specs.declared.Head.{Head}

-- both coordinates lie in their range
pub record PointIn (p : Point) : Type 0 where
  pub x_in : p.x ≤ 2000000
  pub y_in : p.y ≤ 2000000

-- a head's figures fit their fields
pub record HeadFits (h : Head) : Type 0 where
  pub job_fits : h.job < 2 ^ 32
  pub runs_fits : h.runs < 65536
  pub trench_fits : h.trench < 2 ^ 32
  pub saved_fits : h.saved < 2 ^ 32
  pub pits_fits : h.pits < 65536
  pub last_fits : h.last < 65536

-- the run number of a route's centre fits its field; an older route has no such field, and 0 stands for it
abbrev pub CentreFits : (grouped : Bool) (centre : ℕ) → Type 0
CentreFits true centre = centre < 65536
CentreFits false centre = centre ≡ 0
