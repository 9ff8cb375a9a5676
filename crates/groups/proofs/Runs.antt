-- The runs of a job that meet are a graph: so its groups are those that chains of meetings make.
use mathlib.Core.List.{List}
use lib.ListN.{length}
use Rattle.network.specs.Plane.{Run}
use Rattle.network.specs.Grid.{Grid}
use Rattle.network.specs.Graph.{meets}
use Rattle.network.proofs.Meeting.{meets_self, meets_turned, meets_listed}
use Rattle.groups.specs.Graph.{Graph}
use Rattle.groups.specs.ByChains.{ByChains}
use Rattle.groups.proofs.ByChains.{by_chains}

pub meets_graph : (g : Grid) (runs : List Run) → Graph (meets g runs) (length runs)
meets_graph g runs = record { within = meets_listed g runs; both_ways = λ i j. meets_turned g runs j i; no_loop = meets_self g runs }

-- THEOREM: what is computed of a job's groups is what chains of meetings make
pub runs_by_chains : (g : Grid) (runs : List Run) → ByChains (meets g runs) (length runs)
runs_by_chains g runs = by_chains (meets_graph g runs)
