-- Runs of which no two meet, as the leaves of a star (000, 2.3).
use Rattle.std.specs.Prelude.{◌≡◌, List, [], ◌∷◌, false}
use Rattle.network.specs.Lists.{All}
use Rattle.network.specs.Plane.{Run}
use Rattle.network.specs.Grid.{Grid}
use Rattle.network.specs.Graph.{overlap}

-- no grid edge lies in the boxes of two of the runs
abbrev pub Apart : Grid → List Run → Type 0
Apart g [] = Unit {0}
Apart g (r ∷ l) = All (λ s. overlap g r s ≡ false) l × Apart g l
