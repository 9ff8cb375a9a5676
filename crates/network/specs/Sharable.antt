-- The longest sharable length of a leaf l and the stretch v on which the centre passes l's box (01, Routes and sharing; γ in 000, 3.1).
use Rattle.std.specs.Prelude.{◌≡◌, ℕ, ◌≤◌}
use Rattle.network.specs.Plane.{Run}
use Rattle.network.specs.Grid.{Grid}
use Rattle.network.specs.Route.{Route, Manhattan}
use Rattle.network.specs.Excess.{shared}

-- n is the greatest length that a Manhattan path of l and one of v share
pub record Sharable (g : Grid) (l v : Run) (n : ℕ) : Type 0 where
  pub most : (p q : Route) → Manhattan g l p → Manhattan g v q → shared g p q ≤ n
  pub leaf : Route
  pub centre : Route
  pub leaf_manhattan : Manhattan g l leaf
  pub centre_manhattan : Manhattan g v centre
  pub attained : shared g leaf centre ≡ n
