-- Routes by their numbers.
use mathlib.Core.Path.{◌≡◌}
use mathlib.Core.List.{List, [], ◌∷◌}
use Prim.Native.Nat.{ℕ, zero, suc, ◌<◌}
use native.Mathlib.Omega.{arith}
use lib.ListN.{length}
use Rattle.network.specs.Plane.{Run}
use Rattle.network.specs.Grid.{Grid}
use Rattle.network.specs.Route.{Route, Manhattan, Routes}
use Rattle.network.specs.Graph.{run_at}
use Rattle.sharing.specs.Star.{route_at}

-- one Manhattan route for each run, by their numbers
pub routes_at : (g : Grid) (runs : List Run) (routes : List Route) → Routes g runs routes → (k : ℕ) → k < length runs
    → Manhattan g (run_at runs k) (route_at routes k)
routes_at g [] (route ∷ routes) m k h = elim m [ ]
routes_at g (run ∷ runs) [] m k h = elim m [ ]
routes_at g [] [] m k h = absurd (omega arith)
routes_at g (run ∷ runs) (route ∷ routes) m zero h = m.0
routes_at g (run ∷ runs) (route ∷ routes) m (suc k) h = routes_at g runs routes m.1 k (omega arith)

-- and back
pub routes_of_lem : (g : Grid) (runs : List Run) (routes : List Route) → length routes ≡ length runs
    → ((k : ℕ) → k < length runs → Manhattan g (run_at runs k) (route_at routes k)) → Routes g runs routes
routes_of_lem g [] [] e m = tt
routes_of_lem g [] (p ∷ routes) e m = absurd (omega arith)
routes_of_lem g (run ∷ runs) [] e m = absurd (omega arith)
routes_of_lem g (run ∷ runs) (p ∷ routes) e m = (m 0 (omega arith), routes_of_lem g runs routes (omega arith) (λ k h. m (suc k) (omega arith)))
