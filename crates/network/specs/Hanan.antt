-- The Hanan grid of a job: "The columns are the distinct x values of all the job's points, the rows the distinct y values" (01, Lines, boxes,
-- meeting; H in 000, 2.2).
use Rattle.std.specs.Prelude.{List, [], ◌∷◌, ℕ}
use Rattle.network.specs.Plane.{Run}
use Rattle.network.specs.Grid.{Grid, Rising}
use Rattle.network.specs.Distinct.{distinct}
use Rattle.network.specs.DistinctRises.{rising_none, insert_rises}

-- the x values of all the points of some runs, and the y values
abbrev pub xs : List Run → List ℕ
xs [] = []
xs (r ∷ runs) = r.first.x ∷ r.second.x ∷ xs runs

abbrev pub ys : List Run → List ℕ
ys [] = []
ys (r ∷ runs) = r.first.y ∷ r.second.y ∷ ys runs

-- the grid; that its lines rise is checked, and nothing to believe (`DistinctRises`)
abbrev pub hanan : List Run → Grid
hanan runs =
    record {
      columns = distinct (xs runs);
      rows = distinct (ys runs);
      columns_rise = rise (xs runs);
      rows_rise = rise (ys runs);
    }
  where
    rise : (l : List ℕ) → Rising (distinct l)
    rise [] = rising_none
    rise (v ∷ l) = insert_rises v (distinct l) (rise l)
