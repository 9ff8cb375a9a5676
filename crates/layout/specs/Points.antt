-- The points of the runs by the indexes of their lines, and the boxes that they have in the view of the centre.
use Rattle.std.specs.Prelude.{Bool, ℕ, ◌<◌, ltb}
use Rattle.network.specs.Steps.{Dir, hor, ver}
use Rattle.sharing.specs.Box.{Box}
use Rattle.sharing.specs.View.{index}
use Rattle.table.specs.Side.{Side, first_of, second_of}
use Rattle.layout.specs.declared.Ends.{Ends}
use Rattle.layout.specs.declared.Points.{Points}

-- the points of run k
abbrev pub points_of : Side → Side → ℕ → Points
points_of xs ys k =
    record { x = record { first = first_of xs k; second = second_of xs k }; y = record { first = first_of ys k; second = second_of ys k } }

-- both points lie on lines of the axis, at most 64 (01, Lines, boxes, meeting)
abbrev pub OnLines : Ends → Type 0
OnLines e = (e.first < 64) × (e.second < 64)

-- a run goes to lower indexes, so that in its view the lines are counted from the last one back
unfoldable pub goes_back : Ends → Bool
goes_back e = ltb e.second e.first

-- The number of a line in the view of the centre, as if there were 64 lines: what is asked of lines is their order and how far apart they are, and that
-- does not depend on how many there are.
abbrev pub number_of : Ends → ℕ → ℕ
number_of c i = index (goes_back c) 64 i

-- the points on the axis of one direction
abbrev pub ends : Points → Dir → Ends
ends p hor = p.x
ends p ver = p.y

-- the box of a run in the view of the centre
abbrev pub box64 : (centre run : Points) → Box
box64 centre run =
    record {
      first = λ d. number_of (ends centre d) (ends run d).first;
      second = λ d. number_of (ends centre d) (ends run d).second;
    }
