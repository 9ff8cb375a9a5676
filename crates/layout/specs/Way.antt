-- A leaf's way along one axis, and its steps by its ways along both.
use Rattle.std.specs.Prelude.{Bool, cond, List, ◌++◌, ℕ, ◌+◌, eqb, leb, replicate}
use Rattle.network.specs.Plane.{gap}
use Rattle.network.specs.Steps.{Dir, hor, ver}
use Rattle.sharing.specs.Leaf.{turn_if}
use Rattle.layout.specs.declared.Way.{Way}

-- from line p to line q by way of a stretch that begins at line `near` and goes n lines along the axis
abbrev pub way_of : (p q near n : ℕ) → Way
way_of p q near n =
    record {
      before = gap p (cond (leb p q) near (near + n));
      after = gap (cond (leb p q) (near + n) near) q;
      forward = leb p q;
    }

-- which way a run that goes `right` along the row and `up` along the column passes a stretch that begins with the step
abbrev pub passes_forth : ℕ → Bool → Bool → Bool
passes_forth step right up = cond (eqb step 0) right up

-- steps along the row, then along the column
abbrev pub leg_of : ℕ → ℕ → List Dir
leg_of across up = replicate across hor ++ replicate up ver

-- the steps of a run by its ways along the two axes, and the stretch m taken forth or back
abbrev pub way_steps : Way → Way → Bool → List Dir → List Dir
way_steps x y f m = leg_of x.before y.before ++ turn_if f m ++ leg_of x.after y.after
