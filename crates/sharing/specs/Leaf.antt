-- The route of a leaf as steps from its own first point: along the row, then the column, to the stretch that it shares with the centre; along the
-- stretch, backwards if the leaf runs against it; and along the row, then the column, to its second point.
use Rattle.std.specs.Prelude.{Bool, true, false, cond, List, [], ◌∷◌, ◌++◌, reverse, ℕ, ◌+◌, eqb, leb, replicate}
use Rattle.network.specs.Lists.{select}
use Rattle.network.specs.Plane.{gap}
use Rattle.network.specs.Steps.{Dir, hor, ver, steps}
use Rattle.sharing.specs.Box.{Box}
use Rattle.sharing.specs.Instance.{Instance}
use Rattle.sharing.specs.Trace.{Share, alone, with, Move}
use Rattle.sharing.specs.Walk.{dirs, moved}

-- the move is shared with k
unfoldable pub is_with : ℕ → Share → Bool
is_with k alone = false
is_with k (with j) = eqb j k

-- the moves before the first one that is shared with k
unfoldable pub before : ℕ → List Move → List Move
before k [] = []
before k (x ∷ moves) = elim (is_with k x.share) [ true ↦ [] | false ↦ x ∷ before k moves ]

-- the moves that are shared with k
unfoldable pub stretch : ℕ → List Move → List Move
stretch k moves = select (λ x. is_with k x.share) moves

-- along the row, then the column, from one place to another
abbrev pub leg : (Dir → ℕ) → (Dir → ℕ) → List Dir
leg p q = replicate (gap (p hor) (q hor)) hor ++ replicate (gap (p ver) (q ver)) ver

-- the run goes along d to higher numbers
unfoldable pub forward : Box → Dir → Bool
forward b d = leb (b.first d) (b.second d)

-- a run that goes by way of a stretch: the steps m from the place `near`
module _ (b : Box) (near : Dir → ℕ) (m : List Dir) where
  abbrev pub far : Dir → ℕ
  far d = near d + steps d m

  -- where the run comes to the stretch, and where it leaves it
  abbrev pub enter : Dir → ℕ
  enter d = cond (forward b d) (near d) (far d)

  abbrev pub leave : Dir → ℕ
  leave d = cond (forward b d) (far d) (near d)

-- the stretch as it is, or backwards
abbrev pub turn_if : Bool → List Dir → List Dir
turn_if true m = m
turn_if false m = reverse m

-- the run's steps; with no stretch, along the row, then the column
unfoldable pub via : Box → (Dir → ℕ) → List Dir → List Dir
via b near [] = leg b.first b.second
via b near (d ∷ m) = leg b.first (enter b near (d ∷ m)) ++ turn_if (forward b d) (d ∷ m) ++ leg (leave b near (d ∷ m)) b.second

-- the steps of leaf k for the centre's moves
abbrev pub leaf_steps : Instance → ℕ → List Move → List Dir
leaf_steps I k moves = via (I.leaf k) (λ d. I.start d + moved d (before k moves)) (dirs (stretch k moves))
