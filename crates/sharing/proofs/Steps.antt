-- The lines after a step, and moves in the other order.
use mathlib.Core.Path.{◌≡◌, refl, ap, ◌∙◌}
use mathlib.Core.List.{List, [], ◌∷◌, reverse, reverse_aux}
use Prim.Native.Nat.{ℕ}
use Rattle.network.specs.Steps.{Dir, hor, ver, steps}
use Rattle.network.proofs.Steps.{next_column, next_row}
use Rattle.network.proofs.StepCounts.{steps_reverse}
use Rattle.sharing.specs.Trace.{Move}
use Rattle.sharing.specs.Walk.{dirs, moved}

-- the line along e of the vertex (s, t), read along d
abbrev pub coord : Dir → Dir → ℕ → ℕ → ℕ
coord hor hor s t = s
coord hor ver s t = t
coord ver hor s t = t
coord ver ver s t = s

-- the column and the row after one more step
pub steps_after : (d : Dir) (p : List Dir) → (next_column d (steps hor p) ≡ steps hor (d ∷ p)) × (next_row d (steps ver p) ≡ steps ver (d ∷ p))
unfolding steps
steps_after hor p = (refl, refl)
steps_after ver p = (refl, refl)

-- moves in the other order
pub dirs_reverse : (p : List Move) → dirs (reverse p) ≡ reverse (dirs p)
dirs_reverse p = onto p []
  where
    onto : (p q : List Move) → dirs (reverse_aux p q) ≡ reverse_aux (dirs p) (dirs q)
    onto [] q = refl
    onto (x ∷ p) q = onto p (x ∷ q)

-- they go as far along each direction
pub moved_reverse : (e : Dir) (p : List Move) → moved e (reverse p) ≡ moved e p
moved_reverse e p = ap (steps e) (dirs_reverse p) ∙ steps_reverse e (dirs p)
