-- Counting the steps of a list: the steps of its parts add up.
use mathlib.Core.Path.{◌≡◌, refl, ap}
use mathlib.Core.List.{List, [], ◌∷◌, ◌++◌, reverse, reverse_aux}
use Prim.Native.Nat.{ℕ, suc, ◌+◌, ◌≤◌}
use native.Mathlib.Omega.{arith}
use lib.ListN.{length, take, drop, take-append-drop}
use Rattle.network.specs.Steps.{Dir, hor, ver, other, steps}

-- a step along d counts along d alone
pub steps_same : (d : Dir) (p : List Dir) → steps d (d ∷ p) ≡ suc (steps d p)
unfolding steps
steps_same hor p = refl
steps_same ver p = refl

-- and not along the other direction
pub steps_other : (d : Dir) (p : List Dir) → steps (other d) (d ∷ p) ≡ steps (other d) p
unfolding steps
steps_other hor p = refl
steps_other ver p = refl

-- a step makes no count smaller
pub steps_le : (e d : Dir) (p : List Dir) → steps e p ≤ steps e (d ∷ p)
unfolding steps
steps_le hor hor p = omega arith
steps_le hor ver p = omega arith
steps_le ver hor p = omega arith
steps_le ver ver p = omega arith

-- the steps along d of two lists one after the other
pub steps_append : (d : Dir) (s t : List Dir) → steps d (s ++ t) ≡ steps d s + steps d t
unfolding steps
steps_append d [] t = omega arith
steps_append hor (hor ∷ s) t = omega (arith, steps_append hor s t)
steps_append hor (ver ∷ s) t = steps_append hor s t
steps_append ver (hor ∷ s) t = steps_append ver s t
steps_append ver (ver ∷ s) t = omega (arith, steps_append ver s t)

-- the order of the steps does not matter
pub steps_reverse : (e : Dir) (p : List Dir) → steps e (reverse p) ≡ steps e p
unfolding steps
steps_reverse e p = omega (arith, onto e p [])
  where
    onto : (e : Dir) (p q : List Dir) → steps e (reverse_aux p q) ≡ steps e p + steps e q
    onto e [] q = omega arith
    onto hor (hor ∷ p) q = omega (arith, onto hor p (hor ∷ q))
    onto hor (ver ∷ p) q = omega (arith, onto hor p (ver ∷ q))
    onto ver (hor ∷ p) q = omega (arith, onto ver p (hor ∷ q))
    onto ver (ver ∷ p) q = omega (arith, onto ver p (ver ∷ q))

-- the first n of them are no more than all
pub steps_take : (d : Dir) (n : ℕ) (s : List Dir) → steps d (take n s) ≤ steps d s
steps_take d n s = omega (arith, steps_append d (take n s) (drop n s), ap (steps d) (take-append-drop n s))

-- each step goes along the row or along the column
pub steps_all : (s : List Dir) → length s ≡ steps hor s + steps ver s
unfolding steps
steps_all [] = refl
steps_all (hor ∷ s) = omega (arith, steps_all s)
steps_all (ver ∷ s) = omega (arith, steps_all s)

-- one step more along d
pub step_along : (d : Dir) (s : List Dir) → steps d (s ++ d ∷ []) ≡ suc (steps d s)
unfolding steps
step_along hor s = omega (arith, steps_append hor s (hor ∷ []))
step_along ver s = omega (arith, steps_append ver s (ver ∷ []))

-- and one along the other direction
pub step_across : (d : Dir) (s : List Dir) → steps d (s ++ other d ∷ []) ≡ steps d s
unfolding steps
step_across hor s = omega (arith, steps_append hor s (ver ∷ []))
step_across ver s = omega (arith, steps_append ver s (hor ∷ []))
