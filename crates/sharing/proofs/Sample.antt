-- Small stars, worked out by the definitions: the surveyed examples that the traps of 01 name, on the grid of all whole decimetres.
use mathlib.Core.Path.{◌≡◌, refl}
use mathlib.Core.List.{List, [], ◌∷◌, ◌++◌}
use Prim.Native.Nat.{ℕ, zero, suc}
use lib.ListN.{replicate}
use Rattle.network.specs.Plane.{gap}
use Rattle.network.specs.Steps.{Dir, hor, ver, steps}
use Rattle.sharing.specs.Box.{Box, lo, hi, passes, lies_in, nowhere, falls}
use Rattle.sharing.specs.Instance.{Instance, owner_below}
use Rattle.sharing.specs.Table.{all, unless, only, from, figure}
use Rattle.sharing.specs.Trace.{Share, alone, with, Move, settled, come, come_best, come_from, begins, next_run, next_by, next, back, trace}
use Rattle.sharing.specs.Leaf.{is_with, before, stretch, forward, via, leaf_steps}
use Rattle.sharing.proofs.Fill.{filled}

abbrev place : ℕ → ℕ → Dir → ℕ
place a b hor = a
place a b ver = b

abbrev box : ℕ → ℕ → ℕ → ℕ → Box
box a b c d = record { first = place a b; second = place c d }

abbrev leaves : List Box → ℕ → Box
leaves [] k = nowhere
leaves (b ∷ l) zero = b
leaves (b ∷ l) (suc k) = leaves l k

-- the centre, run 0, from (0, 0) to (w, h), and the other runs
abbrev star : ℕ → ℕ → List Box → Instance
star w h l = record { size = place w h; len = λ d s. 1; start = λ d. 0; many = 3; leaf = leaves (nowhere ∷ l) }

abbrev saved : ℕ → ℕ → List Box → ℕ
saved w h l = figure (star w h l) (filled (star w h l))

-- a leaf of the other slope is not shared in both directions: 4, not 7
one_direction : saved 4 3 (box 0 3 4 0 ∷ []) ≡ 4
unfolding figure falls owner_below lies_in passes lo hi all from unless only
one_direction = refl

-- a leaf of the same slope is
both_directions : saved 4 3 (box 4 3 0 0 ∷ []) ≡ 7
unfolding figure falls owner_below lies_in passes lo hi all from unless only
both_directions = refl

-- the leaf that is first in the job does not fix the centre: 3, not 2
any_order : saved 4 4 (box 0 2 0 4 ∷ box 1 0 4 0 ∷ []) ≡ 3
unfolding figure falls owner_below lies_in passes lo hi all from unless only
any_order = refl

-- leaves of the other slope whose boxes touch are each shared in a direction of its own: 8, not 6
abbrev touching : Instance
touching = star 6 6 (box 0 2 4 0 ∷ box 4 6 6 2 ∷ [])

-- the figure of that star
own_directions : figure touching (filled touching) ≡ 8
unfolding figure falls owner_below lies_in passes lo hi all from unless only
own_directions = refl

-- its trace, and the second leaf's steps
abbrev go : ℕ → Dir → Share → List Move
go n d s = replicate n (record { dir = d; share = s })

-- its trace
moves : trace touching (filled touching) ≡ go 4 hor (with 1) ++ go 2 ver alone ++ go 4 ver (with 2) ++ go 2 hor alone
unfolding trace back next next_by next_run begins come_from come_best come settled falls owner_below lies_in passes lo hi all from unless only
moves = refl

-- the second leaf's steps
second_leaf : leaf_steps touching 2 (trace touching (filled touching)) ≡ replicate 4 ver ++ replicate 2 hor
unfolding trace back next next_by next_run begins come_from come_best come settled falls owner_below lies_in passes lo hi all from unless only
    is_with before stretch forward via gap steps
second_leaf = refl
