-- The intersection graph and stars: "Two runs meet when some grid edge lies in both boxes. One common point is no meeting. A run never meets
-- itself" (01, Lines, boxes, meeting; IG in 000, 2.3). Runs are named by their index in the job.
use Rattle.std.specs.Prelude.{List, [], ◌∷◌, Bool, not, ◌&&◌, ◌||◌, ℕ, eqb, get_or}
use Rattle.network.specs.Lists.{any, every, count, select, each}
use Rattle.network.specs.Plane.{Point, Run, ◌to◌}
use Rattle.network.specs.Grid.{Grid, edges, inside}

-- some grid edge lies in both boxes
unfoldable pub overlap : Grid → Run → Run → Bool
overlap g r s = any (λ e. inside e r && inside e s) (edges g)

abbrev pub origin : Point
origin = record { x = 0; y = 0 }

-- run i of a list
abbrev pub run_at : List Run → ℕ → Run
run_at runs i = get_or runs i (origin to origin)

-- runs i and j meet
unfoldable pub meets : Grid → List Run → ℕ → ℕ → Bool
meets g runs i j = not (eqb i j) && overlap g (run_at runs i) (run_at runs j)

-- the numbers below n
abbrev pub below : ℕ → List ℕ
below n = each n (λ i. i ∷ [])

-- Below, `joined i j` says that i and j are neighbours in some graph, and a group is a list of its vertices, rising.

-- how many of the group i is joined to: with all runs for the group, the meets figure of 01
unfoldable pub degree : (ℕ → ℕ → Bool) → List ℕ → ℕ → ℕ
degree joined group i = count (joined i) group

-- c is joined to every other vertex of the group, and no two others are joined (01: "some run, the centre, meets every other run and no two
-- others meet"). A vertex alone is its own centre.
unfoldable pub is_centre : (ℕ → ℕ → Bool) → List ℕ → ℕ → Bool
is_centre joined group c =
    every (λ i. eqb i c || joined c i) group
    && every (λ i. every (λ j. eqb i c || eqb j c || not (joined i j)) group) group

-- The centres of a group, rising. The group is a star where there is one; the centre is the first, so of two vertices the lower.
unfoldable pub centres : (ℕ → ℕ → Bool) → List ℕ → List ℕ
centres joined group = select (is_centre joined group) group
