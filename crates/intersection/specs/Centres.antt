-- The runs that meet, and the finder's answer: "The finder that named one centre names the centre of each run's group instead" (02, C-16). A job is
-- "accepted if every group is a star; 11 means that some group isn't".
use Rattle.std.specs.Prelude.{Bool, cond, List, ℕ, Option, Some, None, get_or}
use Rattle.network.specs.Plane.{Run}
use Rattle.network.specs.Hanan.{hanan}
use Rattle.network.specs.Graph.{meets}
use Rattle.grid.specs.Tables.{table, padded}
use Rattle.groups.specs.Groups.{all_stars, centre_of}
use Rattle.intersection.specs.Sets.{has, pack}

-- runs i and j of some runs meet: some edge of the runs' own Hanan grid lies in both boxes
abbrev pub meets_in : List Run → ℕ → ℕ → Bool
meets_in runs = meets (hanan runs) runs

-- an array of 32 sets: the neighbours of each of the first n vertices of a graph, among these
abbrev pub neighbour_sets : (ℕ → ℕ → Bool) → ℕ → List ℕ
neighbour_sets joined n = padded 32 (table (λ i. pack (joined i) n) n)

-- the graph that such an array holds: i is joined to the members of its set
abbrev pub joined_in : List ℕ → ℕ → ℕ → Bool
joined_in sets i j = has (get_or sets i 0) j

-- the centres of the groups, in an array of 32
abbrev pub centres_at : (ℕ → ℕ → Bool) → ℕ → List ℕ
centres_at joined n = padded 32 (table (centre_of joined n) n)

-- the answer: the centre of each run's group, if every group is a star
abbrev pub centres_in : (ℕ → ℕ → Bool) → ℕ → Option (List ℕ)
centres_in joined n = cond (all_stars joined n) (Some (centres_at joined n)) None
