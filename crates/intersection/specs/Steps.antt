-- What the functions between say: boxes by their sides, and the sets while the runs are compared.
use Rattle.std.specs.Prelude.{◌≡◌, List, Bool, false, cond, ℕ, suc, ◌<◌, min, max, ltb, get_or, replicate}
use Rattle.job.specs.declared.Spans.{Spans}
use Rattle.grid.specs.Tables.{table, padded}
use Rattle.intersection.specs.declared.Box.{Box}
use Rattle.intersection.specs.declared.Case.{Case}
use Rattle.intersection.specs.Sets.{pack}
use Rattle.intersection.specs.Cases.{Common, Makes, meeting}
use Rattle.intersection.specs.Centres.{neighbour_sets}

-- ---- boxes

-- the sides of the first n runs' boxes on one axis, the lower and the higher, from the values of the first points and of the second
abbrev pub sides_of : Spans → ℕ → Spans
sides_of s n =
    record {
      first = padded 32 (table (λ i. min (get_or s.first i 0) (get_or s.second i 0)) n);
      second = padded 32 (table (λ i. max (get_or s.first i 0) (get_or s.second i 0)) n);
    }

-- no sides yet
abbrev pub no_sides : Spans
no_sides = record { first = replicate 32 0; second = replicate 32 0 }

-- the box at index i of the sides on both axes
abbrev pub box_at : Spans → Spans → ℕ → Box
box_at wide high i = record { left = get_or wide.first i 0; right = get_or wide.second i 0; low = get_or high.first i 0; high = get_or high.second i 0 }

-- ---- comparisons

-- While run i is compared with the runs before it, and j of these are done: run k has been compared with so many runs, ..
abbrev pub seen : ℕ → ℕ → ℕ → ℕ
seen i j k = cond (ltb k j) (suc i) (cond (ltb k i) i j)

-- .. and its set holds its neighbours among them.
unfoldable pub part_sets : (ℕ → ℕ → Bool) → ℕ → ℕ → List ℕ
part_sets joined i j = padded 32 (table (λ k. pack (joined k) (seen i j k)) (suc i))

-- the case of their boxes tells if i and j are joined, either way round
abbrev pub Tells : (ℕ → Box) → (ℕ → ℕ → Bool) → ℕ → ℕ → Type 0
Tells box joined i j = (c : Case) → Makes (Common (box i) (box j)) c → (joined i j ≡ meeting c) × (joined j i ≡ meeting c)

-- what comparing run i with run j makes of the sets: of every graph of which the boxes tell, each of the two gets the other where they are joined
abbrev pub Compared : (ℕ → Box) → ℕ → ℕ → List ℕ → List ℕ → Type 0
Compared box i j old new = (joined : ℕ → ℕ → Bool) → Tells box joined i j → old ≡ part_sets joined i j → new ≡ part_sets joined i (suc j)

-- and what comparing it with each run before it makes of them
abbrev pub AllCompared : (ℕ → Box) → ℕ → List ℕ → List ℕ → Type 0
AllCompared box i old new =
    (joined : ℕ → ℕ → Bool) → ((j : ℕ) → j < i → Tells box joined i j) → joined i i ≡ false
    → old ≡ neighbour_sets joined i → new ≡ neighbour_sets joined (suc i)
