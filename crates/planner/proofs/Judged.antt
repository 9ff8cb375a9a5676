-- What is judged of a job's runs by their sets of neighbours: the centres of their groups, how many groups there are, and the meets figures.
use mathlib.Core.Path.{◌≡◌, refl, sym, ap, ◌∙◌}
use Rattle.std.specs.Prelude.{Some, None}
use mathlib.Core.Bool.{Bool, true, false, cond}
use mathlib.Core.List.{List}
use Prim.Native.Nat.{ℕ, ◌≤◌, ◌<◌}
use native.Mathlib.Omega.{arith}
use lib.Dec.{eqb}
use lib.ListN.{length, get_or}
use Rattle.network.specs.Plane.{Run}
use Rattle.network.specs.Graph.{below, degree}
use Rattle.network.specs.Entries.{length_table, get_or_table}
use Rattle.grid.specs.Tables.{table, padded}
use Rattle.grid.proofs.Tables.{get_or_padded}
use Rattle.groups.specs.Groups.{heads, group_count, all_stars, centre_of}
use Rattle.groups.proofs.Stars.{centre_below, centres_count}
use Rattle.intersection.specs.Centres.{meets_in, neighbour_sets, joined_in, centres_at, centres_in}
use Rattle.intersection.proofs.Lists.{select_same}
use Rattle.intersection.proofs.Held.{job_degree, sets_are, runs_graph}
use Rattle.plan.specs.Plan.{meets_of}

module _ (runs : List Run) (n : ℕ) (few : n ≤ 32) (count : length runs ≡ n) where
  module _ (sets : List ℕ) (held : sets ≡ neighbour_sets (meets_in runs) n) where
    -- what the finder says of the sets it says of the runs
    pub centres_judged : centres_in (joined_in sets) n ≡ centres_in (meets_in runs) n
    centres_judged =
        ap (λ (s : List ℕ). centres_in (joined_in s) n) held ∙ ap (λ (q : ℕ → ℕ → Bool). centres_in q n) (sets_are (meets_in runs) n few (runs_graph runs n few count))

    -- the meets figures are the plan's
    pub meets_judged : (i : ℕ) → i < n → get_or (padded 32 (table (λ k. degree (joined_in sets) (below 32) k) n)) i 0 ≡ meets_of runs i
    meets_judged i h =
        let f : ℕ → ℕ = λ k. degree (joined_in sets) (below 32) k in
        get_or_padded 32 (table f n) i (omega (arith, length_table f n)) ∙ get_or_table f n i 0 h
        ∙ ap (λ (s : List ℕ). degree (joined_in s) (below 32) i) held ∙ job_degree (meets_in runs) n few i h
        ∙ ap (λ (m : ℕ). degree (meets_in runs) (below m) i) (sym count)

  -- ---- the centres that were found

  -- there are none where some group is no star
  pub none_judged : centres_in (meets_in runs) n ≡ None → all_stars (meets_in runs) n ≡ false
  none_judged = go (all_stars (meets_in runs) n)
    where
      go : (b : Bool) → cond b (Some (centres_at (meets_in runs) n)) None ≡ None → b ≡ false
      go true e = absurd (let z : ◌≡◌ {A = ℕ} 0 1 = cc in omega arith)
      go false e = refl

  -- else every group is one, and they are in the array
  pub some_judged : (centres : List ℕ) → centres_in (meets_in runs) n ≡ Some centres → (all_stars (meets_in runs) n ≡ true) × (centres ≡ centres_at (meets_in runs) n)
  some_judged centres = go (all_stars (meets_in runs) n)
    where
      go : (b : Bool) → cond b (Some (centres_at (meets_in runs) n)) None ≡ Some centres → (b ≡ true) × (centres ≡ centres_at (meets_in runs) n)
      go true e = let z : centres ≡ centres_at (meets_in runs) n = cc in (refl, z)
      go false e = absurd (let z : ◌≡◌ {A = ℕ} 0 1 = cc in omega arith)

  module _ (stars : all_stars (meets_in runs) n ≡ true) where
    module _ (centres : List ℕ) (are : centres ≡ centres_at (meets_in runs) n) where
      -- the centre of each run
      pub centre_judged : (i : ℕ) → i < n → get_or centres i 0 ≡ centre_of (meets_in runs) n i
      centre_judged i h =
          ap (λ (l : List ℕ). get_or l i 0) are ∙ get_or_padded 32 (table (centre_of (meets_in runs) n) n) i (omega (arith, length_table (centre_of (meets_in runs) n) n))
          ∙ get_or_table (centre_of (meets_in runs) n) n i 0 h

      -- is one of the runs
      pub centre_listed : (i : ℕ) → i < n → get_or centres i 0 < n
      centre_listed i h = omega (arith, centre_judged i h, centre_below (runs_graph runs n few count) stars h)

      -- those that are their own are as many as there are groups
      pub groups_judged : length (heads (λ i. get_or centres i 0) n) ≡ group_count (meets_in runs) n
      unfolding heads
      groups_judged =
          ap length (select_same (λ i. eqb (get_or centres i 0) i) (λ i. eqb (centre_of (meets_in runs) n i) i) n (λ i h. ap (λ c. eqb c i) (centre_judged i h)))
          ∙ centres_count (runs_graph runs n few count) stars
