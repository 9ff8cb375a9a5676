-- The sets of neighbours that the code computes hold the graph of the runs that meet: so what is found of the sets is found of the runs.
use mathlib.Core.Path.{◌≡◌, sym, ap, ◌∙◌, fun_ext, subst}
use mathlib.Core.Logic.{◌⊎◌, inl, inr}
use mathlib.Core.Bool.{Bool}
use mathlib.Core.List.{List}
use Prim.Native.Nat.{ℕ, ◌≤◌, ◌<◌}
use native.Mathlib.Omega.{arith}
use lib.ListN.{length, get_or}
use Rattle.network.specs.Lists.{count}
use Rattle.network.specs.Plane.{Run}
use Rattle.network.specs.Hanan.{hanan}
use Rattle.network.specs.Graph.{below, degree}
use Rattle.network.specs.Entries.{length_table, get_or_table}
use Rattle.network.proofs.Numbers.{order}
use Rattle.network.proofs.Tests.{is_false}
use Rattle.grid.specs.Tables.{table}
use Rattle.grid.proofs.Tables.{get_or_padded, get_or_behind}
use Rattle.groups.specs.Graph.{Graph}
use Rattle.groups.proofs.Runs.{meets_graph}
use Rattle.intersection.specs.Sets.{has, pack}
use Rattle.intersection.specs.Centres.{meets_in, neighbour_sets, joined_in}
use Rattle.intersection.proofs.Digits.{none_has, has_pack, has_pack_above}
use Rattle.intersection.proofs.Members.{count_pack}

module _ (joined : ℕ → ℕ → Bool) (n : ℕ) (few : n ≤ 32) where
  -- the set of run i
  set_at : (i : ℕ) → i < n → get_or (neighbour_sets joined n) i 0 ≡ pack (joined i) n
  set_at i h =
      get_or_padded 32 (table (λ i. pack (joined i) n) n) i (omega (arith, length_table (λ i. pack (joined i) n) n))
      ∙ get_or_table (λ i. pack (joined i) n) n i 0 h

  -- it has the runs that are joined to i
  pub set_joined : (i j : ℕ) → i < n → j < n → joined_in (neighbour_sets joined n) i j ≡ joined i j
  set_joined i j h k = ap (λ (s : ℕ). has s j) (set_at i h) ∙ has_pack (joined i) n j k

  -- the meets figure
  pub job_degree : (i : ℕ) → i < n → degree (joined_in (neighbour_sets joined n)) (below 32) i ≡ degree joined (below n) i
  unfolding degree
  job_degree i h = ap (λ (s : ℕ). count (has s) (below 32)) (set_at i h) ∙ count_pack (joined i) n few

  -- LAW: the sets hold the graph
  pub sets_are : Graph joined n → joined_in (neighbour_sets joined n) ≡ joined
  sets_are graph = fun_ext (λ i. fun_ext (λ j. go i j (order n i) (order n j)))
    where
      behind : (i : ℕ) → n ≤ i → get_or (neighbour_sets joined n) i 0 ≡ 0
      behind i h = get_or_behind 32 (table (λ i. pack (joined i) n) n) i (omega (arith, length_table (λ i. pack (joined i) n) n))

      go : (i j : ℕ) → (n ≤ i) ⊎ (i < n) → (n ≤ j) ⊎ (j < n) → joined_in (neighbour_sets joined n) i j ≡ joined i j
      go i j (inl h) k =
          ap (λ s. has s j) (behind i h) ∙ none_has j ∙ sym (is_false (joined i j) (λ t. omega (arith, graph.within j i (graph.both_ways j i ∙ t))))
      go i j (inr h) (inl k) =
          ap (λ s. has s j) (set_at i h) ∙ has_pack_above (joined i) n j k ∙ sym (is_false (joined i j) (λ t. omega (arith, graph.within i j t)))
      go i j (inr h) (inr k) = set_joined i j h k

-- ---- the runs of a job

module _ (runs : List Run) (n : ℕ) (few : n ≤ 32) (count : length runs ≡ n) where
  -- those that meet are a graph
  pub runs_graph : Graph (meets_in runs) n
  runs_graph = subst (Graph (meets_in runs)) count (meets_graph (hanan runs) runs)

  -- so are the sets that hold it
  pub sets_graph : (sets : List ℕ) → sets ≡ neighbour_sets (meets_in runs) n → Graph (joined_in sets) n
  sets_graph sets held =
      subst (λ (q : ℕ → ℕ → Bool). Graph q n) (sym (ap joined_in held ∙ sets_are (meets_in runs) n few runs_graph)) runs_graph
