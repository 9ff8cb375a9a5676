-- Finding a line: among rising lines the number of those below v is the index of v, if v is one of them.
use mathlib.Core.Path.{◌≡◌, sym, ap, ◌∙◌}
use mathlib.Core.Logic.{◌⊎◌, inl, inr}
use mathlib.Core.List.{List}
use Prim.Native.Nat.{ℕ, suc, ◌≤◌, ◌<◌}
use native.Mathlib.Omega.{arith}
use lib.Dec.{ltb}
use lib.ListN.{length, get_or}
use Rattle.network.specs.Grid.{Rising}
use Rattle.network.specs.Entries.{length_table, get_or_table}
use Rattle.network.proofs.Numbers.{order}
use Rattle.network.proofs.Rising.{rising_lt}
use Rattle.grid.specs.Tables.{table}
use Rattle.grid.specs.Lines.{RisingTo, index_of}
use Rattle.grid.proofs.Places.{count_same, Parts, index_parts}

module _ (lines : List ℕ) (n v : ℕ) (r : RisingTo lines n) where
  -- the first n lines, as a list of their own
  abbrev firsts : List ℕ
  firsts = table (λ i. get_or lines i 0) n

  -- each is the line
  first_at_lem : (i : ℕ) → i < n → get_or firsts i 0 ≡ get_or lines i 0
  first_at_lem i h = get_or_table (λ i. get_or lines i 0) n i 0 h

  -- there are n
  first_count : length firsts ≡ n
  first_count = length_table (λ i. get_or lines i 0) n

  -- and they rise
  firsts_rise : Rising firsts
  firsts_rise i h =
      let k : suc i < n = omega (arith, first_count) in
      omega (arith, first_at_lem i (omega arith), first_at_lem (suc i) k, r i k)

  -- as many of them are below v
  index_firsts : index_of firsts n v ≡ index_of lines n v
  unfolding index_of
  index_firsts = count_same _ _ n (λ k o. ap (λ x. ltb x v) (first_at_lem k o))

  -- where the line behind those below v is not at v, none is
  pub not_found : (k : ℕ) → k ≡ index_of lines n v → (k < n → get_or lines k 0 ≡ v → ⊥) → (i : ℕ) → i < n → get_or lines i 0 ≡ v → ⊥
  not_found k e f i h q = go (order k i) (order i k)
    where
      parts : Parts firsts n v (index_of firsts n v)
      parts = index_parts firsts firsts_rise n v (omega (arith, first_count))

      same : k ≡ index_of firsts n v
      same = e ∙ sym index_firsts

      go : (k ≤ i) ⊎ (i < k) → (i ≤ k) ⊎ (k < i) → ⊥
      go (inr m) o = omega (arith, parts.under i (omega (arith, same)), first_at_lem i h)
      go (inl m) (inl o) =
          let d : i ≡ k = omega arith in
          f (omega arith) (ap (λ j. get_or lines j 0) (sym d) ∙ q)
      go (inl m) (inr o) =
          let s : index_of firsts n v < i = omega (arith, same) in
          omega (
            arith,
            parts.next (omega arith),
            rising_lt firsts firsts_rise (index_of firsts n v) i s (omega (arith, first_count)),
            first_at_lem i h,
          )
