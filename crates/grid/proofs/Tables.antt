-- Lists that are made entry by entry, and the arrays that a loop fills with them from the front.
use mathlib.Core.Path.{◌≡◌, refl, sym, ap, ap₂, ◌∙◌}
use mathlib.Core.Logic.{◌⊎◌, inl, inr}
use mathlib.Core.List.{List, [], ◌∷◌, ◌++◌}
use Prim.Native.Nat.{ℕ, zero, suc, ◌+◌, ◌-◌, ◌≤◌, ◌<◌}
use native.Mathlib.Nat.{le_refl}
use native.Mathlib.Numerals.{add-one}
use native.Mathlib.Omega.{arith}
use lib.ListN.{length, get_or, set, replicate, length-append, length-replicate, get_or-append}
use lib.Seq.{set_at, append_snoc, get_or-append-add, ext_get_or}
use Rattle.network.specs.Entries.{length_table, get_or_table}
use Rattle.network.proofs.Lists.{get_or_nothing}
use Rattle.network.proofs.Numbers.{order}
use Rattle.grid.specs.Tables.{table, padded}

-- tables of the same entries are the same
pub table_same : {A : Type 0} (f g : ℕ → A) (n : ℕ) → ((i : ℕ) → i < n → f i ≡ g i) → table f n ≡ table g n
table_same f g zero h = refl
table_same f g (suc n) h = ap₂ (λ l a. l ++ (a ∷ [])) (table_same f g n (λ i k. h i (omega arith))) (h n (le_refl (suc n)))

-- ---- arrays

-- the array is as long as it says
pub length_padded : (k : ℕ) (l : List ℕ) → length l ≤ k → length (padded k l) ≡ k
length_padded k l h = length-append l (replicate (k - length l) 0) ∙ omega (arith, length-replicate {A = ℕ} (k - length l) 0)

-- an array that holds a list, read at the list's places and behind them
pub get_or_padded : (k : ℕ) (l : List ℕ) (i : ℕ) → i < length l → get_or (padded k l) i 0 ≡ get_or l i 0
get_or_padded k l i h = get_or-append l (replicate (k - length l) 0) 0 i h

-- behind the list
pub get_or_behind : (k : ℕ) (l : List ℕ) (i : ℕ) → length l ≤ i → get_or (padded k l) i 0 ≡ 0
get_or_behind k l i h =
    let e : length l + (i - length l) ≡ i = omega arith in
    ap (λ (j : ℕ). get_or (padded k l) j 0) (sym e) ∙ get_or-append-add l (replicate (k - length l) 0) (i - length l) 0 ∙ get_or_nothing 0 (k - length l) (i - length l)

-- an array that has a table's entries, and zeros behind them, holds the table
pub table_held : (f : ℕ → ℕ) (k n : ℕ) (t : List ℕ) → n ≤ k → length t ≡ k → ((i : ℕ) → i < n → get_or t i 0 ≡ f i) → ((i : ℕ) → n ≤ i → get_or t i 0 ≡ 0)
    → t ≡ padded k (table f n)
table_held f k n t h l p q =
    ext_get_or 0 t (padded k (table f n)) (l ∙ sym (length_padded k (table f n) (omega (arith, length_table f n)))) (λ i o. go i (order n i))
  where
    go : (i : ℕ) → (n ≤ i) ⊎ (i < n) → get_or t i 0 ≡ get_or (padded k (table f n)) i 0
    go i (inl o) = q i o ∙ sym (get_or_behind k (table f n) i (omega (arith, length_table f n)))
    go i (inr o) = p i o ∙ sym (get_or_padded k (table f n) i (omega (arith, length_table f n)) ∙ get_or_table f n i 0 o)

-- one entry more of a table in an array of k words
pub table_more : (f : ℕ → ℕ) (k n v : ℕ) (t : List ℕ) → n < k → v ≡ f n → t ≡ padded k (table f n) → set t n v ≡ padded k (table f (n + 1))
table_more f k n v t h p q =
    ap₂ (λ (s : List ℕ) (x : ℕ). set s n x) (q ∙ ap (λ (m : ℕ). table f n ++ replicate m 0) room) p
    ∙ set_at (table f n) 0 (replicate (k - suc n) 0) (f n) n (length_table f n)
    ∙ sym (append_snoc (table f n) (f n) (replicate (k - suc n) 0))
    ∙ ap (λ (m : ℕ). table f (suc n) ++ replicate (k - m) 0) (sym (length_table f (suc n)))
    ∙ ap (λ (m : ℕ). padded k (table f m)) (sym (add-one n))
  where
    room : k - length (table f n) ≡ suc (k - suc n)
    room = omega (arith, length_table f n)
