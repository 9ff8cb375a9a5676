-- Insertion into a rising list: the place where a value goes, and that the last value may be inserted last.
use mathlib.Core.Path.{◌≡◌, refl, sym, ap, ap₂, ◌∙◌}
use mathlib.Core.Bool.{Bool, true, false}
use mathlib.Core.Logic.{⊎_elim}
use mathlib.Core.List.Memᴰ
use mathlib.Core.List.Memᴰ.{head as here}
use mathlib.Core.List.Memᴰ.{tail as there}
use mathlib.Core.List.{
  List,
  [],
  ◌∷◌,
  ◌++◌,
  Memᴰ as Member,
}
use Prim.Native.Nat.{ℕ, zero, suc, ◌≤◌, ◌<◌}
use native.Mathlib.Nat.{le_refl}
use native.Mathlib.Omega.{arith}
use lib.Dec.{ltb}
use lib.ListN.{length, get_or}
use borrow.Author.Tests.{lt-ltb, le-ltb}
use Rattle.network.proofs.Rising.{distinct_rises}
use Rattle.network.specs.Distinct.{insert, distinct}
use Rattle.network.specs.Route.{Listed}
use Rattle.network.proofs.Lists.{member_index, index_member}
use Rattle.network.proofs.Hanan.{distinct_listed, listed_distinct, only_rising}
use Rattle.grid.specs.Lines.{put}

-- ---- one value

-- what insertion makes of a list by its two comparisons
abbrev placed : ℕ → ℕ → List ℕ → Bool → Bool → List ℕ
placed v a l true t = v ∷ a ∷ l
placed v a l false true = a ∷ insert v l
placed v a l false false = a ∷ l

-- insertion makes that
insert_step : (v a : ℕ) (l : List ℕ) → insert v (a ∷ l) ≡ placed v a l (ltb v a) (ltb a v)
unfolding insert
insert_step v a l = go (ltb v a) (ltb a v)
  where
    go : (s t : Bool) → elim s as (λ u. List ℕ) [ true ↦ v ∷ a ∷ l | false ↦ elim t as (λ u. List ℕ) [ true ↦ a ∷ insert v l | false ↦ a ∷ l ] ] ≡ placed v a l s t
    go true t = refl
    go false true = refl
    go false false = refl

-- a value below the first goes in front
insert_below : (v a : ℕ) (l : List ℕ) → v < a → insert v (a ∷ l) ≡ v ∷ a ∷ l
insert_below v a l h = insert_step v a l ∙ ap (λ s. placed v a l s (ltb a v)) (lt-ltb v a h)

-- a value that is the first is there already
insert_at : (v a : ℕ) (l : List ℕ) → v ≡ a → insert v (a ∷ l) ≡ a ∷ l
insert_at v a l e = insert_step v a l ∙ ap₂ (placed v a l) (le-ltb v a (omega arith)) (le-ltb a v (omega arith))

-- a value above the first goes behind it
insert_above : (v a : ℕ) (l : List ℕ) → a < v → insert v (a ∷ l) ≡ a ∷ insert v l
insert_above v a l h = insert_step v a l ∙ ap₂ (placed v a l) (le-ltb v a (omega arith)) (lt-ltb a v h)

-- into no list
insert_none : (v : ℕ) → insert v [] ≡ v ∷ []
unfolding insert
insert_none v = refl

-- where the first k numbers are below v, and the next one is v, the list stays as it is
pub insert_there : (k v : ℕ) (l : List ℕ) → ((i : ℕ) → i < k → get_or l i 0 < v) → k < length l → get_or l k 0 ≡ v → insert v l ≡ l
insert_there k v [] h n e = absurd (omega arith)
insert_there zero v (a ∷ l) h n e = insert_at v a l (sym e)
insert_there (suc k) v (a ∷ l) h n e =
    insert_above v a l (h 0 (omega arith)) ∙ ap (λ m. a ∷ m) (insert_there k v l (λ i o. h (suc i) (omega arith)) (omega arith) e)

-- where the first k numbers are below v, and the next one, if there is one, is above it, v goes to place k
pub insert_put : (k v : ℕ) (l : List ℕ) → ((i : ℕ) → i < k → get_or l i 0 < v) → k ≤ length l → (k < length l → v < get_or l k 0) → insert v l ≡ put k v l
insert_put zero v [] h n o = insert_none v
insert_put zero v (a ∷ l) h n o = insert_below v a l (o (omega arith))
insert_put (suc k) v [] h n o = absurd (omega arith)
insert_put (suc k) v (a ∷ l) h n o =
    insert_above v a l (h 0 (omega arith)) ∙ ap (λ m. a ∷ m) (insert_put k v l (λ i p. h (suc i) (omega arith)) (omega arith) (λ p. o (omega arith)))

-- at most one line more
pub length_insert : (v : ℕ) (l : List ℕ) → length (insert v l) ≤ suc (length l)
length_insert v [] = rw insert_none (le_refl 1)
length_insert v (a ∷ l) = rw insert_step (go (ltb v a) (ltb a v) (length_insert v l))
  where
    go : (s t : Bool) → length (insert v l) ≤ suc (length l) → length (placed v a l s t) ≤ suc (suc (length l))
    go true t h = omega arith
    go false true h = omega arith
    go false false h = omega arith

-- ---- the distinct values

-- a value at a list's end may be inserted last: both ways give a rising list of the same values
pub distinct_last : (l : List ℕ) (v : ℕ) → distinct (l ++ (v ∷ [])) ≡ insert v (distinct l)
distinct_last l v =
    only_rising (distinct (l ++ (v ∷ []))) (distinct (v ∷ l)) (distinct_rises (l ++ (v ∷ []))) (distinct_rises (v ∷ l))
    (λ u m. listed_distinct (v ∷ l) u (front u (distinct_listed (l ++ (v ∷ [])) u m)))
    (λ u m. listed_distinct (l ++ (v ∷ [])) u (back u (distinct_listed (v ∷ l) u m)))
  where
    member : (k : List ℕ) (u : ℕ) → Listed k u → Member u k
    member k u (i, h, e) = Memᴰ.cast (sym e) (index_member 0 k i h)

    front : (u : ℕ) → Listed (l ++ (v ∷ [])) u → Listed (v ∷ l) u
    front u m = member_index {l = v ∷ l} 0 (⊎_elim there (λ k. here (Memᴰ.eq_of_singleton k)) (Memᴰ.append_cases l (member (l ++ (v ∷ [])) u m)))

    back : (u : ℕ) → Listed (v ∷ l) u → Listed (l ++ (v ∷ [])) u
    back u m = member_index {l = l ++ (v ∷ [])} 0 (⊎_elim (λ e. Memᴰ.append_right l (here e)) (Memᴰ.append_left (v ∷ [])) (Memᴰ.cases_cons (member (v ∷ l) u m)))

-- no more distinct values than values
pub length_distinct : (l : List ℕ) → length (distinct l) ≤ length l
length_distinct [] = le_refl 0
length_distinct (v ∷ l) = omega (arith, length_insert v (distinct l), length_distinct l)
