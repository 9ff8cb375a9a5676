-- Stars of runs: no grid edge lies in the boxes of two leaves.
use mathlib.Core.Path.{◌≡◌, refl, sym, ◌∙◌}
use mathlib.Core.List.Memᴰ
use mathlib.Core.List.Memᴰ.{head as here}
use mathlib.Core.List.Memᴰ.{tail as there}
use mathlib.Core.List.{List, [], ◌∷◌, ◌++◌, map, Memᴰ as Member}
use mathlib.Core.Bool.{false, true≢false}
use Prim.Native.Nat.{ℕ, zero, suc, ◌≤◌, ◌<◌}
use native.Mathlib.Omega.{arith}
use lib.ListN.{length, length-append}
use Rattle.network.specs.Lists.{All}
use Rattle.network.specs.Plane.{Run}
use Rattle.network.specs.Grid.{Rising, Grid}
use Rattle.network.specs.Graph.{overlap, run_at, meets, below}
use Rattle.network.proofs.Centres.{IsCentre}
use Rattle.network.specs.Apart.{Apart}
use Rattle.network.proofs.Tests.{is_false}
use Rattle.network.proofs.Lists.{each_member, member_each}
use Rattle.network.proofs.Rising.{rising_head, rising_tail}
use Rattle.network.proofs.Meeting.{true_meets}

-- ---- the group of all runs

-- its members are below n
pub below_member : (n i : ℕ) → Member i (below n) → i < n
below_member n i m =
    let (j, h, o) = each_member n (λ i. i ∷ []) m in
    omega (arith, Memᴰ.eq_of_singleton o)

-- and every number below n is a member
pub member_below : (n i : ℕ) → i < n → Member i (below n)
member_below n i h = member_each n (λ i. i ∷ []) i h (here refl)

-- ---- leaves

module _ (g : Grid) (runs : List Run) (group : List ℕ) (c : ℕ) (k : IsCentre (meets g runs) group c) where
  -- no grid edge lies in the boxes of two leaves
  pub leaves_overlap : (i j : ℕ) → Member i group → Member j group → (i ≡ c → ⊥) → (j ≡ c → ⊥) → (i ≡ j → ⊥)
      → overlap g (run_at runs i) (run_at runs j) ≡ false
  leaves_overlap i j m n p q d =
      is_false (overlap g (run_at runs i) (run_at runs j)) (λ h. true≢false (sym (true_meets g runs i j d h) ∙ k.leaves i j m n p q))

  -- leaves with rising numbers are apart
  pub group_apart : (is : List ℕ) → Rising is → ((i : ℕ) → Member i is → Member i group × (i ≡ c → ⊥)) → Apart g (map (run_at runs) is)
  group_apart [] r h = tt
  group_apart (i ∷ is) r h = (first is (λ j m. (h j (there m), rising_head i is r j m)), group_apart is (rising_tail i is r) (λ j m. h j (there m)))
    where
      first : (js : List ℕ) → ((j : ℕ) → Member j js → (Member j group × (j ≡ c → ⊥)) × (i < j)) → All (λ s. overlap g (run_at runs i) s ≡ false) (map (run_at runs) js)
      first [] f = tt
      first (j ∷ js) f =
          let (q, l) = f j (here refl) in
          let (m, n) = h i (here refl) in
          (leaves_overlap i j m q.0 n q.1 (λ e. omega arith), first js (λ o p. f o (there p)))

-- ---- the leaves of a whole job: all runs but the centre

-- runs of which no two overlap, by their numbers
apart_of : (g : Grid) (l : List Run) → ((i j : ℕ) → i < j → j < length l → overlap g (run_at l i) (run_at l j) ≡ false) → Apart g l
apart_of g [] h = tt
apart_of g (r ∷ l) h = (first l (λ j k. h 0 (suc j) (omega arith) (omega arith)), apart_of g l (λ i j k m. h (suc i) (suc j) (omega arith) (omega arith)))
  where
    first : (k : List Run) → ((j : ℕ) → j < length k → overlap g r (run_at k j) ≡ false) → All (λ s. overlap g r s ≡ false) k
    first [] f = tt
    first (s ∷ k) f = (f 0 (omega arith), first k (λ j m. f (suc j) (omega arith)))

-- the number, among all runs, of the i-th run that is not number c
abbrev past : ℕ → ℕ → ℕ
past zero i = suc i
past (suc c) zero = zero
past (suc c) (suc i) = suc (past c i)

-- it is not c
past_other : (c i : ℕ) → past c i ≡ c → ⊥
past_other zero i e = omega arith
past_other (suc c) zero e = omega arith
past_other (suc c) (suc i) e = past_other c i (omega arith)

-- it rises
past_lt : (c i j : ℕ) → i < j → past c i < past c j
past_lt zero i j h = omega arith
past_lt (suc c) i zero h = absurd (omega arith)
past_lt (suc c) zero (suc j) h = omega arith
past_lt (suc c) (suc i) (suc j) h = omega (arith, past_lt c i j (omega arith))

-- it is one more at most
past_le : (c i : ℕ) → past c i ≤ suc i
past_le zero i = omega arith
past_le (suc c) zero = omega arith
past_le (suc c) (suc i) = omega (arith, past_le c i)

-- it is the number of that run
past_run : (before : List Run) (r : Run) (after : List Run) (i : ℕ) → run_at (before ++ after) i ≡ run_at (before ++ r ∷ after) (past (length before) i)
past_run [] r after i = refl
past_run (b ∷ before) r after zero = refl
past_run (b ∷ before) r after (suc i) = past_run before r after i

-- where run r is the centre of a whole job, the other runs are apart
pub star_apart : (g : Grid) (before : List Run) (r : Run) (after : List Run)
    → IsCentre (meets g (before ++ r ∷ after)) (below (length (before ++ r ∷ after))) (length before) → Apart g (before ++ after)
star_apart g before r after k =
    let runs = before ++ r ∷ after in
    let c = length before in
    let size : length runs ≡ suc (length (before ++ after)) = omega (arith, length-append before (r ∷ after), length-append before after) in
    apart_of g (before ++ after) (λ i j h l.
    rw (past_run before r after i, past_run before r after j)
    (leaves_overlap g runs (below (length runs)) c k (past c i) (past c j)
    (member_below (length runs) (past c i) (omega (arith, past_le c i)))
    (member_below (length runs) (past c j) (omega (arith, past_le c j)))
    (past_other c i) (past_other c j) (λ e. omega (arith, past_lt c i j h))))
