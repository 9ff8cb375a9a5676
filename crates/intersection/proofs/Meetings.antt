-- The sets of neighbours, comparison by comparison; and what the case of two boxes tells: the runs meet.
--
-- Run 1 is compared with run 0, then run 2 with runs 0 and 1, and so on. At any moment each run k has been compared with all runs below some number
-- (`seen`), and its set holds its neighbours below that number. A comparison of i with j < i raises the number of i from j to j + 1 and that of j
-- from i to i + 1, so each set grows at its top, by the other run, or stays; all other sets stay. When i has passed all runs before it, it need not be
-- compared with itself, since no run meets itself: every number is then i + 1.
use mathlib.Core.Path.{◌≡◌, sym, ap, ap₂, ◌∙◌, subst}
use mathlib.Core.Bool.{Bool, true, false, cond, ◌||◌}
use mathlib.Core.Logic.{◌⊎◌, inl, inr}
use mathlib.Core.List.{List}
use Prim.Native.Nat.{ℕ, suc, ◌+◌, ◌^◌, ◌≤◌, ◌<◌, min, max}
use native.Mathlib.Nat.{le_refl}
use native.Mathlib.Numerals.{add-one}
use native.Mathlib.Decide.{ℕ_discrete}
use native.Mathlib.Omega.{arith}
use lib.Dec.{eqb, ltb}
use lib.ListN.{length, get_or, set, length-set}
use lib.Seq.{get_or-set_same, get_or-set_other}
use borrow.Author.Tests.{lt-ltb, le-ltb}
use Rattle.network.specs.Plane.{Run}
use Rattle.network.specs.Hanan.{hanan}
use Rattle.network.specs.Graph.{run_at}
use Rattle.network.proofs.Numbers.{order}
use Rattle.network.proofs.Meeting.{meets_turned}
use Rattle.job.specs.declared.Spans.{Spans}
use Rattle.grid.specs.Tables.{table, padded}
use Rattle.grid.specs.Runs.{runs_held}
use Rattle.grid.proofs.Tables.{table_same, length_padded, get_or_padded, get_or_behind, table_held}
use Rattle.network.specs.Entries.{length_table, get_or_table}
use Rattle.grid.proofs.Hanan.{length_runs, run_at_lem}
use Rattle.intersection.specs.declared.Box.{Box}
use Rattle.intersection.specs.declared.Case.{Case}
use Rattle.intersection.specs.Sets.{has, pack}
use Rattle.intersection.specs.Cases.{box_of, Common, Makes, meeting}
use Rattle.intersection.specs.Centres.{meets_in, neighbour_sets}
use Rattle.intersection.specs.Steps.{sides_of, box_at, seen, part_sets, Tells, Compared}
use Rattle.intersection.proofs.Digits.{pack_none}
use Rattle.intersection.proofs.Members.{pack_add, pack_skip}
use Rattle.intersection.proofs.Cases.{meets_hanan}

-- ---- how many runs a run has been compared with

-- a run that run i has been compared with
seen_done : (i j k : ℕ) → k < j → seen i j k ≡ suc i
seen_done i j k h = ap (λ (b : Bool). cond b (suc i) (cond (ltb k i) i j)) (lt-ltb k j h)

-- a run before i that it has not yet been compared with
seen_open : (i j k : ℕ) → j ≤ k → k < i → seen i j k ≡ i
seen_open i j k h l = ap₂ (λ (a b : Bool). cond a (suc i) (cond b i j)) (le-ltb k j h) (lt-ltb k i l)

-- run i itself
seen_last : (i j : ℕ) → j ≤ i → seen i j i ≡ j
seen_last i j h = ap₂ (λ (a b : Bool). cond a (suc i) (cond b i j)) (le-ltb i j h) (le-ltb i i (le_refl i))

-- a run that is neither of the two compared next has been compared with as many afterwards
seen_other : (i j k : ℕ) → k < suc i → (k ≡ i → ⊥) → (k ≡ j → ⊥) → seen i j k ≡ seen i (suc j) k
seen_other i j k h p q = go (order j k)
  where
    go : (j ≤ k) ⊎ (k < j) → seen i j k ≡ seen i (suc j) k
    go (inl l) = seen_open i j k l (omega arith) ∙ sym (seen_open i (suc j) k (omega arith) (omega arith))
    go (inr l) = seen_done i j k l ∙ sym (seen_done i (suc j) k (omega arith))

-- ---- the sets while run i is compared

module _ (joined : ℕ → ℕ → Bool) (i : ℕ) (few : i < 32) where
  part : ℕ → ℕ → ℕ
  part j k = pack (joined k) (seen i j k)

  -- the array and its entries
  part_length : (j : ℕ) → length (part_sets joined i j) ≡ 32
  unfolding part_sets part
  part_length j = length_padded 32 (table (part j) (suc i)) (omega (arith, length_table (part j) (suc i)))

  -- an entry up to run i
  part_at : (j k : ℕ) → k < suc i → get_or (part_sets joined i j) k 0 ≡ pack (joined k) (seen i j k)
  unfolding part_sets part
  part_at j k h = get_or_padded 32 (table (part j) (suc i)) k (omega (arith, length_table (part j) (suc i))) ∙ get_or_table (part j) (suc i) k 0 h

  -- and the entries behind it
  part_behind : (j k : ℕ) → suc i ≤ k → get_or (part_sets joined i j) k 0 ≡ 0
  unfolding part_sets part
  part_behind j k h = get_or_behind 32 (table (part j) (suc i)) k (omega (arith, length_table (part j) (suc i)))

  -- an array with those entries holds those sets
  part_held : (j : ℕ) (t : List ℕ) → length t ≡ 32 → ((k : ℕ) → k < suc i → get_or t k 0 ≡ pack (joined k) (seen i j k)) → ((k : ℕ) → suc i ≤ k → get_or t k 0 ≡ 0)
      → t ≡ part_sets joined i j
  unfolding part_sets part
  part_held j t l p q = table_held (part j) 32 (suc i) t few l p q

  -- at first run i has no neighbour
  pub part_start : neighbour_sets joined i ≡ part_sets joined i 0
  part_start =
      part_held 0 (neighbour_sets joined i) (length_padded 32 (table (λ k. pack (joined k) i) i) (omega (arith, length_table (λ k. pack (joined k) i) i)))
      (λ k l. go k (order i k) l) (λ k l. get_or_behind 32 (table (λ k. pack (joined k) i) i) k (omega (arith, length_table (λ k. pack (joined k) i) i)))
    where
      go : (k : ℕ) → (i ≤ k) ⊎ (k < i) → k < suc i → get_or (neighbour_sets joined i) k 0 ≡ pack (joined k) (seen i 0 k)
      go k (inl h) l =
          let e : k ≡ i = omega arith in
          get_or_behind 32 (table (λ k. pack (joined k) i) i) k (omega (arith, length_table (λ k. pack (joined k) i) i))
          ∙ sym (ap (λ (m : ℕ). pack (joined k) (seen i 0 m)) e ∙ ap (pack (joined k)) (seen_last i 0 (omega arith)) ∙ pack_none (joined k))
      go k (inr h) l =
          get_or_padded 32 (table (λ k. pack (joined k) i) i) k (omega (arith, length_table (λ k. pack (joined k) i) i))
          ∙ get_or_table (λ k. pack (joined k) i) i k 0 h ∙ ap (pack (joined k)) (sym (seen_open i 0 k (omega arith) h))

  -- at last it has all, since it is none of its own
  pub part_end : joined i i ≡ false → part_sets joined i i ≡ neighbour_sets joined (i + 1)
  unfolding part_sets part
  part_end n =
      ap (padded 32) (table_same (part i) (λ k. pack (joined k) (suc i)) (suc i) (λ k l. go k l (order i k)))
      ∙ ap (neighbour_sets joined) (sym (add-one i))
    where
      go : (k : ℕ) → k < suc i → (i ≤ k) ⊎ (k < i) → pack (joined k) (seen i i k) ≡ pack (joined k) (suc i)
      go k l (inl h) =
          let e : i ≡ k = omega arith in
          subst (λ k. pack (joined k) (seen i i k) ≡ pack (joined k) (suc i)) e (ap (pack (joined i)) (seen_last i i (le_refl i)) ∙ sym (pack_skip (joined i) i n))
      go k l (inr h) = ap (pack (joined k)) (seen_done i i k h)

  -- the set of run i before it is compared with run j
  pub part_later : (j : ℕ) → j < i → get_or (part_sets joined i j) i 0 ≡ pack (joined i) j
  part_later j h = part_at j i (le_refl (suc i)) ∙ ap (pack (joined i)) (seen_last i j (omega arith))

  -- and that of run j
  pub part_earlier : (j : ℕ) → j < i → get_or (part_sets joined i j) j 0 ≡ pack (joined j) i
  part_earlier j h = part_at j j (omega arith) ∙ ap (pack (joined j)) (seen_open i j j (le_refl j) h)

  -- they do not meet: the sets stay
  pub part_still : (j : ℕ) → j < i → joined i j ≡ false → joined j i ≡ false → part_sets joined i j ≡ part_sets joined i (suc j)
  part_still j h p q = part_held (suc j) (part_sets joined i j) (part_length j) (λ k l. part_at j k l ∙ go k l (ℕ_discrete k i) (ℕ_discrete k j)) (part_behind j)
    where
      go : (k : ℕ) → k < suc i → Dec (k ≡ i) → Dec (k ≡ j) → pack (joined k) (seen i j k) ≡ pack (joined k) (seen i (suc j) k)
      go k l (yes e) d =
          subst (λ k. pack (joined k) (seen i j k) ≡ pack (joined k) (seen i (suc j) k)) (sym e)
          (ap (pack (joined i)) (seen_last i j (omega arith)) ∙ sym (pack_skip (joined i) j p) ∙ ap (pack (joined i)) (sym (seen_last i (suc j) h)))
      go k l (no n) (yes e) =
          subst (λ k. pack (joined k) (seen i j k) ≡ pack (joined k) (seen i (suc j) k)) (sym e)
          (ap (pack (joined j)) (seen_open i j j (le_refl j) h) ∙ sym (pack_skip (joined j) i q) ∙ ap (pack (joined j)) (sym (seen_done i (suc j) j (le_refl (suc j)))))
      go k l (no n) (no m) = ap (pack (joined k)) (seen_other i j k l n m)

  -- they meet: each is put into the other's set
  pub part_more : (j a b : ℕ) → j < i → a ≡ pack (joined i) (suc j) → b ≡ pack (joined j) (suc i)
      → set (set (part_sets joined i j) i a) j b ≡ part_sets joined i (suc j)
  part_more j a b h p q =
      part_held (suc j) (set (set t i a) j b) (length-set (set t i a) j b ∙ length-set t i a ∙ part_length j) (λ k l. go k l (ℕ_discrete k j) (ℕ_discrete k i))
      (λ k l. get_or-set_other (set t i a) j k b 0 (omega arith) ∙ get_or-set_other t i k a 0 (omega arith) ∙ part_behind j k l)
    where
      t : List ℕ
      t = part_sets joined i j

      go : (k : ℕ) → k < suc i → Dec (k ≡ j) → Dec (k ≡ i) → get_or (set (set t i a) j b) k 0 ≡ pack (joined k) (seen i (suc j) k)
      go k l (yes e) d =
          subst (λ k. get_or (set (set t i a) j b) k 0 ≡ pack (joined k) (seen i (suc j) k)) (sym e)
          (get_or-set_same (set t i a) j b 0 (omega (arith, length-set t i a, part_length j)) ∙ q ∙ ap (pack (joined j)) (sym (seen_done i (suc j) j (le_refl (suc j)))))
      go k l (no n) (yes e) =
          subst (λ k. get_or (set (set t i a) j b) k 0 ≡ pack (joined k) (seen i (suc j) k)) (sym e)
          (get_or-set_other (set t i a) j i b 0 (omega arith) ∙ get_or-set_same t i a 0 (omega (arith, part_length j)) ∙ p
          ∙ ap (pack (joined i)) (sym (seen_last i (suc j) h)))
      go k l (no n) (no m) =
          get_or-set_other (set t i a) j k b 0 n ∙ get_or-set_other t i k a 0 m ∙ part_at j k l ∙ ap (pack (joined k)) (seen_other i j k l m n)

-- ---- one comparison

-- Run i is compared with run j: p and q are their boxes, c is the case of these, and t says if it is a meeting.
module _ (box : ℕ → Box) (i j : ℕ) (later : j < i) (few : i < 32) (p q : Box) (at_i : p ≡ box i) (at_j : q ≡ box j) (c : Case) (made : Makes (Common p q) c)
    (t : Bool) (says : t ≡ meeting c) (old : List ℕ) where
  -- what this tells of a graph
  tells : (joined : ℕ → ℕ → Bool) → Tells box joined i j → (joined i j ≡ t) × (joined j i ≡ t)
  tells joined told =
      let (m, n) = told c (rw (at_i, at_j) at made) in
      (m ∙ sym says, n ∙ sym says)

  -- no meeting: the sets stay
  pub compared_apart : t ≡ false → Compared box i j old old
  compared_apart e joined told held =
      let (m, n) = tells joined told in
      held ∙ part_still joined i few j later (m ∙ e) (n ∙ e)

  -- a meeting: each is put into the set of the other
  pub compared_met : t ≡ true → (u v : ℕ) → u < 2 ^ 32 → v < 2 ^ 32
      → ((k : ℕ) → has u k ≡ (eqb k j || has (get_or old i 0) k)) → ((k : ℕ) → has v k ≡ (eqb k i || has (get_or (set old i u) j 0) k))
      → Compared box i j old (set (set old i u) j v)
  compared_met e u v fits-u fits-v has-u has-v joined told held =
      let (m, n) = tells joined told in
      ap (λ (s : List ℕ). set (set s i u) j v) held
      ∙ part_more joined i few j u v later
      (pack_add (joined i) j (get_or old i 0) u (omega arith) fits-u (m ∙ e) (ap (λ (s : List ℕ). get_or s i 0) held ∙ part_later joined i few j later) has-u)
      (pack_add (joined j) i (get_or (set old i u) j 0) v few fits-v (n ∙ e)
      (get_or-set_other old i j u 0 (omega arith) ∙ ap (λ (s : List ℕ). get_or s j 0) held ∙ part_earlier joined i few j later) has-v)

-- ---- the runs of a job

module _ (x y : Spans) (n : ℕ) (few : n ≤ 32) (wide high : Spans) (wide_is : wide ≡ sides_of x n) (high_is : high ≡ sides_of y n) where
  abbrev box : ℕ → Box
  box = box_at wide high

  abbrev runs : List Run
  runs = runs_held x.first y.first x.second y.second n

  -- a side of a box, read from its array
  side : (f : ℕ → ℕ) (i : ℕ) → i < n → get_or (padded 32 (table f n)) i 0 ≡ f i
  side f i h = get_or_padded 32 (table f n) i (omega (arith, length_table f n)) ∙ get_or_table f n i 0 h

  -- the sides are those of the runs' boxes
  box_is : (i : ℕ) → i < n → box i ≡ box_of (run_at runs i)
  box_is i h =
      (λ o. box_at (wide_is o) (high_is o) i)
      ∙ (λ o. record { left = side (lower x) i h o; right = side (higher x) i h o; low = side (lower y) i h o; high = side (higher y) i h o })
      ∙ sym (ap box_of (run_at_lem x.first y.first x.second y.second n i h))
    where
      lower : Spans → ℕ → ℕ
      lower s i = min (get_or s.first i 0) (get_or s.second i 0)

      higher : Spans → ℕ → ℕ
      higher s i = max (get_or s.first i 0) (get_or s.second i 0)

  -- so their cases tell which runs meet
  pub told_meets : (i j : ℕ) → i < n → j < i → Tells box (meets_in runs) i j
  told_meets i j h k c m =
      let l = length_runs x.first y.first x.second y.second n in
      let e = meets_hanan runs i j (omega arith) (omega arith) (omega arith) c (rw (box_is i h, box_is j (omega arith)) at m) in
      (e, meets_turned (hanan runs) runs i j ∙ e)
