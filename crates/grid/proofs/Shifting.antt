-- Insertion into an array: the lines from the value's place on go one place further.
use mathlib.Core.Path.{◌≡◌, refl, sym, ap, ap₂, ◌∙◌, subst}
use mathlib.Core.List.{List, [], ◌∷◌, ◌++◌, append_assoc, append-nil}
use Prim.Native.Nat.{ℕ, zero, suc, ◌+◌, ◌-◌, ◌≤◌, ◌<◌}
use native.Mathlib.Nat.{le_refl, lt_of_not-le}
use native.Mathlib.Numerals.{add-one}
use native.Mathlib.Omega.{arith}
use lib.ListN.{length, get_or, get_or-append, take, drop, take-append-drop, set, replicate, length-append, length-take, length-drop}
use lib.Seq.{take_at, drop_at, length-take-le, take-suc, take-length, drop-length, drop-cons, append_snoc, get_or_at, take-append_seam, take-append-le, drop-append_seam, drop-append-le, set_at, get_or-take, get_or-set_other, set-set}
use Rattle.network.specs.Distinct.{insert}
use Rattle.grid.specs.declared.Axis.{Axis}
use Rattle.grid.specs.Tables.{padded}
use Rattle.grid.specs.Lines.{axis_of, lines_of, index_of, put, Room}
use Rattle.grid.proofs.Tables.{length_padded}
use Rattle.grid.proofs.Insert.{insert_there, insert_put}
use Rattle.grid.proofs.Places.{Parts, index_le, index_padded, index_parts}

-- one place is gained
length_put : (i v : ℕ) (m : List ℕ) → i ≤ length m → length (put i v m) ≡ suc (length m)
length_put i v m h = length-append (take i m) (v ∷ drop i m) ∙ omega (arith, length-take i m, length-drop i m)

-- ---- one place further, the last one first

-- a store of v at place i of the array t makes the list m with v at place i
pub record Shifted (m : List ℕ) (v : ℕ) (t : List ℕ) (i : ℕ) : Type 0 where
  pub within : i ≤ length m
  pub whole : set t i v ≡ put i v m

-- one place nearer to the front: the number before place i is carried to it
shifted_suc : (m : List ℕ) (v : ℕ) (t : List ℕ) (i : ℕ) → Shifted m v t (suc i) → Shifted m v (set t (suc i) (get_or t i 0)) i
shifted_suc m v t i s =
    record {
      within = omega (arith, s.within);
      whole =
          ap (λ (k : List ℕ). set k i v)
          (sym (set-set t (suc i) v (get_or t i 0)) ∙ ap (λ (k : List ℕ). set k (suc i) (get_or t i 0)) s.whole
          ∙ set_at (take (suc i) m) v (drop (suc i) m) (get_or t i 0) (suc i) (length-take-le (suc i) m s.within)
          ∙ ap₂ (λ (k : List ℕ) (x : ℕ). k ++ x ∷ drop (suc i) m) (take-suc m i 0 s.within) same
          ∙ append_snoc (take i m) (get_or m i 0) (get_or m i 0 ∷ drop (suc i) m))
          ∙ set_at (take i m) (get_or m i 0) (get_or m i 0 ∷ drop (suc i) m) v i (length-take-le i m (omega (arith, s.within)))
          ∙ ap (λ (k : List ℕ). take i m ++ v ∷ k) (sym (drop-cons m i 0 s.within));
    }
  where
    same : get_or t i 0 ≡ get_or m i 0
    same =
        sym (get_or-set_other t (suc i) i v 0 (λ e. absurd (omega arith))) ∙ ap (λ (k : List ℕ). get_or k i 0) s.whole
        ∙ get_or-append (take (suc i) m) (v ∷ drop (suc i) m) 0 i (omega (arith, length-take-le (suc i) m s.within))
        ∙ get_or-take (suc i) m i 0 (le_refl (suc i))

-- the same by the place that the code has
pub shifted_on : (m : List ℕ) (v : ℕ) (t : List ℕ) (i : ℕ) → Shifted m v t i → 0 < i → Shifted m v (set t i (get_or t (i - 1) 0)) (i - 1)
shifted_on m v t i s h =
    let e : i ≡ suc (i - 1) = omega arith in
    subst (λ (j : ℕ). Shifted m v (set t j (get_or t (i - 1) 0)) (i - 1)) (sym e) (shifted_suc m v t (i - 1) (subst (Shifted m v t) e s))

-- ---- one place further, all of them in one move, as one by one from the last

-- the numbers of t, but j of them from place k on are copied one place further
abbrev moved : List ℕ → ℕ → ℕ → List ℕ
moved t k j = take (suc k) t ++ take j (drop k t) ++ drop (suc (k + j)) t

-- none of them
moved_none : (t : List ℕ) (k : ℕ) → moved t k 0 ≡ t
moved_none t k =
    let e : suc (k + 0) ≡ suc k = omega arith in
    ap₂ (λ (x : List ℕ) (i : ℕ). x ++ drop i t) (append-nil (take (suc k) t)) e ∙ take-append-drop (suc k) t

-- one more: the number before those that were moved is carried to the place behind its own
moved_suc : (t : List ℕ) (k j : ℕ) → suc k < length t → set (moved t (suc k) j) (suc k) (get_or (moved t (suc k) j) k 0) ≡ moved t k (suc j)
moved_suc t k j h =
    ap₂ (λ (x : List ℕ) (v : ℕ). set x (suc k) v) there same
    ∙ set_at (take (suc k) t) (get_or t (suc k) 0) rest (get_or t k 0) (suc k) (length-take-le (suc k) t (omega arith))
    ∙ ap (λ (x : List ℕ). take (suc k) t ++ (take (suc j) x ++ drop (suc (suc k + j)) t)) (sym (drop-cons t k 0 (omega arith)))
    ∙ ap (λ (i : ℕ). take (suc k) t ++ (take (suc j) (drop k t) ++ drop i t)) e
    ∙ sym (append_assoc (take (suc k) t) (take (suc j) (drop k t)) (drop (suc (k + suc j)) t))
  where
    rest : List ℕ
    rest = take j (drop (suc k) t) ++ drop (suc (suc k + j)) t

    e : suc (suc k + j) ≡ suc (k + suc j)
    e = omega arith

    whole : moved t (suc k) j ≡ take (suc (suc k)) t ++ rest
    whole = append_assoc (take (suc (suc k)) t) (take j (drop (suc k) t)) (drop (suc (suc k + j)) t)

    there : moved t (suc k) j ≡ take (suc k) t ++ get_or t (suc k) 0 ∷ rest
    there = whole ∙ ap (λ (x : List ℕ). x ++ rest) (take-suc t (suc k) 0 h) ∙ append_snoc (take (suc k) t) (get_or t (suc k) 0) rest

    same : get_or (moved t (suc k) j) k 0 ≡ get_or t k 0
    same =
        ap (λ (x : List ℕ). get_or x k 0) whole
        ∙ get_or-append (take (suc (suc k)) t) rest 0 k (omega (arith, length-take-le (suc (suc k)) t h))
        ∙ get_or-take (suc (suc k)) t k 0 (omega arith)

module _ (l : List ℕ) (v : ℕ) (h : length l < 64) where
  -- a value behind all lines needs no shift
  first_shifted : Shifted (padded 63 l) v (padded 64 l) (length l)
  first_shifted =
      let e : 64 - length l ≡ suc (63 - length l) = omega arith in
      let z = replicate {A = ℕ} (63 - length l) 0 in
      record {
        within = omega (arith, length_padded 63 l (omega arith));
        whole =
            ap (λ (n : ℕ). set (l ++ replicate n 0) (length l) v) e
            ∙ set_at l 0 z v (length l) refl
            ∙ ap₂ (λ (x y : List ℕ). x ++ v ∷ y) (sym (take_at l z (length l) refl)) (sym (drop_at l z (length l) refl));
      }

  -- where the lines from place k on, j of them, are moved, a store of v at place k would insert it there
  moved_shifted : (j k : ℕ) → k + j ≡ length l → Shifted (padded 63 l) v (moved (padded 64 l) k j) k
  moved_shifted zero k e =
      let i : length l ≡ k = omega arith in
      subst (λ (t : List ℕ). Shifted (padded 63 l) v t k) (sym (moved_none (padded 64 l) k)) (subst (Shifted (padded 63 l) v (padded 64 l)) i first_shifted)
  moved_shifted (suc j) k e =
      let t = moved (padded 64 l) (suc k) j in
      let p : suc k - 1 ≡ k = omega arith in
      subst (λ (x : List ℕ). Shifted (padded 63 l) v x k) (moved_suc (padded 64 l) k j (omega (arith, length_padded 64 l (omega arith))))
      (subst (λ (i : ℕ). Shifted (padded 63 l) v (set t (suc k) (get_or t i 0)) i) p (shifted_on (padded 63 l) v t (suc k) (moved_shifted j (suc k) (omega arith)) (omega arith)))

-- ---- one place further, the first one first

-- v and the numbers s stand in the first i places of t, one place further, and x is the one that is next
pub record Slipped (s : List ℕ) (v : ℕ) (t : List ℕ) (x i : ℕ) : Type 0 where
  pub array : t ≡ take i (v ∷ s) ++ drop i s
  pub next : x ≡ get_or (v ∷ s) i 0

-- x takes the place of the number there, z, which is next
pub slipped_on : (s : List ℕ) (v : ℕ) (t : List ℕ) (x i y z : ℕ) → Slipped s v t x i → i < length s → y ≡ x → z ≡ get_or t i 0 → Slipped s v (set t i y) z (i + 1)
slipped_on s v t x i y z p h f g =
    rw add-one
    record {
      array =
          ap₂ (λ (k : List ℕ) (a : ℕ). set k i a) there (f ∙ p.next)
          ∙ set_at (take i (v ∷ s)) (get_or s i 0) (drop (suc i) s) w i front
          ∙ sym (append_snoc (take i (v ∷ s)) w (drop (suc i) s))
          ∙ ap (λ (k : List ℕ). k ++ drop (suc i) s) (sym (take-suc (v ∷ s) i 0 (omega arith)));
      next = g ∙ ap (λ (k : List ℕ). get_or k i 0) there ∙ get_or_at (take i (v ∷ s)) (get_or s i 0) (drop (suc i) s) 0 i front;
    }
  where
    w : ℕ
    w = get_or (v ∷ s) i 0

    there : t ≡ take i (v ∷ s) ++ get_or s i 0 ∷ drop (suc i) s
    there = p.array ∙ ap (λ (k : List ℕ). take i (v ∷ s) ++ k) (drop-cons s i 0 h)

    front : length (take i (v ∷ s)) ≡ i
    front = length-take-le i (v ∷ s) (omega arith)

-- behind the last number, x is the last of them
pub slipped_end : (s : List ℕ) (v : ℕ) (t : List ℕ) (x i : ℕ) → Slipped s v t x i → i ≡ length s → t ++ x ∷ [] ≡ v ∷ s
slipped_end s v t x i p e =
    let n = length s in
    ap₂ (λ (k : List ℕ) (y : ℕ). k ++ y ∷ []) (p.array ∙ ap (λ (j : ℕ). take j (v ∷ s) ++ drop j s) e) (p.next ∙ ap (λ (j : ℕ). get_or (v ∷ s) j 0) e)
    ∙ ap (λ (k : List ℕ). (take n (v ∷ s) ++ k) ++ get_or (v ∷ s) n 0 ∷ []) (drop-length s)
    ∙ ap (λ (k : List ℕ). k ++ get_or (v ∷ s) n 0 ∷ []) (append-nil (take n (v ∷ s)))
    ∙ sym (take-suc (v ∷ s) n 0 (le_refl (suc n)))
    ∙ ap (λ (k : List ℕ). v ∷ k) (take-length s)

-- ---- an array with room for one more line

module _ (l : List ℕ) (v k : ℕ) (room : length l < 64) (o : k ≤ length l) where
  -- the words behind the lines, but for the first of them
  abbrev behind : List ℕ
  behind = replicate (63 - length l) 0

  -- the array's words
  words : padded 64 l ≡ l ++ 0 ∷ behind
  words = let e : 64 - length l ≡ suc (63 - length l) = omega arith in ap (λ (n : ℕ). l ++ replicate n 0) e

  -- those before place k
  front : take k (padded 64 l) ≡ take k l
  front = ap (take k) words ∙ take-append-le k l (0 ∷ behind) o

  -- and those from there on
  rest : drop k (padded 64 l) ≡ drop k l ++ 0 ∷ behind
  rest = ap (drop k) words ∙ drop-append-le k l (0 ∷ behind) o

  -- so many lines are moved
  size : length l - k ≡ length (drop k l)
  size = sym (length-drop k l)

  -- the lines that are moved
  lines : take (length l - k) (drop k (padded 64 l)) ≡ drop k l
  lines = ap₂ (λ (n : ℕ) (x : List ℕ). take n x) size rest ∙ take-append_seam (drop k l) (0 ∷ behind)

  -- with v in front of them, the array holds the lines with v at place k
  held : take k l ++ ((v ∷ drop k l) ++ behind) ≡ padded 64 (put k v l)
  held =
      let e : 63 - length l ≡ 64 - length (put k v l) = omega (arith, length_put k v l o) in
      sym (append_assoc (take k l) (v ∷ drop k l) behind) ∙ ap (λ (n : ℕ). put k v l ++ replicate n 0) e

  -- where the lines slip one place, and the last one, r, is stored behind the others
  slipped_put : (y : List ℕ) (r : ℕ) → y ++ r ∷ [] ≡ v ∷ take (length l - k) (drop k (padded 64 l))
      → set (take k (padded 64 l) ++ (y ++ drop (length l - k) (drop k (padded 64 l)))) (length l) r ≡ padded 64 (put k v l)
  slipped_put y r e =
      ap₂ (λ (a b : List ℕ). set (a ++ (y ++ b)) (length l) r) front
      (ap₂ (λ (n : ℕ) (x : List ℕ). drop n x) size rest ∙ drop-append_seam (drop k l) (0 ∷ behind))
      ∙ ap (λ (a : List ℕ). set a (length l) r) (sym (append_assoc (take k l) y (0 ∷ behind)))
      ∙ set_at (take k l ++ y) 0 behind r (length l) there
      ∙ append_assoc (take k l) y (r ∷ behind)
      ∙ ap (λ (a : List ℕ). take k l ++ a) (sym (append_snoc y r behind) ∙ ap (λ (a : List ℕ). a ++ behind) (e ∙ ap (λ (a : List ℕ). v ∷ a) lines))
      ∙ held
    where
      as_long : length y + 1 ≡ suc (length (drop k l))
      as_long = sym (length-append y (r ∷ [])) ∙ ap length (e ∙ ap (λ (a : List ℕ). v ∷ a) lines)

      there : length (take k l ++ y) ≡ length l
      there = omega (arith, length-append (take k l) y, length-take-le k l o, length-drop k l, as_long)

  -- where they are copied one place further, and v is stored at place k
  copied_put : set (take (k + 1) (padded 64 l) ++ take (length l - k) (drop k (padded 64 l)) ++ drop (k + 1 + (length l - k)) (padded 64 l)) k v ≡ padded 64 (put k v l)
  copied_put =
      let e : k + 1 + (length l - k) ≡ suc (k + (length l - k)) = omega arith in
      ap₂ (λ (i j : ℕ). set (take i (padded 64 l) ++ take (length l - k) (drop k (padded 64 l)) ++ drop j (padded 64 l)) k v) (add-one k) e
      ∙ (moved_shifted l v room (length l - k) k (omega arith)).whole
      ∙ ap₂ (λ (x y : List ℕ). x ++ v ∷ y) (take-append-le k l behind o) (drop-append-le k l behind o)
      ∙ held

-- ---- an axis with room for one more

module _ (a : Axis) (v : ℕ) (h : Room a) where
  -- it has as many lines as it says
  count_is : a.count ≡ length (lines_of a)
  count_is = ap (λ (b : Axis). b.count) h.held

  -- the lines below v are the first ones
  parts : Parts (lines_of a) (length (lines_of a)) v (index_of a.lines a.count v)
  parts =
      subst (Parts (lines_of a) (length (lines_of a)) v)
      (sym (ap (λ (b : Axis). index_of b.lines b.count v) h.held ∙ index_padded (lines_of a) v))
      (index_parts (lines_of a) h.rises (length (lines_of a)) v (le_refl (length (lines_of a))))

  -- the words of its array before its count are its lines
  line_is : (i : ℕ) → i < a.count → get_or a.lines i 0 ≡ get_or (lines_of a) i 0
  line_is i k = sym (get_or-take a.count a.lines i 0 k)

  -- where its lines from place k on slip, the array holds the lines with v at place k
  pub line_slipped : (k : ℕ) → k ≤ a.count → (y : List ℕ) (r : ℕ) → y ++ r ∷ [] ≡ v ∷ take (a.count - k) (drop k a.lines)
      → set (take k a.lines ++ (y ++ drop (a.count - k) (drop k a.lines))) a.count r ≡ padded 64 (put k v (lines_of a))
  line_slipped k o y r =
      subst (λ (b : Axis). y ++ r ∷ [] ≡ v ∷ take (b.count - k) (drop k b.lines) → set (take k b.lines ++ (y ++ drop (b.count - k) (drop k b.lines))) b.count r ≡ padded 64 (put k v (lines_of a)))
      (sym h.held) (slipped_put (lines_of a) v k (omega (arith, count_is, h.room)) (omega (arith, count_is)) y r)

  -- and where they are copied
  pub line_copied : (k : ℕ) → k ≤ a.count
      → set (take (k + 1) a.lines ++ take (a.count - k) (drop k a.lines) ++ drop (k + 1 + (a.count - k)) a.lines) k v ≡ padded 64 (put k v (lines_of a))
  line_copied k o =
      subst (λ (b : Axis). set (take (k + 1) b.lines ++ take (b.count - k) (drop k b.lines) ++ drop (k + 1 + (b.count - k)) b.lines) k v ≡ padded 64 (put k v (lines_of a)))
      (sym h.held) (copied_put (lines_of a) v k (omega (arith, count_is, h.room)) (omega (arith, count_is)))

  -- where the line at v's position is v, the axis is the one with v inserted
  pub line_there : (k : ℕ) → k ≡ index_of a.lines a.count v → k < a.count → get_or a.lines k 0 ≡ v → a ≡ axis_of (insert v (lines_of a))
  line_there k p o e =
      h.held
      ∙ ap axis_of (sym (insert_there k v (lines_of a) (λ i q. parts.under i (omega arith)) (omega (arith, count_is)) (sym (line_is k o) ∙ e)))

  -- where it is not, v put at its position makes that axis
  pub line_put : (k : ℕ) (t : List ℕ) → k ≡ index_of a.lines a.count v → (k < a.count → get_or a.lines k 0 ≡ v → ⊥)
      → t ≡ padded 64 (put k v (lines_of a)) → ◌≡◌ {A = Axis} (record { lines = t; count = a.count + 1 }) (axis_of (insert v (lines_of a)))
  line_put k t p n e =
      (λ i. record { lines = e i; count = more i })
      ∙ ap axis_of (sym (insert_put k v (lines_of a) (λ i q. parts.under i (omega arith)) most above))
    where
      most : k ≤ length (lines_of a)
      most = omega (arith, count_is, index_le a.lines a.count v)

      more : a.count + 1 ≡ length (put k v (lines_of a))
      more = omega (arith, count_is, length_put k v (lines_of a) most)

      above : k < length (lines_of a) → v < get_or (lines_of a) k 0
      above o =
          let q : v ≤ get_or (lines_of a) k 0 = subst (λ j. v ≤ get_or (lines_of a) j 0) (sym p) (parts.next (omega arith)) in
          lt_of_not-le (λ m. absurd (n (omega (arith, count_is)) (omega (arith, line_is k (omega (arith, count_is))))))
