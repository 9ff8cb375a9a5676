-- The first 36,887 bytes decide, one more than the longest book has: a byte behind it is the 36,887th.
-- A record that is looked at begins at most 19 + 32 * 1152 bytes from the front. Of the last that can be, 4 bytes decide, since all but an end with no
-- byte behind it are refused as not whole; 9 bytes are needed only where one more corner or one more route can stand.
use mathlib.Core.Path.{◌≡◌, refl, sym, ap, ap₂, ◌∙◌}
use mathlib.Core.Bool.{Bool, true, false, cond, ◌||◌}
use mathlib.Core.List.{List, [], ◌∷◌}
use Prim.Native.Nat.{ℕ, zero, suc, ◌+◌, ◌-◌, ◌*◌, ◌≤◌, ◌<◌}
use native.Mathlib.Omega.{arith}
use lib.Dec.{leb, ltb, eqb}
use lib.ListN.{length, get_or, take, drop, length-take, length-drop}
use lib.Seq.{length-take-le}
use borrow.Author.Tests.{lt-ltb, le-ltb, leb-false, eqb-false}
use Rattle.network.proofs.Tests.{neither}
use Rattle.job.proofs.Prefix.{drop_take, word2_take, word4_take, by_length}
use Rattle.refusal.specs.declared.Refusal.{Refusal}
use Rattle.refusal.specs.declared.Refusal.TheVariants.{NotWhole}
use Rattle.std.specs.Prelude.{Result, Ok, Err}
use Rattle.plan.specs.Records.{route_size}
use Rattle.plan.proofs.Length.{route_size_lem}
use Rattle.records.specs.declared.Record.{Record}
use Rattle.records.specs.declared.Record.TheVariants as rec
use Rattle.records.specs.Records.{head_body, whole, decoded, record_of}
use Rattle.job.specs.Fields.{word2, word4}
use Rattle.book.specs.declared.Walk.{Walk}
use Rattle.book.specs.declared.Step.{Step}
use Rattle.book.specs.declared.Step.TheVariants as step
use Rattle.book.specs.Parse.{start, begun, passed, corner_step, mixed, step_by, step_of, with_corner, with_route, proceed, rest_from, is_grouped, parse_by, parse_plan}
use Rattle.book.proofs.Taken.{Took, step_took}

-- ---- the records of a list and of its prefix

-- what holds of both sides of two tests that agree holds of what they pick
each_side : {A : Type 0} (P : A → A → Type 0) (t : Bool) {x y u v : A} → P x u → P y v → P (cond t x y) (cond t u v)
each_side P true h k = h
each_side P false h k = k

-- a route of either kind, by what is read as its centre
abbrev route_with : (grouped : Bool) → (List ℕ → ℕ) → List ℕ → Record
route_with g last b = rec.Route g (word2 b 0) (word2 b 2) (word2 b 4) (last b)

module _ (m : ℕ) (b : List ℕ) (longer : m ≤ length b) where
  -- a body that lies in the prefix is whole there
  whole_take : (size : ℕ) {g h : Record} → size ≤ m → g ≡ h → whole size (take m b) g ≡ whole size b h
  whole_take size k e =
      let l = length-take-le m b longer in
      simp (le-ltb (length (take m b)) size (omega arith), le-ltb (length b) size (omega arith)) e

  -- so the record is the same: a head
  head_take : (g : Bool) → 18 ≤ m → whole 18 (take m b) (rec.Head (head_body g (take m b))) ≡ whole 18 b (rec.Head (head_body g b))
  head_take g k =
      whole_take 18 k
      (λ i. rec.Head (record {
        grouped = g;
        job = word4_take m b 0 (omega arith) i;
        runs = word2_take m b 4 (omega arith) i;
        trench = word4_take m b 6 (omega arith) i;
        saved = word4_take m b 10 (omega arith) i;
        pits = word2_take m b 14 (omega arith) i;
        last = word2_take m b 16 (omega arith) i;
      }))

  -- a route
  route_take : (g : Bool) (last : List ℕ → ℕ) (size : ℕ) → 6 ≤ size → size ≤ m → last (take m b) ≡ last b
      → whole size (take m b) (route_with g last (take m b)) ≡ whole size b (route_with g last b)
  route_take g last size h k e =
      whole_take size k
      (λ i. rec.Route g (word2_take m b 0 (omega arith) i) (word2_take m b 2 (omega arith) i) (word2_take m b 4 (omega arith) i) (e i))

  -- a corner
  corner_take : 8 ≤ m → whole 8 (take m b) (rec.Corner (word4 (take m b) 0) (word4 (take m b) 4)) ≡ whole 8 b (rec.Corner (word4 b 0) (word4 b 4))
  corner_take k = whole_take 8 k (λ i. rec.Corner (word4_take m b 0 (omega arith) i) (word4_take m b 4 (omega arith) i))

  -- an end
  end_take : 2 ≤ m → whole 2 (take m b) (rec.End (word2 (take m b) 0)) ≡ whole 2 b (rec.End (word2 b 0))
  end_take k = whole_take 2 k (λ i. rec.End (word2_take m b 0 (omega arith) i))

  -- every record, where the prefix holds a head
  decoded_take : 18 ≤ m → (kind : ℕ) → decoded kind (take m b) ≡ decoded kind b
  unfolding decoded
  decoded_take k kind =
      each_side ◌≡◌ (eqb kind 0x51) (head_take true k)
      (each_side ◌≡◌ (eqb kind 0x50) (head_take false k)
      (each_side ◌≡◌ (eqb kind 0x4F) (route_take true (λ l. word2 l 6) 8 (omega arith) (omega arith) (word2_take m b 6 (omega arith)))
      (each_side ◌≡◌ (eqb kind 0x4E) (route_take false (λ l. 0) 6 (omega arith) (omega arith) refl)
      (each_side ◌≡◌ (eqb kind 0x43) (corner_take (omega arith)) (each_side ◌≡◌ (eqb kind 0x5A) (end_take (omega arith)) refl)))))

-- the record that a longer list begins with
record_take : (m : ℕ) (b : List ℕ) → 19 ≤ m → m < length b → record_of (take m b) ≡ record_of b
unfolding record_of
record_take m [] enough longer = absurd (omega arith)
record_take zero (kind ∷ b) enough longer = absurd (omega arith)
record_take (suc m) (kind ∷ b) enough longer = decoded_take m b (omega arith) (omega arith) kind

-- ---- the steps

-- how many bytes a step looks at
record Enough (w : Walk) (m : ℕ) : Type 0 where
  of_end : 4 ≤ m
  of_route : w.routes < 32 → 9 ≤ m
  of_corner : 0 < w.routes → w.corners < 127 → 9 ≤ m

module _ (at : ℕ) (w : Walk) where
  -- more than 3 bytes are as good as more than 3 others
  left_same : (k l : ℕ) (g : Record) → 3 < k → 3 < l → step_by at w k g ≡ step_by at w l g
  unfolding step_by
  left_same k l (rec.Head h) i j = refl
  left_same k l (rec.Route g number meets said centre) i j = refl
  left_same k l (rec.Corner x y) i j = refl
  left_same k l (rec.End total) i j = simp (lt-ltb 3 k i, lt-ltb 3 l j)
  left_same k l rec.Other i j = refl

  -- a record that is refused as not whole is refused so where it is cut off
  cut : (left : ℕ) (t : Bool) (g : Record) → step_by at w left g ≡ Err (NotWhole at)
      → step_by at w left (cond t rec.Other g) ≡ Err (NotWhole at)
  unfolding step_by
  cut left true g e = refl
  cut left false g e = e

  module _ (m : ℕ) (kind : ℕ) (b : List ℕ) (enough : Enough w (suc m)) (longer : m < length b) where
    -- the two steps are the same
    abbrev Same : Record → Record → Type 0
    Same g h = step_by at w (suc (length (take m b))) g ≡ step_by at w (suc (length b)) h

    -- of one record
    same_record : {g h : Record} → g ≡ h → Same g h
    same_record {g} {h} e =
        let l = length-take-le m b (omega arith) in
        let k = enough.of_end in
        ap (step_by at w (suc (length (take m b)))) e ∙ left_same (suc (length (take m b))) (suc (length b)) h (omega arith) (omega arith)

    -- of two that are refused as not whole, cut off or not
    same_refused : (size : ℕ) (g h : Record) → step_by at w (suc (length (take m b))) g ≡ Err (NotWhole at)
        → step_by at w (suc (length b)) h ≡ Err (NotWhole at) → Same (whole size (take m b) g) (whole size b h)
    same_refused size g h e f =
        cut (suc (length (take m b))) (ltb (length (take m b)) size) g e ∙ sym (cut (suc (length b)) (ltb (length b) size) h f)

    -- of a route: either it is of the other set, or there is no room for one more, or it lies in the prefix
    same_route : (g : Bool) (last : List ℕ → ℕ) (size : ℕ) → 6 ≤ size → size ≤ 8 → (size ≤ m → last (take m b) ≡ last b)
        → Same (whole size (take m b) (route_with g last (take m b))) (whole size b (route_with g last b))
    unfolding step_by
    same_route g last size some most f = go (mixed g w.grouped || leb 32 w.routes) refl
      where
        go : (t : Bool) → (mixed g w.grouped || leb 32 w.routes) ≡ t
            → Same (whole size (take m b) (route_with g last (take m b))) (whole size b (route_with g last b))
        go true e = same_refused size _ _ (simp e) (simp e)
        go false e =
            let k = enough.of_route (leb-false 32 w.routes (neither (mixed g w.grouped) (leb 32 w.routes) e).1) in
            same_record (route_take m b (omega arith) g last size some (omega arith) (f (omega arith)))

    -- of a corner, likewise
    same_corner : Same (whole 8 (take m b) (rec.Corner (word4 (take m b) 0) (word4 (take m b) 4))) (whole 8 b (rec.Corner (word4 b 0) (word4 b 4)))
    unfolding step_by corner_step
    same_corner = go (eqb w.routes 0 || leb 127 w.corners) refl
      where
        go : (t : Bool) → (eqb w.routes 0 || leb 127 w.corners) ≡ t
            → Same (whole 8 (take m b) (rec.Corner (word4 (take m b) 0) (word4 (take m b) 4))) (whole 8 b (rec.Corner (word4 b 0) (word4 b 4)))
        go true e = same_refused 8 _ _ (simp e) (simp e)
        go false e =
            let (r, c) = neither (eqb w.routes 0) (leb 127 w.corners) e in
            let n = eqb-false w.routes 0 r in
            let k = enough.of_corner (omega (arith, n)) (leb-false 127 w.corners c) in
            same_record (corner_take m b (omega arith) (omega arith))

    -- of any record
    same_step_lem : Same (decoded kind (take m b)) (decoded kind b)
    unfolding decoded step_by
    same_step_lem =
        each_side Same (eqb kind 0x51) (same_refused 18 _ _ refl refl)
        (each_side Same (eqb kind 0x50) (same_refused 18 _ _ refl refl)
        (each_side Same (eqb kind 0x4F) (same_route true (λ l. word2 l 6) 8 (omega arith) (omega arith) (λ k. word2_take m b 6 (omega arith)))
        (each_side Same (eqb kind 0x4E) (same_route false (λ l. 0) 6 (omega arith) (omega arith) (λ k. refl))
        (each_side Same (eqb kind 0x43) same_corner
        (each_side Same (eqb kind 0x5A) (same_record (end_take m b (omega arith) (omega (arith, enough.of_end)))) refl)))))

  -- a prefix that is long enough has the same step
  step_longer : (m : ℕ) (b : List ℕ) → Enough w m → m < length b → step_of at w (take m b) ≡ step_of at w b
  unfolding record_of
  step_longer m [] enough longer = absurd (omega arith)
  step_longer zero (kind ∷ b) enough longer = absurd (omega (arith, enough.of_end))
  step_longer (suc m) (kind ∷ b) enough longer = same_step_lem m kind b enough (omega arith)

  -- the same of every list
  step_take : (m : ℕ) (b : List ℕ) → Enough w m → step_of at w (take m b) ≡ step_of at w b
  step_take m b enough = by_length (step_of at w) m b (step_longer m b enough)

-- ---- the rest of a book

-- how far from the front a record is looked at
record Near (at : ℕ) (w : Walk) : Type 0 where
  few : w.routes ≤ 32
  behind : at ≤ 19 + 1152 * w.routes
  inside : 0 < w.routes → at + 9 * 127 ≤ 19 + 1152 * w.routes + 9 * w.corners

-- the prefix holds what a step looks at
near_enough : (at m : ℕ) (w : Walk) → Near at w → 36887 ≤ at + m → Enough w m
near_enough at m w n h =
    record { of_end = omega (arith, n.few, n.behind); of_route = λ k. omega (arith, n.behind); of_corner = λ k c. omega (arith, n.few, n.inside k) }

-- the rest of a prefix is read as that of the whole, with fuel enough for each
rest_take : (f g at : ℕ) (w : Walk) (m : ℕ) (b : List ℕ) → length (take m b) < f → length b < g → Near at w → 36887 ≤ at + m
    → rest_from f at w (take m b) ≡ rest_from g at w b
unfolding rest_from
rest_take zero g at w m b i j n h = absurd (omega arith)
rest_take (suc f) zero at w m b i j n h = absurd (omega arith)
rest_take (suc f) (suc g) at w m b i j n h =
    ap (proceed (rest_from f) at w (take m b)) (step_take at w m b (near_enough at m w n h))
    ∙ go (step_of at w b) (step_took at w b)
    (λ k v l p q.
    let d = length-drop k b in
    ap (rest_from f (at + k) v) (drop_take k m b)
    ∙ rest_take f g (at + k) v (m - k) (drop k b) (omega (arith, length-take m b, length-take (m - k) (drop k b))) (omega arith) q (omega arith))
  where
    go : (s : Result Step Refusal) → Took b w (record_of b) s
        → ((k : ℕ) (v : Walk) → 0 < k → k ≤ length b → Near (at + k) v → rest_from f (at + k) v (drop k (take m b)) ≡ rest_from g (at + k) v (drop k b))
        → proceed (rest_from f) at w (take m b) s ≡ proceed (rest_from g) at w b s
    go (Ok (step.Route r)) t later =
        let (some, most) = route_size_lem w.grouped in
        ap (with_route r)
        (later (route_size w.grouped) (begun w) (omega arith) t.long
        (record { few = omega (arith, t.room); behind = omega (arith, n.behind); inside = λ _. omega (arith, n.behind) }))
    go (Ok (step.Corner c)) t later =
        let near = n.inside t.begun in
        ap (with_corner c)
        (later 9 (passed w c) (omega arith) t.long (record { few = n.few; behind = omega (arith, t.room); inside = λ _. omega arith }))
    go (Ok (step.End total)) t later = refl
    go (Err x) t later = refl

-- ---- the book

-- the first byte of a prefix
first_take : (n : ℕ) (s : List ℕ) → 0 < n → get_or (take n s) 0 0 ≡ get_or s 0 0
first_take zero s h = absurd (omega arith)
first_take (suc n) [] h = refl
first_take (suc n) (b ∷ s) h = refl

-- no byte after the first 36,887 changes what is read
pub parse_prefix : (n : ℕ) (s : List ℕ) → 36887 ≤ n → parse_plan (take n s) ≡ parse_plan s
unfolding parse_plan
parse_prefix n s h =
    ap₂ parse_by (by_length record_of n s (record_take n s (omega arith)))
    (ap₂ (λ (k : ℕ) l. rest_from (suc (length (take n s))) 19 (start (eqb k 0x51)) l) (first_take n s (omega arith)) (drop_take 19 n s)
    ∙ rest_take (suc (length (take n s))) (suc (length s)) 19 (start (is_grouped s)) (n - 19) (drop 19 s)
    (omega (arith, length-take n s, length-take (n - 19) (drop 19 s), length-drop 19 s)) (omega (arith, length-drop 19 s))
    (record { few = omega arith; behind = omega arith; inside = λ k. absurd (omega arith) }) (omega arith))
