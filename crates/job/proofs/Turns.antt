-- A record in its turn: the reader makes its tests in the order of the turns, so what it refuses has the earliest turn of all that is wrong with
-- the record; a run that passes them is right, and behind an end that passes them nothing applies.
-- Assumes nothing.
use Prim.Native.Nat.{ℕ, zero, suc, ◌+◌, ◌≤◌, ◌<◌}
use mathlib.Core.Path.{◌≡◌, refl, ap, ◌∙◌, subst}
use mathlib.Core.Logic.{◌⊎◌, inl, inr}
use mathlib.Core.List.{List}
use mathlib.Core.Bool.{Bool, true, false, not, ◌&&◌}
use native.Mathlib.Omega.{arith}
use borrow.Author.Tests.{ltb-true, ltb-false, leb-true, leb-false, eqb-true, eqb-false, not-true, not-false}
use lib.Dec.{leb, ltb, eqb}
use lib.ListN.{length, drop, length-drop}
use Rattle.job.specs.declared.Record.{Record}
use Rattle.job.specs.declared.Record.TheVariants as rec
use Rattle.refusal.specs.declared.Refusal.{Refusal}
use Rattle.refusal.specs.declared.Refusal.TheVariants.{Cut, UnknownKind, Misplaced, WrongCount, WrongNumber, OutOfRange, TooManyRuns, Coincident}
use Rattle.std.specs.Prelude.{Some, None, Ok, Err}
use Rattle.job.specs.Applies.{Kind, head, run, end, Whole, place, number_at, coordinate_at, AppliesIn, after_end}
use Rattle.job.specs.Order.{turn_of, Sooner, FirstOf}
use Rattle.job.specs.Parse.{Step, follows, coordinates_in, coincide, run_step, end_step, step_by}
use Rattle.job.specs.Written.{Coincide}
use Rattle.job.proofs.Decoded.{by_test, CutAt, UnknownAt}
use Rattle.job.proofs.Steps.{Follows, follows_true, Coordinates, coordinates_true, coincide_true, coincide_false}
use Rattle.job.proofs.There.{run_at, There, whole_uncut, whole_known, cut_known}
use Rattle.job.proofs.Located.{WrongNumberAt, is_zero, above, not_above, OutOfRangeAt, Here, cut_here, unknown_here, head_here, count_here, number_here, range_here, run_33_here, points_here, last_number, Right, Passed, Located, here, later, behind, run_head, run_end, locate, first_here}
use Rattle.job.proofs.Order.{either_way, sooner_self}

-- ---- the tests of a run

-- two tests that do not both hold
not_both : (a b : Bool) → a && b ≡ false → (a ≡ false) ⊎ (b ≡ false)
not_both true b e = inr e
not_both false b e = inl refl

module _ (s : List ℕ) (n p last : ℕ) (is_last : last ≡ last_number s n) where
  -- a number that passes the test is right
  number_right : Follows last (number_at s p) → WrongNumberAt s n p → ⊥
  number_right f (is_zero e) = omega (arith, f.least)
  number_right f (above g) = omega (arith, f.most)
  number_right f (not_above k e g) = omega (arith, f.rises, is_last ∙ ap (last_number s) e)

  -- a number that is not above the last is 0 or not above the one before
  not_above_last : (m : ℕ) → last ≡ last_number s m → n ≡ m → number_at s p ≤ last → WrongNumberAt s n p
  not_above_last zero e k l = is_zero (omega (arith, e))
  not_above_last (suc m) e k l = not_above m k (omega (arith, e))

  -- a number that does not pass it is wrong
  number_wrong : follows last (number_at s p) ≡ false → WrongNumberAt s n p
  number_wrong t = go (not_both (leb 1 (number_at s p) && leb (number_at s p) 9999) (ltb last (number_at s p)) t)
    where
      low : (leb 1 (number_at s p) ≡ false) ⊎ (leb (number_at s p) 9999 ≡ false) → WrongNumberAt s n p
      low (inl e) = is_zero (omega (arith, leb-false 1 (number_at s p) e))
      low (inr e) = above (leb-false _ _ e)

      go : (leb 1 (number_at s p) && leb (number_at s p) 9999 ≡ false) ⊎ (ltb last (number_at s p) ≡ false) → WrongNumberAt s n p
      go (inl e) = low (not_both (leb 1 (number_at s p)) (leb (number_at s p) 9999) e)
      go (inr e) = not_above_last n is_last refl (ltb-false _ _ e)

module _ (s : List ℕ) (p : ℕ) where
  -- coordinates that pass the test are in their range
  range_right : Coordinates (run_at s p) → OutOfRangeAt s p → ⊥
  range_right f w = go w.which w.one w.far
    where
      go : (i : ℕ) → i < 4 → 2000000 < coordinate_at s p i → ⊥
      go zero l g = omega (arith, f.x1_in)
      go (suc zero) l g = omega (arith, f.y1_in)
      go (suc (suc zero)) l g = omega (arith, f.x2_in)
      go (suc (suc (suc zero))) l g = omega (arith, f.y2_in)
      go (suc (suc (suc (suc i)))) l g = omega arith

  -- coordinates that do not pass it are not
  range_wrong : coordinates_in (run_at s p) ≡ false → OutOfRangeAt s p
  range_wrong t = four (not_both (ok 0 && ok 1 && ok 2) (ok 3) t)
    where
      ok : ℕ → Bool
      ok i = leb (coordinate_at s p i) 2000000

      out : (i : ℕ) → i < 4 → ok i ≡ false → OutOfRangeAt s p
      out i l e = record { which = i; one = l; far = leb-false _ _ e }

      two : (ok 0 ≡ false) ⊎ (ok 1 ≡ false) → OutOfRangeAt s p
      two (inl e) = out 0 (omega arith) e
      two (inr e) = out 1 (omega arith) e

      three : (ok 0 && ok 1 ≡ false) ⊎ (ok 2 ≡ false) → OutOfRangeAt s p
      three (inl e) = two (not_both (ok 0) (ok 1) e)
      three (inr e) = out 2 (omega arith) e

      four : (ok 0 && ok 1 && ok 2 ≡ false) ⊎ (ok 3 ≡ false) → OutOfRangeAt s p
      four (inl e) = three (not_both (ok 0 && ok 1) (ok 2) e)
      four (inr e) = out 3 (omega arith) e

-- ---- each record in its turn

-- what a step says: one more run is passed, nothing applies, or the first that applies
abbrev pub Told : List ℕ → (n p : ℕ) → Step → Type 0
Told s n p (Ok (Some r)) = Passed s (suc n) (p + 19) r.number
Told s n p (Ok None) = (x : Refusal) → AppliesIn s x → ⊥
Told s n p (Err x) = FirstOf (AppliesIn s) x

-- what is wrong with a record, by its turn: 4, or 3, or a later one
pub data Sorted (s : List ℕ) (p : ℕ) (x : Refusal) : Type 0 where
  unknown : turn_of x ≡ turn_of (UnknownKind p) → UnknownAt s p → Sorted s p x
  cut : turn_of x ≡ turn_of (Cut p) → CutAt s p → Sorted s p x
  rest : turn_of (Misplaced p) ≤ turn_of x → Sorted s p x

module _ (s : List ℕ) (p : ℕ) where
  -- nothing comes before 4
  pub least_four : (y : Refusal) → Sorted s p y → turn_of (UnknownKind p) ≤ turn_of y
  least_four y (unknown t e) = omega arith
  least_four y (cut t e) = omega arith
  least_four y (rest t) = omega arith

  -- only 4 comes before 3, and bytes that end too soon are of a known kind
  pub least_three : CutAt s p → (y : Refusal) → Sorted s p y → turn_of (Cut p) ≤ turn_of y
  least_three c y (unknown t e) = absurd (cut_known s p c e)
  least_three c y (cut t e) = omega arith
  least_three c y (rest t) = omega arith

  -- only 4 and 3 come before 5, and a whole record has neither
  pub least_five : (k : Kind) → Whole k s p → (y : Refusal) → Sorted s p y → turn_of (Misplaced p) ≤ turn_of y
  least_five k w y (unknown t e) = absurd (whole_known k s p w e)
  least_five k w y (cut t e) = absurd (whole_uncut k s p w e)
  least_five k w y (rest t) = t

  -- whatever is wrong with a record behind n runs has its turn
  sort : (n : ℕ) (y : Refusal) → Here s n p y → Sorted s p y
  sort n y (cut_here c) = cut refl c
  sort n y (unknown_here u) = unknown refl u
  sort n y (head_here h) = rest (omega arith)
  sort n y (count_here w d) = rest (omega arith)
  sort n y (number_here w d) = rest (omega arith)
  sort n y (range_here w d) = rest (omega arith)
  sort n y (run_33_here m r) = rest (omega arith)
  sort n y (points_here w d) = rest (omega arith)

-- what can be wrong with a whole run
data RunFault (s : List ℕ) (n p : ℕ) (x : Refusal) : Type 0 where
  too_many : turn_of x ≡ turn_of (TooManyRuns p) → n ≡ 32 → RunFault s n p x
  misnumbered : turn_of x ≡ turn_of (WrongNumber p) → WrongNumberAt s n p → RunFault s n p x
  ranging : turn_of x ≡ turn_of (OutOfRange p) → OutOfRangeAt s p → RunFault s n p x
  pointing : turn_of x ≡ turn_of (Coincident p) → RunFault s n p x

module _ (s : List ℕ) (n p last : ℕ) (h : Passed s n p last) where
  -- a whole run can only be one too many, or have a wrong number, a coordinate out of range, or points that coincide
  run_fault : Whole run s p → (y : Refusal) → Here s n p y → RunFault s n p y
  run_fault w y (cut_here c) = absurd (whole_uncut run s p w c)
  run_fault w y (unknown_here u) = absurd (whole_known run s p w u)
  run_fault w y (head_here d) = absurd (run_head s p w d)
  run_fault w y (count_here v d) = absurd (run_end s p w v.0)
  run_fault w y (number_here v d) = misnumbered refl d
  run_fault w y (range_here v d) = ranging refl d
  run_fault w y (run_33_here m r) = too_many refl m
  run_fault w y (points_here v d) = pointing refl

  -- a whole end can only have a wrong count
  end_fault : Whole end s p → (y : Refusal) → Here s n p y → (turn_of (WrongCount p) ≤ turn_of y) × (number_at s p ≡ n → ⊥)
  end_fault w y (cut_here c) = absurd (whole_uncut end s p w c)
  end_fault w y (unknown_here u) = absurd (whole_known end s p w u)
  end_fault w y (head_here d) = absurd (omega (arith, w.0.1, d.1))
  end_fault w y (count_here v d) = (omega arith, d)
  end_fault w y (number_here v d) = absurd (run_end s p v w.0)
  end_fault w y (range_here v d) = absurd (run_end s p v w.0)
  end_fault w y (run_33_here m r) = absurd (omega (arith, w.0.1, r.1))
  end_fault w y (points_here v d) = absurd (run_end s p v w.0)

  -- of what can be wrong with a run, 9 comes first
  least_nine : (y : Refusal) → RunFault s n p y → turn_of (TooManyRuns p) ≤ turn_of y
  least_nine y (too_many t e) = omega arith
  least_nine y (misnumbered t e) = omega arith
  least_nine y (ranging t e) = omega arith
  least_nine y (pointing t) = omega arith

  -- then 7
  least_seven : n < 32 → (y : Refusal) → RunFault s n p y → turn_of (WrongNumber p) ≤ turn_of y
  least_seven l y (too_many t e) = absurd (omega arith)
  least_seven l y (misnumbered t e) = omega arith
  least_seven l y (ranging t e) = omega arith
  least_seven l y (pointing t) = omega arith

  -- then 8
  least_eight : n < 32 → (WrongNumberAt s n p → ⊥) → (y : Refusal) → RunFault s n p y → turn_of (OutOfRange p) ≤ turn_of y
  least_eight l f y (too_many t e) = absurd (omega arith)
  least_eight l f y (misnumbered t e) = absurd (f e)
  least_eight l f y (ranging t e) = omega arith
  least_eight l f y (pointing t) = omega arith

  -- then 17
  least_seventeen : n < 32 → (WrongNumberAt s n p → ⊥) → (OutOfRangeAt s p → ⊥) → (y : Refusal) → RunFault s n p y → turn_of (Coincident p) ≤ turn_of y
  least_seventeen l f g y (too_many t e) = absurd (omega arith)
  least_seventeen l f g y (misnumbered t e) = absurd (f e)
  least_seventeen l f g y (ranging t e) = absurd (g e)
  least_seventeen l f g y (pointing t) = omega arith

  -- one more run that is right
  passed_more : Whole run s p → n < 32 → (WrongNumberAt s n p → ⊥) → (OutOfRangeAt s p → ⊥) → (Coincide (run_at s p) → ⊥) → Passed s (suc n) (p + 19) (number_at s p)
  passed_more w l f g d =
      let e = h.behind.at in
      record {
        behind = record { at = omega arith; headed = h.behind.headed; runs = λ i m. up_to (λ j. Whole run s (place j)) h.behind.runs (rw e at w) i m };
        most = l;
        is_last = ap (number_at s) e;
        right = up_to (Right s) h.right (record { numbered = rw e at f; ranged = rw e at g; apart = rw e at d });
      }
    where
      up_to : (P : ℕ → Type 0) → ((i : ℕ) → i < n → P i) → P n → (i : ℕ) → i < suc n → P i
      up_to P f g i m = go (either_way i n)
        where
          go : (i < n) ⊎ ((i ≡ n) ⊎ (n < i)) → P i
          go (inl l) = f i l
          go (inr (inl e)) = rw e g
          go (inr (inr l)) = absurd (omega arith)

  -- a run
  run_told : Whole run s p → Told s n p (run_step p n last (run_at s p))
  unfolding run_step
  run_told w =
      by_test (Told s n p) (leb 32 n)
      (λ t. first_here s n p last h (TooManyRuns p) refl (run_33_here (omega (arith, h.most, leb-true 32 n t)) w.0) (λ y d. least_nine y (run_fault w y d)))
      (λ a. by_test (Told s n p) (not (follows last (number_at s p)))
      (λ t. first_here s n p last h (WrongNumber p) refl (number_here w (number_wrong s n p last h.is_last (not-true _ t))) (λ y d. least_seven (leb-false _ _ a) y (run_fault w y d)))
      (λ b.
      let f = number_right s n p last h.is_last (follows_true last (number_at s p) (not-false _ b)) in
      by_test (Told s n p) (not (coordinates_in (run_at s p)))
      (λ t. first_here s n p last h (OutOfRange p) refl (range_here w (range_wrong s p (not-true _ t))) (λ y d. least_eight (leb-false _ _ a) f y (run_fault w y d)))
      (λ c.
      let g = range_right s p (coordinates_true (run_at s p) (not-false _ c)) in
      by_test (Told s n p) (coincide (run_at s p))
      (λ t. first_here s n p last h (Coincident p) refl (points_here w (coincide_true (run_at s p) t)) (λ y d. least_seventeen (leb-false _ _ a) f g y (run_fault w y d)))
      (λ d. passed_more w (leb-false _ _ a) f g (coincide_false (run_at s p) d)))))

  -- an end with which nothing is wrong: whatever applies is the byte behind it
  only_behind : Whole end s p → number_at s p ≡ n → (x : Refusal) → AppliesIn s x → (x ≡ Misplaced (p + 3)) × (p + 3 < length s)
  only_behind w c x a = go (locate s n p last h x a)
    where
      go : Located s n p x → (x ≡ Misplaced (p + 3)) × (p + 3 < length s)
      go (here e d) = absurd ((end_fault w x d).1 c)
      go (later e r) = absurd (run_end s p r w.0)
      go (behind e r f) = (e, f)

  -- an end
  end_told : Whole end s p → Told s n p (end_step p n (number_at s p) (drop p s))
  unfolding end_step
  end_told w =
      by_test (Told s n p) (not (eqb (number_at s p) n))
      (λ t. first_here s n p last h (WrongCount p) refl (count_here w (eqb-false _ _ (not-true _ t))) (λ y d. (end_fault w y d).0))
      (λ a.
      let c = eqb-true (number_at s p) n (not-false _ a) in
      by_test (Told s n p) (ltb 3 (length (drop p s)))
      (λ t. record {
        applies = after_end h.behind w (omega (arith, ltb-true 3 (length (drop p s)) t, length-drop p s));
        first = λ y g q. sooner_self (Misplaced (p + 3)) (subst (λ (z : Refusal). Sooner z (Misplaced (p + 3))) (only_behind w c y g).0 q);
      })
      (λ t x g. omega (arith, (only_behind w c x g).1, ltb-false 3 (length (drop p s)) t, length-drop p s)))

  -- any record
  pub step_told : (g : Record) → There s p g → Told s n p (step_by p n last (drop p s) g)
  unfolding step_by
  step_told rec.Unknown u = first_here s n p last h (UnknownKind p) refl (unknown_here u) (λ y d. least_four s p y (sort s p n y d))
  step_told rec.Cut c = first_here s n p last h (Cut p) refl (cut_here c) (λ y d. least_three s p c y (sort s p n y d))
  step_told (rec.Head number) w = first_here s n p last h (Misplaced p) refl (head_here w.0) (λ y d. least_five s p head w y (sort s p n y d))
  step_told (rec.Run r) (w, e) = rw e (run_told w)
  step_told (rec.End count) (w, e) = rw e (end_told w)
