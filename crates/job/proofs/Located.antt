-- Where a refusal that applies stands, seen from a record that the reader has come to. Every run before it is right (`Passed`), so nothing
-- applies before its place (`locate`): it is wrong itself, or what applies stands behind it. So what is wrong with it is the first that applies
-- where nothing else that is wrong with it has an earlier turn (`first_here`).
-- Assumes nothing.
use Prim.Native.Nat.{ℕ, zero, suc, ◌+◌, ◌≤◌, ◌<◌}
use mathlib.Core.Path.{◌≡◌, refl, sym, ap, ◌∙◌}
use mathlib.Core.Logic.{◌⊎◌, inl, inr}
use mathlib.Core.List.{List}
use native.Mathlib.Omega.{arith}
use lib.ListN.{length, get_or}
use Rattle.refusal.specs.declared.Refusal.{Refusal}
use Rattle.refusal.specs.declared.Refusal.TheVariants.{Cut, UnknownKind, Misplaced, WrongCount, WrongNumber, OutOfRange, TooManyRuns, Coincident}
use Rattle.refusal.specs.Refusal.{refusal_place}
use Rattle.job.specs.Applies.{head, run, end, Starts, Whole, place, Behind, number_at, coordinate_at, AppliesIn, cut_inside, cut_before_end, unknown_kind, no_head, second_head, after_end, wrong_count, number_zero, number_above, not_rising, out_of_range, run_33, coincident}
use Rattle.job.specs.Order.{stage_of, turn_of, Sooner, by_stage, by_place, by_turn, FirstOf}
use Rattle.job.specs.Written.{Coincide}
use Rattle.job.proofs.Decoded.{CutAt, inside, before_end, UnknownAt}
use Rattle.job.proofs.There.{run_at, whole_uncut, whole_known}
use Rattle.job.proofs.Order.{InOrder, either_way}

-- ---- what is wrong with a record

-- the number of the run at p, behind n runs, is wrong
pub data WrongNumberAt (s : List ℕ) (n p : ℕ) : Type 0 where
  is_zero : number_at s p ≡ 0 → WrongNumberAt s n p
  above : 9999 < number_at s p → WrongNumberAt s n p
  not_above : (m : ℕ) → n ≡ suc m → number_at s p ≤ number_at s (place m) → WrongNumberAt s n p

-- one of its coordinates is out of its range
pub record OutOfRangeAt (s : List ℕ) (p : ℕ) : Type 0 where
  pub which : ℕ
  pub one : which < 4
  pub far : 2000000 < coordinate_at s p which

-- what a refusal says of the record at p, behind n runs
pub data Here (s : List ℕ) (n p : ℕ) : Refusal → Type 0 where
  cut_here : {q : ℕ} → CutAt s p → Here s n p (Cut q)
  unknown_here : {q : ℕ} → UnknownAt s p → Here s n p (UnknownKind q)
  head_here : {q : ℕ} → Starts head s p → Here s n p (Misplaced q)
  count_here : {q : ℕ} → Whole end s p → (number_at s p ≡ n → ⊥) → Here s n p (WrongCount q)
  number_here : {q : ℕ} → Whole run s p → WrongNumberAt s n p → Here s n p (WrongNumber q)
  range_here : {q : ℕ} → Whole run s p → OutOfRangeAt s p → Here s n p (OutOfRange q)
  run_33_here : {q : ℕ} → n ≡ 32 → Starts run s p → Here s n p (TooManyRuns q)
  points_here : {q : ℕ} → Whole run s p → Coincide (run_at s p) → Here s n p (Coincident q)

module _ (s : List ℕ) (n p : ℕ) (b : Behind s n p) where
  -- 3 applies where the bytes end inside the record, or before it
  cut_applies : CutAt s p → AppliesIn s (Cut p)
  cut_applies (inside k h l) = cut_inside k (inr (n, b)) h l
  cut_applies (before_end e) = rw e (cut_before_end (inr (n, rw e at b)))

  -- 7 applies where it is a run with a wrong number
  number_applies : Whole run s p → WrongNumberAt s n p → AppliesIn s (WrongNumber p)
  number_applies w (is_zero e) = number_zero b w e
  number_applies w (above l) = number_above b w l
  number_applies w (not_above m e l) = not_rising (rw e at b) w l

  -- what is wrong with a record that begins is a refusal that applies at its place
  applies_here : (x : Refusal) → p ≡ refusal_place x → Here s n p x → AppliesIn s x
  applies_here x e (cut_here c) = rw (← e) (cut_applies c)
  applies_here x e (unknown_here u) = rw (← e) (unknown_kind (inr (n, b)) u.within u.none)
  applies_here x e (head_here h) = rw (← e) (second_head b h)
  applies_here x e (count_here w d) = rw (← e) (wrong_count b w d)
  applies_here x e (number_here w d) = rw (← e) (number_applies w d)
  applies_here x e (range_here w d) = rw (← e) (out_of_range d.which b w d.one d.far)
  applies_here x e (run_33_here m r) = rw (← e) (run_33 (rw m at b) r)
  applies_here x e (points_here w d) = rw (← e) (coincident b w d.0 d.1)

-- what applies where a head stands first: a record behind it is wrong, or a byte stands behind the end
data Found (s : List ℕ) (x : Refusal) : Type 0 where
  nth : (n p : ℕ) → Behind s n p → refusal_place x ≡ p → Here s n p x → Found s x
  after : (n p : ℕ) → Behind s n p → Whole end s p → x ≡ Misplaced (p + 3) → p + 3 < length s → Found s x

-- every refusal that applies is one of the two
found : (s : List ℕ) → Whole head s 0 → (x : Refusal) → AppliesIn s x → Found s x
found s w x (cut_inside {p} k (inl e) h l) = let c : CutAt s p = inside k h l in absurd (whole_uncut head s 0 w (rw e at c))
found s w x (cut_inside k (inr (n, b)) h l) = nth n _ b refl (cut_here (inside k h l))
found s w x (cut_before_end (inl e)) = absurd (omega (arith, w.1))
found s w x (cut_before_end (inr (n, b))) = nth n _ b refl (cut_here (before_end refl))
found s w x (unknown_kind (inl e) l f) = absurd (f head (ap (λ (i : ℕ). get_or s i 0) e ∙ w.0.1))
found s w x (unknown_kind (inr (n, b)) l f) = nth n _ b refl (unknown_here (record { within = l; none = f }))
found s w x (no_head l f) = absurd (f w.0.1)
found s w x (second_head b h) = nth _ _ b refl (head_here h)
found s w x (after_end b h l) = after _ _ b h refl l
found s w x (wrong_count b h d) = nth _ _ b refl (count_here h d)
found s w x (number_zero b h e) = nth _ _ b refl (number_here h (is_zero e))
found s w x (number_above b h l) = nth _ _ b refl (number_here h (above l))
found s w x (not_rising b h l) = nth _ _ b refl (number_here h (not_above _ refl l))
found s w x (out_of_range i b h l f) = nth _ _ b refl (range_here h (record { which = i; one = l; far = f }))
found s w x (run_33 b h) = nth 32 _ b refl (run_33_here refl h)
found s w x (coincident b h d e) = nth _ _ b refl (points_here h (d, e))

-- all refusals of the bytes are of one stage
pub one_stage : (s : List ℕ) (x : Refusal) → AppliesIn s x → stage_of x ≡ stage_of (Cut 0)
one_stage s x (cut_inside k b h l) = refl
one_stage s x (cut_before_end b) = refl
one_stage s x (unknown_kind b l f) = refl
one_stage s x (no_head l f) = refl
one_stage s x (second_head b h) = refl
one_stage s x (after_end b h l) = refl
one_stage s x (wrong_count b h d) = refl
one_stage s x (number_zero b h e) = refl
one_stage s x (number_above b h l) = refl
one_stage s x (not_rising b h l) = refl
one_stage s x (out_of_range i b h l f) = refl
one_stage s x (run_33 b h) = refl
one_stage s x (coincident b h d e) = refl

-- so it stands in the order
pub in_order : (s : List ℕ) (x : Refusal) → AppliesIn s x → InOrder x
in_order s x a = omega (arith, one_stage s x a)

-- ---- the runs before a record are right

-- the number of the last of n runs, 0 where there is none
abbrev pub last_number : List ℕ → ℕ → ℕ
last_number s zero = 0
last_number s (suc m) = number_at s (place m)

-- nothing is wrong with run i but that it may be one too many
pub record Right (s : List ℕ) (i : ℕ) : Type 0 where
  pub numbered : WrongNumberAt s i (place i) → ⊥
  pub ranged : OutOfRangeAt s (place i) → ⊥
  pub apart : Coincide (run_at s (place i)) → ⊥

-- the reader has passed a head and n runs, all of them right, the last of them with the number last, and stands at p
pub record Passed (s : List ℕ) (n p last : ℕ) : Type 0 where
  pub behind : Behind s n p
  pub most : n ≤ 32
  pub is_last : last ≡ last_number s n
  pub right : (i : ℕ) → i < n → Right s i

-- where a refusal that applies stands, seen from the record at p: there, behind it where it is a run, or just behind it where it is an end
pub data Located (s : List ℕ) (n p : ℕ) (x : Refusal) : Type 0 where
  here : refusal_place x ≡ p → Here s n p x → Located s n p x
  later : p < refusal_place x → Whole run s p → Located s n p x
  behind : x ≡ Misplaced (p + 3) → Whole end s p → p + 3 < length s → Located s n p x

-- a run is no head
pub run_head : (s : List ℕ) (p : ℕ) → Whole run s p → Starts head s p → ⊥
run_head s p w h = omega (arith, w.0.1, h.1)

-- nor an end
pub run_end : (s : List ℕ) (p : ℕ) → Whole run s p → Starts end s p → ⊥
run_end s p w h = omega (arith, w.0.1, h.1)

module _ (s : List ℕ) (n p last : ℕ) (h : Passed s n p last) where
  -- nothing is wrong with a run that was passed
  settled : (m : ℕ) → m < n → (x : Refusal) → Here s m (place m) x → ⊥
  settled m l x (cut_here c) = whole_uncut run s (place m) (h.behind.runs m l) c
  settled m l x (unknown_here u) = whole_known run s (place m) (h.behind.runs m l) u
  settled m l x (head_here d) = run_head s (place m) (h.behind.runs m l) d
  settled m l x (count_here w d) = run_end s (place m) (h.behind.runs m l) w.0
  settled m l x (number_here w d) = (h.right m l).numbered d
  settled m l x (range_here w d) = (h.right m l).ranged d
  settled m l x (run_33_here e r) = omega (arith, e, h.most)
  settled m l x (points_here w d) = (h.right m l).apart d

  -- the run at p, where the bytes go on behind it
  run_here : (m q : ℕ) → Behind s m q → n < m → Whole run s p
  run_here m q b l = rw h.behind.at (b.runs n l)

  -- a record that is wrong is the one at p, or behind it
  locate_nth : (m q : ℕ) → Behind s m q → (x : Refusal) → refusal_place x ≡ q → Here s m q x → Located s n p x
  locate_nth m q b x e d = go (either_way m n)
    where
      go : (m < n) ⊎ ((m ≡ n) ⊎ (n < m)) → Located s n p x
      go (inl l) = absurd (settled m l x (rw b.at at d))
      go (inr (inl l)) =
          let k : q ≡ p = omega (arith, b.at, h.behind.at) in
          here (e ∙ k) (rw (l, k) at d)
      go (inr (inr l)) = later (omega (arith, b.at, h.behind.at)) (run_here m q b l)

  -- so is a byte behind an end
  locate_after : (m q : ℕ) → Behind s m q → Whole end s q → (x : Refusal) → x ≡ Misplaced (q + 3) → q + 3 < length s → Located s n p x
  locate_after m q b w x e f = go (either_way m n)
    where
      go : (m < n) ⊎ ((m ≡ n) ⊎ (n < m)) → Located s n p x
      go (inl l) = absurd (run_end s (place m) (h.behind.runs m l) (rw b.at at w.0))
      go (inr (inl l)) =
          let k : q ≡ p = omega (arith, b.at, h.behind.at) in
          behind (rw k at e) (rw k at w) (rw k at f)
      go (inr (inr l)) = later (omega (arith, b.at, h.behind.at, ap refusal_place e)) (run_here m q b l)

  -- nothing applies before p
  pub locate : (x : Refusal) → AppliesIn s x → Located s n p x
  locate x a = go (found s h.behind.headed x a)
    where
      go : Found s x → Located s n p x
      go (nth m q b e d) = locate_nth m q b x e d
      go (after m q b w e l) = locate_after m q b w x e l

  -- what is wrong with the record at p is the first that applies, if nothing else that is wrong with it has an earlier turn
  pub first_here : (x : Refusal) → refusal_place x ≡ p → Here s n p x → ((y : Refusal) → Here s n p y → turn_of x ≤ turn_of y) → FirstOf (AppliesIn s) x
  first_here x e d least = record { applies = a; first = λ y b q. go y (one_stage s y b) (locate y b) q }
    where
      a : AppliesIn s x
      a = applies_here s n p h.behind x (sym e) d

      go : (y : Refusal) → stage_of y ≡ stage_of (Cut 0) → Located s n p y → Sooner y x → ⊥
      go y g (here k c) (by_stage l) = omega (arith, one_stage s x a)
      go y g (here k c) (by_place t l) = omega arith
      go y g (here k c) (by_turn t r l) = omega (arith, least y c)
      go y g (later k w) (by_stage l) = omega (arith, one_stage s x a)
      go y g (later k w) (by_place t l) = omega arith
      go y g (later k w) (by_turn t r l) = omega arith
      go y g (behind k w f) (by_stage l) = omega (arith, one_stage s x a)
      go y g (behind k w f) (by_place t l) = omega (arith, ap refusal_place k)
      go y g (behind k w f) (by_turn t r l) = omega (arith, ap refusal_place k)
