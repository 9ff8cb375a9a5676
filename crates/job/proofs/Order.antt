-- The order of the refusals: of two that differ, both of them in the order, one comes sooner. A refusal's number can be looked up by its stage and turn.
-- Assumes nothing.
use Prim.Native.Nat.{ℕ, ◌<◌}
use mathlib.Core.Path.{◌≡◌, refl, sym, ap₂, ◌∙◌}
use mathlib.Core.Logic.{◌⊎◌, inl, inr}
use mathlib.Core.List.{[]}
use native.Mathlib.Omega.{arith}
use native.Mathlib.Decide.{dec_lt}
use lib.ListN.{length, get_or}
use Rattle.refusal.specs.declared.Refusal.{Refusal}
use Rattle.refusal.specs.declared.Refusal.TheVariants.{ShortWork, ShortBuffer, Cut, UnknownKind, Misplaced, WrongCount, WrongNumber, OutOfRange, TooManyRuns, NoStar, NotWhole, NoTurn, Miscounted, OtherJob, Untrue, Coincident}
use Rattle.refusal.specs.Refusal.{refusal_number, refusal_place}
use Rattle.refusal.proofs.Numbers.{same_refusal}
use Rattle.job.specs.Order.{order, stage_of, turn_of, Sooner, by_stage, by_place, by_turn}

-- the number at a stage and a turn
abbrev number_in : (stage turn : ℕ) → ℕ
number_in stage turn = get_or (get_or order stage []) turn 0

-- a refusal whose number stands in the order; those of plan books do not
abbrev pub InOrder : Refusal → Type 0
InOrder x = stage_of x < length order

-- its number is that of its stage and turn
number_in_lem : (x : Refusal) → InOrder x → number_in (stage_of x) (turn_of x) ≡ refusal_number x
number_in_lem ShortWork i = refl
number_in_lem ShortBuffer i = refl
number_in_lem (Cut p) i = refl
number_in_lem (UnknownKind p) i = refl
number_in_lem (Misplaced p) i = refl
number_in_lem (WrongCount p) i = refl
number_in_lem (WrongNumber p) i = refl
number_in_lem (OutOfRange p) i = refl
number_in_lem (TooManyRuns p) i = refl
number_in_lem NoStar i = refl
number_in_lem (NotWhole p) i = absurd (omega arith)
number_in_lem (NoTurn p) i = absurd (omega arith)
number_in_lem (Miscounted p) i = absurd (omega arith)
number_in_lem (OtherJob p) i = absurd (omega arith)
number_in_lem (Untrue p) i = absurd (omega arith)
number_in_lem (Coincident p) i = refl

-- two numbers, one of which is less unless they are equal
pub either_way : (m n : ℕ) → (m < n) ⊎ ((m ≡ n) ⊎ (n < m))
either_way m n = go (dec_lt m n) (dec_lt n m)
  where
    go : Dec (m < n) → Dec (n < m) → (m < n) ⊎ ((m ≡ n) ⊎ (n < m))
    go (yes l) d = inl l
    go (no l) (yes g) = inr (inr g)
    go (no l) (no g) = inr (inl (omega arith))

-- numbers of which neither is less are equal
neither_less : (m n : ℕ) → (m < n → ⊥) → (n < m → ⊥) → m ≡ n
neither_less m n f g = go (either_way m n)
  where
    go : (m < n) ⊎ ((m ≡ n) ⊎ (n < m)) → m ≡ n
    go (inl l) = absurd (f l)
    go (inr (inl e)) = e
    go (inr (inr l)) = absurd (g l)

-- two refusals of which neither comes sooner are the same
pub sooner_total : (x y : Refusal) → InOrder x → InOrder y → (Sooner x y → ⊥) → (Sooner y x → ⊥) → x ≡ y
sooner_total x y i j f g =
    let s : stage_of x ≡ stage_of y = neither_less _ _ (λ l. f (by_stage l)) (λ l. g (by_stage l)) in
    let p : refusal_place x ≡ refusal_place y = neither_less _ _ (λ l. f (by_place s l)) (λ l. g (by_place (sym s) l)) in
    let t : turn_of x ≡ turn_of y = neither_less _ _ (λ l. f (by_turn s p l)) (λ l. g (by_turn (sym s) (sym p) l)) in
    same_refusal x y (sym (number_in_lem x i) ∙ ap₂ number_in s t ∙ number_in_lem y j) p

-- no refusal comes sooner than itself
pub sooner_self : (x : Refusal) → Sooner x x → ⊥
sooner_self x (by_stage l) = omega arith
sooner_self x (by_place s l) = omega arith
sooner_self x (by_turn s p l) = omega arith
