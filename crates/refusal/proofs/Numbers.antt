-- Number and place tell two refusals apart: a refusal can be looked up by its number and place, so what agrees in both is one refusal. Which numbers there are
-- is said once, here.
-- Assumes nothing.
use Prim.Native.Nat.{ℕ, ◌≤◌}
use mathlib.Core.Path.{◌≡◌, refl, sym, ap₂, ◌∙◌}
use mathlib.Core.List.{[], ◌∷◌}
use native.Mathlib.Omega.{arith}
use lib.ListN.{get_or}
use Rattle.refusal.specs.declared.Refusal.{Refusal}
use Rattle.refusal.specs.declared.Refusal.TheVariants.{ShortWork, ShortBuffer, Cut, UnknownKind, Misplaced, WrongCount, WrongNumber, OutOfRange, TooManyRuns, NoStar, NotWhole, NoTurn, Miscounted, OtherJob, Untrue, Coincident}
use Rattle.refusal.specs.Refusal.{refusal_number, refusal_place}

-- the refusal with a number and a place, 11 where no other has the number
abbrev refusal_at : (number p : ℕ) → Refusal
refusal_at number p =
    get_or
    (NoStar ∷ ShortWork ∷ ShortBuffer ∷ Cut p ∷ UnknownKind p ∷ Misplaced p ∷ WrongCount p ∷ WrongNumber p ∷ OutOfRange p ∷ TooManyRuns p
    ∷ NoStar ∷ NoStar ∷ NotWhole p ∷ NoTurn p ∷ Miscounted p ∷ OtherJob p ∷ Untrue p ∷ Coincident p ∷ [])
    number NoStar

-- every refusal is the one with its number and place
refusal_at_lem : (x : Refusal) → refusal_at (refusal_number x) (refusal_place x) ≡ x
refusal_at_lem ShortWork = refl
refusal_at_lem ShortBuffer = refl
refusal_at_lem (Cut p) = refl
refusal_at_lem (UnknownKind p) = refl
refusal_at_lem (Misplaced p) = refl
refusal_at_lem (WrongCount p) = refl
refusal_at_lem (WrongNumber p) = refl
refusal_at_lem (OutOfRange p) = refl
refusal_at_lem (TooManyRuns p) = refl
refusal_at_lem NoStar = refl
refusal_at_lem (NotWhole p) = refl
refusal_at_lem (NoTurn p) = refl
refusal_at_lem (Miscounted p) = refl
refusal_at_lem (OtherJob p) = refl
refusal_at_lem (Untrue p) = refl
refusal_at_lem (Coincident p) = refl

-- refusals with one number and one place are the same
pub same_refusal : (x y : Refusal) → refusal_number x ≡ refusal_number y → refusal_place x ≡ refusal_place y → x ≡ y
same_refusal x y n p = sym (refusal_at_lem x) ∙ ap₂ refusal_at n p ∙ refusal_at_lem y

-- refusals have the numbers 1 to 17, and none has 10
pub refusal_numbers : (x : Refusal) → (1 ≤ refusal_number x) × (refusal_number x ≤ 17) × (refusal_number x ≡ 10 → ⊥)
refusal_numbers ShortWork = (omega arith, omega arith, λ e. omega arith)
refusal_numbers ShortBuffer = (omega arith, omega arith, λ e. omega arith)
refusal_numbers (Cut p) = (omega arith, omega arith, λ e. omega arith)
refusal_numbers (UnknownKind p) = (omega arith, omega arith, λ e. omega arith)
refusal_numbers (Misplaced p) = (omega arith, omega arith, λ e. omega arith)
refusal_numbers (WrongCount p) = (omega arith, omega arith, λ e. omega arith)
refusal_numbers (WrongNumber p) = (omega arith, omega arith, λ e. omega arith)
refusal_numbers (OutOfRange p) = (omega arith, omega arith, λ e. omega arith)
refusal_numbers (TooManyRuns p) = (omega arith, omega arith, λ e. omega arith)
refusal_numbers NoStar = (omega arith, omega arith, λ e. omega arith)
refusal_numbers (NotWhole p) = (omega arith, omega arith, λ e. omega arith)
refusal_numbers (NoTurn p) = (omega arith, omega arith, λ e. omega arith)
refusal_numbers (Miscounted p) = (omega arith, omega arith, λ e. omega arith)
refusal_numbers (OtherJob p) = (omega arith, omega arith, λ e. omega arith)
refusal_numbers (Untrue p) = (omega arith, omega arith, λ e. omega arith)
refusal_numbers (Coincident p) = (omega arith, omega arith, λ e. omega arith)
