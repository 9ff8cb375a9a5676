-- Which refusal is given: "records front to back; within a record 4, 3, 5, 9, 7, 8, 6 ..; last 11. The first that applies is given, and none otherwise"
-- (document 01, "What a call says and leaves"; without 10 by document 02, C-11); 17 "is tested after 8 in the same record" (C-18); 1 or 2 "now tested after the
-- job's bytes and before 11" (C-20).
-- Assumes nothing.
use Rattle.std.specs.Prelude.{ℕ, suc, ◌<◌, ◌≡◌, List, [], ◌∷◌, Bool, cond, eqb, ltb, length, get_or}
use Rattle.refusal.specs.Refusal.{refusal_number, refusal_place}
use Rattle.refusal.specs.declared.Refusal.{Refusal}

-- the numbers, stage by stage; within a stage front to back, and at one place in this order
abbrev pub order : List (List ℕ)
order = (4 ∷ 3 ∷ 5 ∷ 9 ∷ 7 ∷ 8 ∷ 17 ∷ 6 ∷ []) ∷ (1 ∷ 2 ∷ []) ∷ (11 ∷ []) ∷ []

-- how many elements stand before the first that passes the test; all, where none does
abbrev pub before : {A : Type 0} → (A → Bool) → List A → ℕ
before test [] = 0
before test (a ∷ l) = cond (test a) 0 (suc (before test l))

-- the stage of a refusal: how many stages come before the one that has its number, where fewer than all stand before it
abbrev pub stage_of : Refusal → ℕ
stage_of x = before (λ stage. ltb (before (eqb (refusal_number x)) stage) (length stage)) order

-- its turn: how many numbers of that stage come before its own
abbrev pub turn_of : Refusal → ℕ
turn_of x = before (eqb (refusal_number x)) (get_or order (stage_of x) [])

-- x comes before y
pub data Sooner (x y : Refusal) : Type 0 where
  by_stage : stage_of x < stage_of y → Sooner x y
  by_place : stage_of x ≡ stage_of y → refusal_place x < refusal_place y → Sooner x y
  by_turn : stage_of x ≡ stage_of y → refusal_place x ≡ refusal_place y → turn_of x < turn_of y → Sooner x y

-- x is the first of the refusals that apply
pub record FirstOf (Applies : Refusal → Type 0) (x : Refusal) : Type 0 where
  pub applies : Applies x
  pub first : (y : Refusal) → Applies y → Sooner y x → ⊥
