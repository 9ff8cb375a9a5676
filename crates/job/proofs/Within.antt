-- A refusal of the bytes is told at a place among them, or right behind them: at a record that begins there, or where none does.
-- Assumes nothing.
use Prim.Native.Nat.{ℕ, ◌≤◌}
use mathlib.Core.Logic.{inl, inr}
use mathlib.Core.List.{List}
use native.Mathlib.Omega.{arith}
use lib.ListN.{length}
use Rattle.refusal.specs.declared.Refusal.{Refusal}
use Rattle.refusal.specs.Refusal.{refusal_place}
use Rattle.job.specs.Applies.{Begins, AppliesIn, cut_inside, cut_before_end, unknown_kind, no_head, second_head, after_end, wrong_count, number_zero, number_above, not_rising, out_of_range, run_33, coincident}
use Rattle.job.proofs.There.{behind_within}

-- a record begins among the bytes, or behind the last
begins_within : (s : List ℕ) (p : ℕ) → Begins s p → p ≤ length s
begins_within s p (inl e) = omega arith
begins_within s p (inr (n, b)) = behind_within s n p b

-- so does what applies
pub applies_within : (s : List ℕ) (x : Refusal) → AppliesIn s x → refusal_place x ≤ length s
applies_within s x (cut_inside k b h l) = begins_within s _ b
applies_within s x (cut_before_end b) = begins_within s _ b
applies_within s x (unknown_kind b l f) = begins_within s _ b
applies_within s x (no_head l f) = omega arith
applies_within s x (second_head b h) = behind_within s _ _ b
applies_within s x (after_end b h l) = omega arith
applies_within s x (wrong_count b h d) = behind_within s _ _ b
applies_within s x (number_zero b h e) = behind_within s _ _ b
applies_within s x (number_above b h l) = behind_within s _ _ b
applies_within s x (not_rising b h l) = behind_within s _ _ b
applies_within s x (out_of_range i b h l f) = behind_within s _ _ b
applies_within s x (run_33 b h) = behind_within s _ _ b
applies_within s x (coincident b h d e) = behind_within s _ _ b
