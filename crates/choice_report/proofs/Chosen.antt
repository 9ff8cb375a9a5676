-- The text of a choice is that of the book which is chosen, with the trench figures that the two books' heads have.
use mathlib.Core.Path.{◌≡◌}
use mathlib.Core.Bool.{true, false}
use mathlib.Core.List.{List}
use Prim.Native.Nat.{ℕ}
use Rattle.refusal.specs.declared.Refusal.{Refusal}
use Rattle.std.specs.Prelude.{Ok, Err}
use Rattle.choice.specs.declared.Chosen.TheVariants.{First, Second}
use Rattle.choice.specs.Choice.{Choice}
use Rattle.text.specs.Text.{chosen_text, refusal_text}
use Rattle.text.specs.Listed.{Listed}
use Rattle.choice_report.specs.ChoiceText.{choice_text}

-- ---- the trench figure

-- ---- the text

module _ (choice : Choice) (a b : ℕ) (text text' : List ℕ) (n : ℕ) where
  -- the first book is chosen
  pub first_due : choice ≡ Ok First → (t u : ℕ) → t ≡ a → u ≡ b → Listed (chosen_text false t u) text text' n → Listed (choice_text choice a b) text text' n
  first_due e t u is other l = rw (e, ← is, ← other) l

  -- the second
  pub second_due : choice ≡ Ok Second → (t u : ℕ) → t ≡ b → u ≡ a → Listed (chosen_text true t u) text text' n → Listed (choice_text choice a b) text text' n
  second_due e t u is other l = rw (e, ← is, ← other) l

  -- none
  pub refusal_due : (x : Refusal) → choice ≡ Err x → Listed (refusal_text x) text text' n → Listed (choice_text choice a b) text text' n
  refusal_due x e l = rw e l
