-- How many words are written into a lent buffer: all of them, or none.
use mathlib.Core.Path.{◌≡◌, ap, ◌∙◌}
use mathlib.Core.Bool.{cond}
use mathlib.Core.List.{List, []}
use Prim.Native.Nat.{ℕ, ◌≤◌, ◌<◌}
use native.Mathlib.Omega.{arith}
use lib.ListN.{length}
use borrow.Author.Tests.{le-leb, lt-leb}
use Rattle.trench.specs.Words.{Filled}

-- k words: k where the buffer has room for them, and 0 where it has none
pub filled_count : {A : Type 0} {ws xs ys : List A} {n : ℕ} → Filled ws xs ys n → (k : ℕ) → length ws ≡ k → (k ≤ length xs → n ≡ k) × (length xs < k → n ≡ 0)
filled_count {A} {ws} {xs} {ys} {n} f k e = (
  λ h. f.size ∙ ap (λ b. length (cond b ws [])) (le-leb (length ws) (length xs) (omega (arith, e))) ∙ e,
  λ h. f.size ∙ ap (λ b. length (cond b ws [])) (lt-leb (length ws) (length xs) (omega (arith, e))),
)
