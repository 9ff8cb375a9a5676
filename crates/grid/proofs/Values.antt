-- The values of an axis, run after run, and the runs that they come from.
use mathlib.Core.Path.{◌≡◌, refl, sym, ap, ◌∙◌, subst}
use mathlib.Core.List.{List, [], ◌∷◌, ◌++◌, append_assoc}
use Prim.Native.Nat.{ℕ, zero, suc, ◌+◌, ◌-◌, ◌≤◌, ◌<◌}
use native.Mathlib.Numerals.{add-one}
use native.Mathlib.Omega.{arith}
use lib.ListN.{length, get_or, replicate, length-append}
use lib.Seq.{take_at}
use Rattle.network.specs.Grid.{Rising}
use Rattle.network.proofs.Rising.{distinct_rises}
use Rattle.network.specs.Distinct.{insert, distinct}
use Rattle.grid.specs.declared.Axis.{Axis}
use Rattle.grid.specs.Lines.{values, axis_of, lines_of, Room}
use Rattle.grid.proofs.Insert.{distinct_last, length_distinct}

module _ (first second : List ℕ) where
  -- no runs, no lines
  distinct_none : distinct (values first second 0) ≡ []
  unfolding values
  distinct_none = refl

  -- one run more, two values more
  pub distinct_more : (n : ℕ) → distinct (values first second (n + 1)) ≡ insert (get_or second n 0) (insert (get_or first n 0) (distinct (values first second n)))
  unfolding values
  distinct_more n =
      ap (λ (k : ℕ). distinct (values first second k)) (add-one n)
      ∙ ap distinct (sym (append_assoc (values first second n) (get_or first n 0 ∷ []) (get_or second n 0 ∷ [])))
      ∙ distinct_last (values first second n ++ (get_or first n 0 ∷ [])) (get_or second n 0)
      ∙ ap (insert (get_or second n 0)) (distinct_last (values first second n) (get_or first n 0))

  -- two values a run
  length_values : (n : ℕ) → length (values first second n) ≡ n + n
  unfolding values
  length_values zero = refl
  length_values (suc n) = length-append (values first second n) (get_or first n 0 ∷ get_or second n 0 ∷ []) ∙ omega (arith, length_values n)

  -- at most two lines a run
  pub few_lines : (n : ℕ) → length (distinct (values first second n)) ≤ n + n
  few_lines n = omega (arith, length_distinct (values first second n), length_values n)

-- ---- an axis that is built line by line

-- the lines of an axis with the lines l are l
lines_held : (l : List ℕ) → lines_of (axis_of l) ≡ l
lines_held l = take_at l (replicate (64 - length l) 0) (length l) refl

-- the axis with the lines of a rising list has room for one more
pub room_for : (a : Axis) (l : List ℕ) → a ≡ axis_of l → Rising l → length l < 64 → Room a
room_for a l e r h =
    let k : lines_of a ≡ l = ap lines_of e ∙ lines_held l in
    record {
      held = e ∙ ap axis_of (sym k);
      rises = subst Rising (sym k) r;
      room = omega (arith, ap (λ (b : Axis). b.count) e);
    }

-- what one line more makes of it
pub line_more : (a r : Axis) (l : List ℕ) (v : ℕ) → a ≡ axis_of l → r ≡ axis_of (insert v (lines_of a)) → r ≡ axis_of (insert v l)
line_more a r l v e h = h ∙ ap (λ (k : List ℕ). axis_of (insert v k)) (ap lines_of e ∙ lines_held l)

-- one value more before the distinct values of a list
pub insert_rising : (v : ℕ) (l : List ℕ) → Rising (insert v (distinct l))
insert_rising v l = distinct_rises (v ∷ l)

module _ (first second : List ℕ) where
  -- no lines are those of no runs
  pub none_laid : (a : Axis) → a ≡ axis_of [] → a ≡ axis_of (distinct (values first second 0))
  none_laid a e = e ∙ ap axis_of (sym (distinct_none first second))

  -- the lines of so many runs are at most 64
  pub laid_few : (a : Axis) (n : ℕ) → n ≤ 32 → a ≡ axis_of (distinct (values first second n)) → a.count ≤ 64
  laid_few a n h e = omega (arith, ap (λ (b : Axis). b.count) e, few_lines first second n)
