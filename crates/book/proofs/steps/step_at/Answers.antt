-- `book::steps::step_at` meets its contract: by the record that stands there.
use mathlib.Core.Path.{◌≡◌, refl, sym, ap, ◌∙◌}
use mathlib.Core.Logic.{inl, inr}
use mathlib.Core.List.{List}
use mathlib.Core.Bool.{true, false, ◌||◌}
use Prim.Native.Nat.{ℕ, ◌-◌}
use native.Mathlib.Omega.{arith}
use lib.Dec.{leb}
use lib.ListN.{length, take, drop, length-drop}
use lib.Seq.{take_all}
use borrow.Author.Tests.{lt-ltb, le-ltb}
use Rattle.records.specs.declared.Record.{Record}
use Rattle.records.specs.Records.{record_of}
use Rattle.book.specs.Parse.{corner_step, mixed, step_by}
use Rattle.book.proofs.Tests.{mixed_test}
use Rattle.book.proofs.steps.step_at.Goals as goal

-- the record that stands there
found_there : (s : List ℕ) (at : ℕ) (g : Record) → g ≡ record_of (take (length s - at) (drop at s)) → record_of (drop at s) ≡ g
found_there s at g e = sym (e ∙ ap record_of (take_all (length s - at) (drop at s) (omega (arith, length-drop at s))))

pub returns-then-grouped-w : goal.returns-then-grouped-w
unfolding step_by
returns-then-grouped-w c =
    let g = c.in-Route in
    let w = c.args.w in
    let e : (mixed g.grouped w.grouped || leb 32 w.routes) ≡ true = ap (λ q. q || leb 32 w.routes) (mixed_test g.grouped w.grouped) ∙ c.if-grouped-w.true in
    rw (found_there c.args.book.now c.args.at _ g.ensures) (simp e)

pub returns-then-book-at-gt3 : goal.returns-then-book-at-gt3
unfolding step_by
returns-then-book-at-gt3 c = rw (found_there c.args.book.now c.args.at _ c.in-End.ensures, length-drop) (simp (lt-ltb _ _ c.if-book-at-gt3.true))

pub returns-in-Head : goal.returns-in-Head
unfolding step_by
returns-in-Head c =
    let a = c.args in
    elim c.in-Head.is [
      | inl h ↦ rw (found_there a.book.now a.at _ (sym h.1 ∙ c.first_record.ensures)) refl
      | inr h ↦ rw (found_there a.book.now a.at _ (sym h ∙ c.first_record.ensures)) refl
    ]

pub returns-else-grouped-w : goal.returns-else-grouped-w
unfolding step_by
returns-else-grouped-w c =
    let g = c.in-Route in
    let w = c.args.w in
    let e : (mixed g.grouped w.grouped || leb 32 w.routes) ≡ false = ap (λ q. q || leb 32 w.routes) (mixed_test g.grouped w.grouped) ∙ c.if-grouped-w.false in
    rw (found_there c.args.book.now c.args.at _ g.ensures) (simp e)

pub returns-in-Corner : goal.returns-in-Corner
unfolding step_by
returns-in-Corner c =
    let a = c.args in
    rw (found_there c.args.book.now c.args.at _ c.in-Corner.ensures)
    (c.corner_step.ensures ∙ λ i. corner_step a.at a.w (record { x = c.biased.ensures i; y = c.biased-in-Corner.ensures i }))

pub returns-else-book-at-gt3 : goal.returns-else-book-at-gt3
unfolding step_by
returns-else-book-at-gt3 c = rw (found_there c.args.book.now c.args.at _ c.in-End.ensures, length-drop) (simp (le-ltb _ _ c.if-book-at-gt3.false))
