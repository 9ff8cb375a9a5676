-- `book::steps::no_turn` meets its contract: the tests on the way to each return.
use mathlib.Core.Path.{◌≡◌, refl, sym, ◌∙◌}
use mathlib.Core.Bool.{Bool, true, false, not, beq, ◌&&◌, ◌||◌, true≢false}
use native.Mathlib.Omega.{arith}
use lib.Dec.{leb, eqb}
use borrow.Author.Tests.{lt-leb, le-leb}
use Rattle.book.proofs.Tests.{same_test}
use Rattle.book.proofs.steps.no_turn.Goals as goal

pub returns-then-w-lt1 : goal.returns-then-w-lt1
returns-then-w-lt1 c =
    let n = c.args.w.corners in
    simp (lt-leb 1 n c.if-w-lt1.true, lt-leb 2 n (omega (arith, c.if-w-lt1.true)))

pub returns-then-same_x-same_y : goal.returns-then-same_x-same_y
returns-then-same_x-same_y c =
    let n = c.args.w.corners in
    simp (le-leb 1 n c.if-w-lt1.false, sym (same_test _ _) ∙ c.if-same_x-same_y.true)

pub returns-then-w-lt2 : goal.returns-then-w-lt2
returns-then-w-lt2 c =
    let n = c.args.w.corners in
    simp (le-leb 1 n c.if-w-lt1.false, sym (same_test _ _) ∙ c.if-same_x-same_y.false, lt-leb 2 n c.if-w-lt2.true)

pub returns : goal.returns
returns c =
    let a = c.args in
    let n = a.w.corners in
    last a.w.upright (eqb a.w.last.x a.c.x) (eqb a.w.last.y a.c.y) (leb 1 n) (leb 2 n)
    c.if-same_x-same_y.false (le-leb 2 n c.if-w-lt2.false)
  where
    -- of the two coordinates one is the same, so that the other is not
    last : (u x y k l : Bool) → beq x y ≡ false → l ≡ true → beq u x ≡ (k && (x && y || not x && not y) || l && (u && x || not u && y))
    last u x y k l e g = rw (g, sym (same_test x y) ∙ e) (go k u x y e)
      where
        go : (k u x y : Bool) → beq x y ≡ false → beq u x ≡ (k && false || (u && x || not u && y))
        go k u true true e = absurd (true≢false e)
        go k u false false e = absurd (true≢false e)
        go true true true false e = refl
        go true false true false e = refl
        go true true false true e = refl
        go true false false true e = refl
        go false true true false e = refl
        go false false true false e = refl
        go false true false true e = refl
        go false false false true e = refl
