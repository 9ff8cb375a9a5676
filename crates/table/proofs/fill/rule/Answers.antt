-- Each return is a case of the rule.
use mathlib.Core.Path.{◌≡◌, refl, sym, ap, ap₂, ◌∙◌}
use Prim.Native.Nat.{ℕ, max}
use native.Mathlib.Omega.{arith}
use Rattle.sharing.specs.Table.{plus}
use Rattle.table.specs.Rule.{pair, unless_own, if_own, all_of, new_of, stretch_of}
use Rattle.table.proofs.Rule.{plus_max, rule_free, rule_same, rule_cross}
use Rattle.table.proofs.fill.rule.Goals as goal

-- the largest of three, in the other order
max_turn : (a b c : ℕ) → max (max a b) c ≡ max (max c b) a
max_turn a b c = omega arith

-- and of two
max_swap : (a b : ℕ) → max a b ≡ max b a
max_swap a b = omega arith

pub returns-then-o-eq0 : goal.returns-then-o-eq0
returns-then-o-eq0 c =
    let a = c.args in
    let e : c.max-all.result ≡ all_of a.along a.across a.start = rw (c.max-all.ensures, c.max.ensures) (max_turn a.start a.across.best a.along.best) in
    ap₂ pair e refl ∙ sym (rule_free a.along a.across a.start a.o a.len a.cross c.if-o-eq0.true)

pub returns-then-o-cross-eq0 : goal.returns-then-o-cross-eq0
returns-then-o-cross-eq0 c =
    let a = c.args in
    let e : c.max-all.result ≡ all_of a.along a.across a.start = rw (c.max-all.ensures, c.max.ensures) (max_turn a.start a.across.best a.along.best) in
    ap₂ pair (rw (c.plus_len.ensures.0, e)) refl
    ∙ sym (rule_same a.along a.across a.start a.o a.len a.cross c.if-o-eq0.false c.if-o-cross-eq0.true)

pub returns : goal.returns
returns c =
    let a = c.args in
    let e : c.max-all.result ≡ all_of a.along a.across a.start = rw (c.max-all.ensures, c.max.ensures) (max_turn a.start a.across.best a.along.best) in
    let n : c.max-new.result ≡ new_of a.along a.across a.start a.o
    = rw (c.max-new.ensures, c.max-2.ensures, c.unless_own-2.ensures.0, c.unless_own.ensures.0) (max_turn a.start (unless_own a.across a.o) (unless_own a.along a.o)) in
    let f : c.plus_len-run.result ≡ stretch_of a.along a.across a.start a.o a.len
    = rw (c.plus_len-run.ensures.0, c.max-3.ensures, n, c.if_own.ensures.0) (ap (λ x. plus x a.len) (max_swap (if_own a.along a.o) (new_of a.along a.across a.start a.o)) ∙ plus_max (new_of a.along a.across a.start a.o) (if_own a.along a.o) a.len) in
    ap₂ pair (rw (c.max-4.ensures, e, f) (max_swap (stretch_of a.along a.across a.start a.o a.len) (all_of a.along a.across a.start))) f
    ∙ sym (rule_cross a.along a.across a.start a.o a.len a.cross c.if-o-eq0.false c.if-o-cross-eq0.false)
