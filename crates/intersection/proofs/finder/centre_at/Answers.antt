-- What the run and the first that it meets see.
use mathlib.Core.Path.{sym, ap, ◌∙◌}
use mathlib.Core.Bool.{Bool, cond, ◌&&◌}
use Prim.Native.Nat.{ℕ}
use native.Mathlib.Omega.{arith}
use lib.Dec.{eqb, ltb}
use Rattle.groups.proofs.Near.{near_own, near_one}
use Rattle.intersection.specs.Centres.{joined_in}
use Rattle.intersection.proofs.Finding.{first_is, first_below}
use Rattle.intersection.proofs.finder.centre_at.Goals as goal

pub returns-then-meets_of-ne1 : goal.returns-then-meets_of-ne1
returns-then-meets_of-ne1 c =
    let a = c.args in
    sym (near_own (joined_in a.neighbours.now) 32 a.i (λ e. c.if-meets_of-ne1.true (c.meets_of.ensures.0 ∙ e)))

pub meets_of-requires-2 : goal.meets_of-requires-2
meets_of-requires-2 c =
    let a = c.args in
    omega (
      arith,
      c.lowest-j.ensures,
      first_is a.neighbours.now a.i,
      first_below a.neighbours.now a.i (sym c.meets_of.ensures.0 ∙ c.if-meets_of-ne1.false),
    )

pub returns-then-meets_of-i : goal.returns-then-meets_of-i
returns-then-meets_of-i c =
    let a = c.args in
    let sets = a.neighbours.now in
    let first = c.lowest-j.ensures ∙ first_is sets a.i in
    let one = sym c.meets_of.ensures.0 ∙ c.if-meets_of-ne1.false in
    sym (near_one (joined_in sets) 32 a.i _ one (sym first)
    ∙ ap (λ (b : Bool). cond b a.i c.lowest-j.result) (ap (λ (n : ℕ). eqb n 1 && ltb a.i c.lowest-j.result) (sym c.meets_of-2.ensures.0) ∙ c.if-meets_of-i.true))

pub returns : goal.returns
returns c =
    let a = c.args in
    let sets = a.neighbours.now in
    let first = c.lowest-j.ensures ∙ first_is sets a.i in
    let one = sym c.meets_of.ensures.0 ∙ c.if-meets_of-ne1.false in
    sym (near_one (joined_in sets) 32 a.i _ one (sym first)
    ∙ ap (λ (b : Bool). cond b a.i c.lowest-j.result) (ap (λ (n : ℕ). eqb n 1 && ltb a.i c.lowest-j.result) (sym c.meets_of-2.ensures.0) ∙ c.if-meets_of-i.false))
