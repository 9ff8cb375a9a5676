use mathlib.Core.Path.{◌≡◌, refl, ap, ◌∙◌}
use Prim.Native.Nat.{ℕ}
use native.Mathlib.Omega.{arith}
use lib.ListN.{get_or}
use Rattle.grid.specs.Tables.{table, padded}
use Rattle.grid.proofs.Tables.{table_more}
use Rattle.figures.proofs.tell_centres.Goals as goal

pub bounds-numbers-centre : goal.bounds-numbers-centre
bounds-numbers-centre c = omega (arith, c.requires.1 c.loop-i.i c.loop-i-test.true)

pub loop-i-preserved : goal.loop-i-preserved
loop-i-preserved c =
    let l = c.loop-i in
    table_more (λ k. get_or c.args.numbers.now (get_or c.args.centres.now k 0) 0) 32 l.i _ l.told (omega arith) refl l.invariant

pub returns : goal.returns
returns c =
    let e : c.loop-i.i ≡ c.args.n = omega arith in
    c.loop-i.invariant ∙ ap (λ (k : ℕ). padded 32 (table (λ i. get_or c.args.numbers.now (get_or c.args.centres.now i 0) 0) k)) e
