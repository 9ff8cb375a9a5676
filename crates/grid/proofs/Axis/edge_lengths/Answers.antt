use mathlib.Core.Path.{◌≡◌, refl, sym, ap, ◌∙◌}
use Prim.Native.Nat.{ℕ, suc, ◌+◌, ◌-◌, pred}
use native.Mathlib.Omega.{arith}
use lib.ListN.{get_or}
use Rattle.grid.specs.Tables.{table, padded}
use Rattle.grid.specs.Lines.{length_at}
use Rattle.grid.proofs.Tables.{table_more}
use Rattle.grid.proofs.Axis.edge_lengths.Goals as goal

pub loop-i-init : goal.loop-i-init
loop-i-init c = (omega arith, refl)

pub loop-i-preserved : goal.loop-i-preserved
loop-i-preserved c =
    let lines = c.args.self.now.lines in
    let l = c.loop-i in
    let held = λ (k : ℕ). padded 64 (table (length_at lines) k) in
    let e : suc (l.i - 1) ≡ l.i = omega arith in
    let f : pred l.i ≡ l.i - 1 = omega arith in
    let g : l.i - 1 + 1 ≡ pred (l.i + 1) = omega arith in (
      omega arith,
      table_more (length_at lines) 64 (l.i - 1) _ l.t (omega arith) (ap (λ (k : ℕ). get_or lines k 0 - get_or lines (l.i - 1) 0) (sym e)) (l.invariant.1 ∙ ap held f) ∙ ap held g,
    )

pub returns : goal.returns
returns c =
    let e : pred c.loop-i.i ≡ pred c.args.self.now.count = omega arith in
    c.loop-i.invariant.1 ∙ ap (λ (k : ℕ). padded 64 (table (length_at c.args.self.now.lines) k)) e
