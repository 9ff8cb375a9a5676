-- The walk starts at neither end of the edges before, so their words are the rule's with no start.
use mathlib.Core.Path.{◌≡◌, sym, ◌∙◌}
use Prim.Native.Nat.{◌-◌}
use native.Mathlib.Omega.{arith}
use Rattle.table.specs.Rule.{start_of, enter_of}
use Rattle.table.proofs.Filling.{start_none}
use Rattle.table.proofs.fill.inner_vertex.Goals as goal

pub returns : goal.returns
returns c =
    let a = c.args in
    let left : 0 ≡ start_of (a.p - 1) = sym (start_none (a.p - 1) (λ e. omega (arith, c.requires.5, c.requires.6))) in
    let under : 0 ≡ start_of (a.p - a.w) = sym (start_none (a.p - a.w) (λ e. omega (arith, c.requires.6))) in (
      c.put.ensures,
      c.enter-x.ensures ∙ (λ i. enter_of a.a (c.requires.2 i).hor (c.requires.2 i).ver (left i) a.col a.left a.row a.cross),
      c.enter-y.ensures
          ∙ (λ i. enter_of a.b (c.pair_at-along.ensures i) (c.pair_at-across.ensures i) (under i) a.row a.below a.col a.cross),
    )
