-- Before each turn the vertices before position p are done, nothing from there on has changed, and `lead` or `last` is the cell before it.
use Prim.Native.Nat.{◌-◌}
use mathlib.Core.Path.{◌≡◌}
use Rattle.table.specs.Frame.{group_of}
use Rattle.table.specs.Rule.{position, cell_in}
use Rattle.table.proofs.Filling.{Filled}
use Rattle.table.proofs.fill.fill.Given as goal

-- the first row
abbrev pub invariant-loop-p : goal.invariant-loop-p
invariant-loop-p l = Filled (group_of l.g) l.initial.work l.work l.p × ((l.p ≡ 0 → ⊥) → l.lead ≡ cell_in l.work (l.p - 1))

-- a row behind its first vertex
abbrev pub invariant-loop-a : goal.invariant-loop-a
invariant-loop-a l = (l.p ≡ position l.w l.a l.b) × Filled (group_of l.g) l.initial.work l.work l.p × (l.last ≡ cell_in l.work (l.p - 1))

-- the rows behind the first
abbrev pub invariant-loop-b : goal.invariant-loop-b
invariant-loop-b l = (l.p ≡ position l.w 0 l.b) × Filled (group_of l.g) l.initial.work l.work l.p
