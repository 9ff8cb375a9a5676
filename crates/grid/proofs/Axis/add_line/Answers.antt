-- Where no line is v, both ways of moving the lines put v at its position.
use mathlib.Core.Path.{◌≡◌, ap, ◌∙◌}
use mathlib.Core.List.{List}
use Prim.Native.Nat.{ℕ}
use native.Mathlib.Omega.{arith}
use lib.ListN.{set}
use Rattle.grid.specs.declared.Axis.{Axis}
use Rattle.grid.specs.Tables.{padded}
use Rattle.grid.specs.Lines.{lines_of, put}
use Rattle.grid.proofs.Shifting.{line_slipped, line_copied, line_there, line_put}
use Rattle.grid.proofs.Axis.add_line.Goals as goal
use Rattle.grid.proofs.Axis.add_line.Goals.{else-at-count-via-then-at-count+else-self-at, else-at-count-via-else-at-count, then-count-lt16, else-count-lt16}

pub returns-then-self-at : goal.returns-then-self-at
returns-then-self-at c = line_there _ c.args.v c.requires _ c.position-at.ensures.0 c.if-at-count.true c.if-self-at.true

pub returns : goal.returns
returns c =
    let at = c.position-at.result in
    let a = c.args.self.now in
    let v = c.args.v in
    line_put a v c.requires at _ c.position-at.ensures.0
    (elim c.else-at-count.branch [ else-at-count-via-then-at-count+else-self-at w ↦ λ o p. w.if-self-at.false p | else-at-count-via-else-at-count w ↦ λ o p. absurd (omega (arith, w)) ])
    (elim c.if-count-lt16.branch as (λ _. c.if-count-lt16.self.lines ≡ padded 64 (put at v (lines_of a))) [
      | then-count-lt16 w ↦ ap (λ (b : Axis). b.lines) w.self-is ∙ line_slipped a v c.requires at (omega arith) w.slip.new.lines w.slip.result w.slip.ensures
      | else-count-lt16 w ↦ ap (λ (b : Axis). b.lines) w.self-is ∙ ap (λ (t : List ℕ). set t at v) w.copy_within.ensures.after ∙ line_copied a v c.requires at (omega arith)
    ])
