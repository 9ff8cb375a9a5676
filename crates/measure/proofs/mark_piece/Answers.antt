-- `measure::mark_piece` meets its contract: the line that is found leads to the vertex, and the stretch up to it has the edges of the piece.
use Rattle.measure.proofs.Marking.{astray_up, astray_right, arrived_up, arrived_right}
use Rattle.measure.proofs.mark_piece.Goals as goal

pub returns-in_err-to : goal.returns-in_err-to
returns-in_err-to c =
    rw c.from_residual.ensures
    (c.requires.4, c.requires.5, λ g held. astray_up g _ _ _ _ c.requires.0 c.requires.1 held c.args.from c.args.x c.args.y _ _ _ _ c.in_err-to.ensures)

pub returns-then-columns-column : goal.returns-then-columns-column
returns-then-columns-column c =
    let stretched = rw (c.min.ensures, c.max.ensures) at c.mark_stretch.ensures in (
      c.requires.4,
      c.mark_stretch.ensures.size,
      λ g held. arrived_up g _ _ _ _ c.requires.0 c.requires.1 held c.args.from c.args.x c.args.y c.requires.2 c.requires.3 _ _ _
          c.requires.4 c.if-columns-column.true _ c.in_ok-to.ensures stretched,
    )

pub returns-in_err-to-2 : goal.returns-in_err-to-2
returns-in_err-to-2 c =
    rw c.from_residual-in_err-to-2.ensures
    (c.requires.4, c.requires.5, λ g held. astray_right g _ _ _ _ c.requires.0 c.requires.1 held c.args.from c.args.x c.args.y _ _ _ _ c.in_err-to-2.ensures)

pub returns : goal.returns
returns c =
    let stretched = rw (c.min-2.ensures, c.max-2.ensures) at c.mark_stretch-2.ensures in (
      c.mark_stretch-2.ensures.size,
      c.requires.5,
      λ g held. arrived_right g _ _ _ _ c.requires.0 c.requires.1 held c.args.from c.args.x c.args.y c.requires.2 c.requires.3 _ _ _
          c.requires.5 c.if-columns-column.false _ c.in_ok-to-2.ensures stretched,
    )
