-- `judge::routes::are_measured` meets its contract: where the routes are Manhattan paths, the marks tell them, and what is measured on the marks is theirs.
use mathlib.Core.Path.{◌≡◌, refl, sym, ◌∙◌}
use lib.ListN.{length}
use Rattle.judge.specs.True.{drawn_in}
use Rattle.judge.proofs.Entries.{count_read}
use Rattle.judge.proofs.Measuring.{lines_held, lines_rise, edges_short, trench_told, pits_told, are_routes, measured_off, measured_on}
use Rattle.judge.proofs.routes.are_measured.Goals as goal

pub mark_routes-requires : goal.mark_routes-requires
mark_routes-requires c =
    (c.requires.0, refl, c.requires.1, c.requires.2, c.requires.3)

pub returns-then-not-mark_routes : goal.returns-then-not-mark_routes
returns-then-not-mark_routes c = λ es R.
    let (t, told) = c.mark_routes.ensures es R in
    measured_off c.args.known.now.job c.args.reading.now.head es (sym (c.if-not-mark_routes.true) ∙ t)

pub edge_lengths-widths-requires : goal.edge_lengths-widths-requires
edge_lengths-widths-requires c =
    let K = c.requires.0 in
    ((lines_held _ K.held _ _ K.lined).1, (lines_rise _ K.held _ _ K.lined).0)

pub edge_lengths-heights-requires : goal.edge_lengths-heights-requires
edge_lengths-heights-requires c =
    let K = c.requires.0 in
    ((lines_held _ K.held _ _ K.lined).2, (lines_rise _ K.held _ _ K.lined).1)

pub measure-is-requires : goal.measure-is-requires
measure-is-requires c =
    let K = c.requires.0 in
    let (x, y, z) = lines_held _ K.held _ _ K.lined in
    let (u, v) = edges_short _ K.held _ _ K.lined _ _ c.edge_lengths-widths.ensures c.edge_lengths-heights.ensures in
    (y, z, u, v)

pub returns : goal.returns
returns c = λ es R.
    let a = c.args in
    let K = c.requires.0 in
    let j = a.known.now.job in
    let (t, told) = c.mark_routes.ensures es R in
    let on = c.if-not-mark_routes.false in
    let marks = told on in
    let many : length es ≡ j.count = sym (count_read a.book.now a.reading.now es R).0 ∙ c.requires.1 in
    measured_on j a.reading.now.head es many (sym on ∙ t) c.measure-is.result.trench c.measure-is.result.pits a.known.now.total
    (c.measure-is.ensures.0
    ∙ trench_told j K.held _ _ K.lined _ _ c.edge_lengths-widths.ensures c.edge_lengths-heights.ensures (drawn_in es) _ _ _ marks)
    (c.measure-is.ensures.1
    ∙ pits_told j K.held _ _ K.lined (drawn_in es) (are_routes j a.reading.now.head es many (sym on ∙ t)) _ _ _ marks)
    K.total_is
