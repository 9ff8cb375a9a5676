-- `plan::write_plan` meets its contract: the runs stand behind the head, and the end behind both.
use mathlib.Core.List.{◌++◌, flat_map, append_assoc}
use native.Mathlib.Omega.{arith}
use Rattle.route.specs.Stored.{tracks_in, routes_of}
use Rattle.route.proofs.Stored.{routes_length}
use Rattle.plan.specs.Records.{head_record, end_record}
use Rattle.plan.specs.Plan.{entry_bytes, total_corners, book_bytes}
use Rattle.plan.specs.Writers.{entries_in}
use Rattle.fields.proofs.Over.{wrote_next}
use Rattle.plan.proofs.Runs.{written_most}
use Rattle.plan.proofs.write_plan.Goals as goal

pub returns : goal.returns
unfolding book_bytes
returns c =
    let k = c.write_end in
    let r = c.write_runs-w in
    let h = c.write_head-start in
    let a = c.args in
    let f = a.figures.now in
    let rs = a.routes.now in
    let es = entries_in a.columns.now a.rows.now f rs in
    let most = written_most a.columns.now a.rows.now f.numbers.now f.meets.now f.centres.now a.head (routes_of rs)
    (omega (arith, c.requires.1.few, routes_length rs.steps.now rs.stride (tracks_in rs) rs.count)) c.requires.1.on_grid in
    let runs = flat_map (entry_bytes a.head.grouped) es in
    let head = head_record a.head in
    let w = wrote_next head runs a.out.now h.new.out r.new.out h.result r.result.bytes h.ensures.size h.ensures.bytes
    (rw c.requires.0 r.ensures.wrote) in
    let e = wrote_next (head ++ runs) (end_record (total_corners es)) a.out.now _ k.new.out _ k.result w.size w.bytes (rw r.ensures.total at k.ensures) in
    let all = rw (append_assoc head runs (end_record (total_corners es))) at e in
    (all, omega (arith, all.size))
