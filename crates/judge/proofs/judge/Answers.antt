-- By what the reader says: its refusal, with the book for the place, or the judgement of what was read.
use mathlib.Core.Path.{◌≡◌, sym, ap, ◌∙◌}
use mathlib.Core.List.{List}
use Prim.Native.Nat.{ℕ}
use Rattle.std.specs.Prelude.{Ok, Err}
use Rattle.job.specs.Written.{Bytes}
use Rattle.plan.specs.Plan.{Entry}
use Rattle.book.specs.declared.Reading.{Reading}
use Rattle.book.specs.Parse.{parse_plan}
use Rattle.book.specs.Reading.{places_of, reading_of}
use Rattle.book.proofs.Accepted.{reading_accepted, reading_refused}
use Rattle.planner.specs.Held.{runs_in}
use Rattle.judge.specs.Judged.{judgement_of}
use Rattle.judge.specs.Steps.{ReadAs}
use Rattle.judge.proofs.judge.Goals as goal

-- what was read
read_as : (book : List ℕ) → Bytes book → (r : Reading) → Ok r ≡ reading_of (parse_plan book) → (es : List Entry) × ReadAs book r es
read_as book b r e =
    let (es, p, q) = reading_accepted (parse_plan book) r e in
    (es, record { parsed = p; placed = q ∙ ap places_of p; bytes = b })

pub judge_read-requires : goal.judge_read-requires
judge_read-requires c = (c.requires, read_as _ (λ i. (c.type_inv.book i).fits) c.in-Ok.reading c.in-Ok.ensures)

pub returns-in-Ok : goal.returns-in-Ok
returns-in-Ok c =
    let k = c.args.known.now.job in
    let (es, R) = read_as _ (λ i. (c.type_inv.book i).fits) c.in-Ok.reading c.in-Ok.ensures in
    c.judge_read.ensures es R ∙ ap (judgement_of k.number (runs_in k) c.args.place) (sym R.parsed)

pub returns-in-Err : goal.returns-in-Err
unfolding judgement_of
returns-in-Err c =
    let k = c.args.known.now.job in
    ap Err c.of_book.ensures
    ∙ sym (ap (judgement_of k.number (runs_in k) c.args.place) (reading_refused (parse_plan c.args.book.now) _ c.in-Err.ensures))
