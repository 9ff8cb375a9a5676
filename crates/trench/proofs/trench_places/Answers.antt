-- `trench::trench_places` meets its contract: the 33 places that reading gives, or 33 zeros.
use mathlib.Core.Path.{refl}
use Rattle.book.specs.Parse.{parse_plan}
use Rattle.book.proofs.Accepted.{places_length, reading_accepted, reading_refused}
use Rattle.trench.proofs.Filled.{filled_count}
use Rattle.trench.proofs.trench_places.Goals as goal

pub returns-in-Ok : goal.returns-in-Ok
returns-in-Ok c =
    let s = c.args.book.now in
    let (es, p, q) = reading_accepted (parse_plan s) _ c.in-Ok.ensures in
    let f = rw q at c.fill.ensures in
    record { words = f; count = filled_count f 33 (places_length s) }

pub returns-in-Err : goal.returns-in-Err
returns-in-Err c =
    record {
      words = rw (reading_refused (parse_plan c.args.book.now) _ c.in-Err.ensures) c.fill-in-Err.ensures;
      count = filled_count c.fill-in-Err.ensures 33 refl;
    }
