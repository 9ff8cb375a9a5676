-- `book::route_of` meets its contract: the places of the reading are the book's own.
use mathlib.Core.Path.{sym, ap, ◌∙◌}
use mathlib.Core.List.{List}
use Prim.Native.Nat.{ℕ}
use Rattle.book.specs.Parse.{Parsed}
use Rattle.book.specs.Reading.{route_of, route_by}
use Rattle.book.proofs.Accepted.{reading_accepted, reading_refused, route_by_places}
use Rattle.book.proofs.route_of.Goals as goal

pub returns-in_default : goal.returns-in_default
returns-in_default c = sym (ap (λ (q : Parsed). route_of q c.args.i) (reading_refused _ _ c.in_default.ensures))

pub returns : goal.returns
returns c =
    let a = c.args in
    let (es, e, l) = reading_accepted _ _ c.in-Ok.ensures in
    c.route_in.ensures ∙ ap (λ (l : List ℕ). route_by a.book.now l a.i) l ∙ route_by_places a.book.now a.i
