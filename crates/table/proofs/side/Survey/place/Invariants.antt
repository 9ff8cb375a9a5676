-- Before each turn the places of the values of the runs before k are put in.
use mathlib.Core.Path.{◌≡◌}
use lib.ListN.{length}
use Rattle.table.specs.Side.{PlacesOf}
use Rattle.table.proofs.side.Survey.place.Given as goal

abbrev pub invariant-loop-k : goal.invariant-loop-k
invariant-loop-k l =
    (l.self.axis ≡ l.initial.self.axis) × (length l.self.places.first ≡ 32) × (length l.self.places.second ≡ 32)
    × PlacesOf l.initial.self.axis.lines l.initial.self.axis.count l.values.first l.k l.self.places.first × PlacesOf l.initial.self.axis.lines l.initial.self.axis.count l.values.second l.k l.self.places.second
