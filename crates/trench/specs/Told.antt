-- What C is told of a plan book (document 02, C-12): the number of routes or minus the refusal number, the place, and figures, routes and corners as words.
use Rattle.std.specs.Prelude.{Bool, cond, List, [], ◌∷◌, ℕ, ℤ, pos, neg_ℤ, length, Option, Some, None}
use Rattle.refusal.specs.Refusal.{refusal_number, refusal_place}
use Rattle.plan.specs.declared.Head.{Head}
use Rattle.book.specs.declared.Route.{Route}
use Rattle.book.specs.declared.Spot.{Spot}
use Rattle.book.specs.Parse.{Parsed, accepted, refused}

-- the number of routes, or minus the refusal number
abbrev pub code_of : Parsed → ℤ
code_of (accepted h es) = pos (length es)
code_of (refused x) = neg_ℤ (pos (refusal_number x))

-- the place of the refusal, 0 where there is none
abbrev pub place_of : Parsed → ℕ
place_of (accepted h es) = 0
place_of (refused x) = refusal_place x

-- the kind of a head: 0x51, or 0x50 of an older book (02, C-16)
abbrev pub kind_of : Bool → ℕ
kind_of grouped = cond grouped 0x51 0x50

-- seven figures, the last of them the head's kind, four of a route, two of a corner; no word for what there is not
abbrev pub figure_words : Option Head → List ℕ
figure_words (Some h) = h.job ∷ h.runs ∷ h.trench ∷ h.saved ∷ h.pits ∷ h.last ∷ kind_of h.grouped ∷ []
figure_words None = []

abbrev pub route_words : Option Route → List ℕ
route_words (Some r) = r.number ∷ r.meets ∷ r.corners ∷ r.centre ∷ []
route_words None = []

abbrev pub spot_words : Option Spot → List ℤ
spot_words (Some p) = p.x ∷ p.y ∷ []
spot_words None = []
