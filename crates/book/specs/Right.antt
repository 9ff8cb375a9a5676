-- The plan books that are accepted, said without reading them: the bytes of a head and entries whose fields fit, whose counts are right, and whose corners
-- are in range and turn. `accepted_iff` says that reading accepts these, as this head and these entries, and no others.
-- Assumes nothing.
use Rattle.std.specs.Prelude.{◌≡◌, ◌⊎◌, Bool, List, [], ◌∷◌, ◌≤◌, ◌<◌, length}
use Rattle.network.specs.Lists.{All}
use Rattle.network.specs.Plane.{Point}
use Rattle.plan.specs.declared.Head.{Head}
use Rattle.plan.specs.Plan.{Entry}
use Rattle.plan.specs.Fits.{PointIn, HeadFits, CentreFits}

-- two points that differ, on one row or one column
pub record Joined (p q : Point) : Type 0 where
  pub differ : p ≡ q → ⊥
  pub along : (p.x ≡ q.x) ⊎ (p.y ≡ q.y)

-- three points, not all of them on one column, and not all on one row
pub record Turned (p q r : Point) : Type 0 where
  pub column : p.x ≡ q.x → q.x ≡ r.x → ⊥
  pub row : p.y ≡ q.y → q.y ≡ r.y → ⊥

-- every corner is joined to the one before it, and turned from the two before it
abbrev pub Turning : List Point → Type 0
Turning [] = Unit {0}
Turning (p ∷ []) = Unit {0}
Turning (p ∷ q ∷ []) = Joined p q
Turning (p ∷ q ∷ r ∷ l) = Joined p q × Turned p q r × Turning (q ∷ r ∷ l)

-- an entry of a book with this set of kinds: one corner or more, and at most 127
pub record RightEntry (grouped : Bool) (e : Entry) : Type 0 where
  pub number_fits : e.number < 65536
  pub meets_fits : e.meets < 65536
  pub centre_fits : CentreFits grouped e.centre
  pub some : 0 < length e.corners
  pub few : length e.corners ≤ 127
  pub in_range : All PointIn e.corners
  pub turning : Turning e.corners

-- a book: at most 32 entries, and the head says how many. Whose job it is, and whether the figures are right, is not judged.
pub record RightBook (h : Head) (es : List Entry) : Type 0 where
  pub head_fits : HeadFits h
  pub runs : h.runs ≡ length es
  pub few : length es ≤ 32
  pub entries : All (RightEntry h.grouped) es
