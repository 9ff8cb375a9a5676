-- The records of a plan: one byte of kind, then the body (01, Plan book). Fields are those of a job: little-endian, coordinates as words in two's
-- complement. "New plans use a head of kind 0x51, same length, whose last field is the number of groups, and a route of kind 0x4F, 8 bytes, whose last
-- field is the group's centre" (02, C-16). Older plans have a head of kind 0x50, whose last field is the centre's run number, and routes of kind 0x4E,
-- 6 bytes. `grouped` says that the kinds are the new ones.
use Rattle.std.specs.Prelude.{Bool, true, false, cond, List, ◌∷◌, ◌++◌, ℕ}
use Rattle.network.specs.Plane.{Point}
use Rattle.job.specs.Fields.{word_of}
use Rattle.job.specs.Written.{bytes2, bytes4}
use Rattle.plan.specs.declared.Head.{Head}

-- job number, runs, trench, saved, pits, and the number of groups or the centre's run number
abbrev pub head_record : Head → List ℕ
head_record h =
    cond h.grouped 0x51 0x50 ∷ bytes4 h.job ++ bytes2 h.runs ++ bytes4 h.trench ++ bytes4 h.saved ++ bytes2 h.pits ++ bytes2 h.last

-- run number, meets, corners, and the run number of the group's centre; an older one has no centre
abbrev pub route_record : (grouped : Bool) (number meets corners centre : ℕ) → List ℕ
route_record true number meets corners centre = 0x4F ∷ bytes2 number ++ bytes2 meets ++ bytes2 corners ++ bytes2 centre
route_record false number meets corners centre = 0x4E ∷ bytes2 number ++ bytes2 meets ++ bytes2 corners

-- how many bytes a route record has
unfoldable pub route_size : (grouped : Bool) → ℕ
route_size true = 9
route_size false = 7

-- x, y
abbrev pub corner_record : Point → List ℕ
corner_record p = 0x43 ∷ bytes4 (word_of p.x) ++ bytes4 (word_of p.y)

-- total of corner records
abbrev pub end_record : ℕ → List ℕ
end_record corners = 0x5A ∷ bytes2 corners
