-- The text of a plan, of a refusal and of a choice, line by line (01, Listing): "Line 1 is the head; each later line has run number, meets, number of corners,
-- then the corners. A refusal prints `refused 11 at 0`, with its own number and place .. every line ends in one line feed." Of a plan of the new kinds it "says
-- `groups` for `centre` and adds `centre` before `corners`" (02, C-16).
use Rattle.std.specs.Prelude.{Bool, true, false, ℕ, length, ℤ}
use mathlib.Core.List.{List, [], ◌++◌, flat_map}
use Rattle.network.specs.Plane.{Point}
use Rattle.job.specs.Fields.{decimetres}
use Rattle.plan.specs.declared.Head.{Head}
use Rattle.plan.specs.Plan.{Entry}
use Rattle.refusal.specs.declared.Refusal.{Refusal}
use Rattle.refusal.specs.Refusal.{refusal_number, refusal_place}
use Rattle.text.specs.Numerals.{ascii, decimal, signed}

-- ` trench 100 saved 40 pits 6`
abbrev pub figures_text : Head → List ℕ
figures_text h = (ascii " trench " ++ decimal h.trench) ++ (ascii " saved " ++ decimal h.saved) ++ (ascii " pits " ++ decimal h.pits)

-- ` groups 1`, of an older plan ` centre 1`
abbrev pub last_text : (grouped : Bool) → ℕ → List ℕ
last_text true n = ascii " groups " ++ decimal n
last_text false n = ascii " centre " ++ decimal n

-- `job 7 runs 3 groups 1`, then the figures
abbrev pub head_text : Head → List ℕ
head_text h = (ascii "job " ++ decimal h.job) ++ (ascii " runs " ++ decimal h.runs) ++ last_text h.grouped h.last ++ figures_text h

-- ` centre 1`, of an older plan nothing
abbrev pub centre_text : (grouped : Bool) → ℕ → List ℕ
centre_text true n = ascii " centre " ++ decimal n
centre_text false n = []

-- `route 1 meets 2 centre 1 corners 4:`, which the corners follow
abbrev pub route_text : (grouped : Bool) (number meets centre corners : ℕ) → List ℕ
route_text grouped number meets centre corners =
    (ascii "route " ++ decimal number) ++ (ascii " meets " ++ decimal meets) ++ centre_text grouped centre ++ (ascii " corners " ++ decimal corners)
    ++ ascii ":"

-- ` 40,10`, in decimetres
abbrev pub corner_text : (x y : ℤ) → List ℕ
corner_text x y = ascii " " ++ signed x ++ ascii "," ++ signed y

-- a corner of a route
abbrev pub point_text : Point → List ℕ
point_text p = corner_text (decimetres p.x) (decimetres p.y)

-- the line of a run, without its line feed
abbrev pub entry_text : (grouped : Bool) → Entry → List ℕ
entry_text grouped e = route_text grouped e.number e.meets e.centre (length e.corners) ++ flat_map point_text e.corners

-- a plan: the head's line, then a line for each run
unfoldable pub plan_text : Head → List Entry → List ℕ
plan_text h es = (head_text h ++ ascii "\n") ++ flat_map (λ e. entry_text h.grouped e ++ ascii "\n") es

-- `refused 11 at 0`
abbrev pub refused_text : (number place : ℕ) → List ℕ
refused_text number place = (ascii "refused " ++ decimal number) ++ (ascii " at " ++ decimal place) ++ ascii "\n"

-- a refusal, by its number and place
unfoldable pub refusal_text : Refusal → List ℕ
refusal_text r = refused_text (refusal_number r) (refusal_place r)

-- `stake from the first book: trench 100, the second has 104`, or `stake from the second book: trench 96, the first has 100`: the chosen book's trench, and the
-- other's (02, C-17)
abbrev pub chosen_text : (second : Bool) (trench other : ℕ) → List ℕ
chosen_text true trench other = (ascii "stake from the second book: trench " ++ decimal trench) ++ (ascii ", the first has " ++ decimal other) ++ ascii "\n"
chosen_text false trench other = (ascii "stake from the first book: trench " ++ decimal trench) ++ (ascii ", the second has " ++ decimal other) ++ ascii "\n"
