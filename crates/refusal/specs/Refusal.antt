-- The number and the place of each refusal, of jobs (document 01, "What a call says and leaves"; document 02, C-18), of lists of runs (C-15) and of
-- plan books (C-12, C-17). 1, 2 and 11 have the place 0; 10 is no refusal's number (C-11).
-- Assumes nothing.
use Rattle.std.specs.Prelude.{ℕ}
use Rattle.refusal.specs.declared.Refusal.{Refusal}
use Rattle.refusal.specs.declared.Refusal.TheVariants.{ShortWork, ShortBuffer, Cut, UnknownKind, Misplaced, WrongCount, WrongNumber, OutOfRange, TooManyRuns, NoStar, NotWhole, NoTurn, Miscounted, OtherJob, Untrue, Coincident}

abbrev pub refusal_number : Refusal → ℕ
refusal_number ShortWork = 1
refusal_number ShortBuffer = 2
refusal_number (Cut at) = 3
refusal_number (UnknownKind at) = 4
refusal_number (Misplaced at) = 5
refusal_number (WrongCount at) = 6
refusal_number (WrongNumber at) = 7
refusal_number (OutOfRange at) = 8
refusal_number (TooManyRuns at) = 9
refusal_number NoStar = 11
refusal_number (NotWhole at) = 12
refusal_number (NoTurn at) = 13
refusal_number (Miscounted at) = 14
refusal_number (OtherJob at) = 15
refusal_number (Untrue at) = 16
refusal_number (Coincident at) = 17

abbrev pub refusal_place : Refusal → ℕ
refusal_place ShortWork = 0
refusal_place ShortBuffer = 0
refusal_place (Cut at) = at
refusal_place (UnknownKind at) = at
refusal_place (Misplaced at) = at
refusal_place (WrongCount at) = at
refusal_place (WrongNumber at) = at
refusal_place (OutOfRange at) = at
refusal_place (TooManyRuns at) = at
refusal_place NoStar = 0
refusal_place (NotWhole at) = at
refusal_place (NoTurn at) = at
refusal_place (Miscounted at) = at
refusal_place (OtherJob at) = at
refusal_place (Untrue at) = at
refusal_place (Coincident at) = at
