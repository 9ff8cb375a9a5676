-- A job as a list of numbers, "32-bit signed numbers, five a run (number, first x, first y, second x, second y)" (document 02, C-15): its runs, and which
-- refusal a list is given.
-- Assumes nothing.
use Rattle.std.specs.Prelude.{Result, Ok, Err, ℕ, zero, suc, ◌+◌, ◌*◌, ◌/◌, ◌%◌, List, [], ◌∷◌, Bool, cond, not, ◌&&◌, eqb, ltb, ℤ, pos, neg_ℤ, nat_abs, ◌+ℤ◌, length, get_or}
use Rattle.std.specs.Int.Signed.{le_z, lt_z}
use Rattle.refusal.specs.declared.Refusal.{Refusal}
use Rattle.refusal.specs.declared.Refusal.TheVariants.{ShortBuffer, Cut, WrongNumber, OutOfRange, TooManyRuns, Coincident}
use Rattle.job.specs.declared.Run.{Run}
use Rattle.job.specs.Parse.{coincide}
use Rattle.job_writer.specs.declared.Listed.{Listed}

-- ---- the runs

-- how many runs the list has
abbrev pub count_of : List ℤ → ℕ
count_of list = length list / 5

-- run i, from 0, as it is listed
abbrev pub listed_at : List ℤ → ℕ → Listed
listed_at list i =
    record {
      number = get_or list (5 * i) (pos 0);
      x1 = get_or list (5 * i + 1) (pos 0);
      y1 = get_or list (5 * i + 2) (pos 0);
      x2 = get_or list (5 * i + 3) (pos 0);
      y2 = get_or list (5 * i + 4) (pos 0);
    }

-- a coordinate that is in its range, as a job holds it: the decimetres plus 1,000,000
abbrev pub biased : ℤ → ℕ
biased c = nat_abs (c +ℤ pos 1000000)

-- a run whose number and coordinates are in their ranges, as a job holds it
abbrev pub run_of : Listed → Run
run_of l = record { number = nat_abs l.number; x1 = biased l.x1; y1 = biased l.y1; x2 = biased l.x2; y2 = biased l.y2 }

-- so many runs, from index i on
unfoldable pub runs_from : List ℤ → (left i : ℕ) → List Run
runs_from list zero i = []
runs_from list (suc left) i = run_of (listed_at list i) ∷ runs_from list left (suc i)

-- ---- the refusals

-- whether a list is refused
abbrev pub Answer : Type 0
Answer = Result (Unit {0}) Refusal

-- the first of two answers that is a refusal
abbrev pub first_of : Answer → Answer → Answer
first_of (Ok _) later = later
first_of (Err x) later = Err x

-- the number of the run before run i, 0 where there is none
abbrev pub number_before : List ℤ → ℕ → ℤ
number_before list zero = pos 0
number_before list (suc i) = (listed_at list i).number

-- 7: "run number 0, above 9,999 or not above the one before" (01), "with 7 also for a number below 0"
abbrev pub follows : (last number : ℤ) → Bool
follows last number = le_z (pos 1) number && le_z number (pos 9999) && lt_z last number

-- 8: "coordinate outside its range" (01), which is "from -1,000,000 to 1,000,000"
abbrev pub in_range : ℤ → Bool
in_range c = le_z (neg_ℤ (pos 1000000)) c && le_z c (pos 1000000)

abbrev pub coordinates_in : Listed → Bool
coordinates_in l = in_range l.x1 && in_range l.y1 && in_range l.x2 && in_range l.y2

-- run i: 7, then 8, then 17 (document 02, C-18: "after 8 for that run"), "place being the run's index from 0"; by then its numbers are in their ranges
unfoldable pub run_answer : List ℤ → ℕ → Answer
run_answer list i =
    cond (not (follows (number_before list i) (listed_at list i).number)) (Err (WrongNumber i))
    (cond (not (coordinates_in (listed_at list i))) (Err (OutOfRange i))
    (cond (coincide (run_of (listed_at list i))) (Err (Coincident i)) (Ok tt)))

-- so many runs, from index i on: "run by run"
unfoldable pub runs_answer : List ℤ → (left i : ℕ) → Answer
runs_answer list zero i = Ok tt
runs_answer list (suc left) i = first_of (run_answer list i) (runs_answer list left (suc i))

-- 2: "A buffer shorter than 8 bytes plus 19 a run is refused as 2 with place 0"
abbrev pub room_answer : (count room : ℕ) → Answer
room_answer count room = cond (ltb room (8 + 19 * count)) (Err ShortBuffer) (Ok tt)

-- "The order is 3, 9, then 7 and 8 run by run, then 2", with 17 after 8. 3: "A list whose length is no multiple of five is refused as 3 with the list's length as place"; 9: "a
-- 33rd run" (01), whose index is 32.
unfoldable pub list_answer : List ℤ → (room : ℕ) → Answer
list_answer list room =
    cond (not (eqb (length list % 5) 0)) (Err (Cut (length list)))
    (cond (ltb 32 (count_of list)) (Err (TooManyRuns 32)) (first_of (runs_answer list (count_of list) 0) (room_answer (count_of list) room)))
