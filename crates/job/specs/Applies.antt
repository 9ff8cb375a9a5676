-- When a refusal of the bytes applies: the list 3 to 9 of document 01, "What a call says and leaves", and 17 of document 02, C-18, each number by itself, for
-- every place.
-- Nothing is read in order here, and several can apply, also to one record: a record need not be whole to be misplaced (5) or one run too many (9),
-- so 3 can apply beside them. Which of those that apply is given, `Order` says.
-- Assumes nothing.
use Rattle.std.specs.Prelude.{ℕ, suc, ◌+◌, ◌*◌, ◌<◌, ◌≤◌, ◌≡◌, ◌⊎◌, List, length, get_or}
use Rattle.job.specs.Fields.{word2, word4, biased_of}
use Rattle.refusal.specs.declared.Refusal.{Refusal}
use Rattle.refusal.specs.declared.Refusal.TheVariants.{Cut, UnknownKind, Misplaced, WrongCount, WrongNumber, OutOfRange, TooManyRuns, Coincident}

-- "Each record is one byte of kind, then a body whose length the kind fixes": the kinds, their bytes, and how many bytes a record has, the
-- kind byte among them.
pub data Kind : Type 0 where
  head run end : Kind

abbrev pub byte_of : Kind → ℕ
byte_of = elim [ head ↦ 0x48 | run ↦ 0x52 | end ↦ 0x5A ]

abbrev pub size_of : Kind → ℕ
size_of = elim [ head ↦ 5 | run ↦ 19 | end ↦ 3 ]

-- a record of the kind starts at the place: its kind byte stands there
abbrev pub Starts : Kind → List ℕ → ℕ → Type 0
Starts k s p = (p < length s) × (get_or s p 0 ≡ byte_of k)

-- it is whole: the bytes do not end inside it
abbrev pub Whole : Kind → List ℕ → ℕ → Type 0
Whole k s p = Starts k s p × (p + size_of k ≤ length s)

-- the place of run i, from 0, which is also the place of the record behind i runs
abbrev pub place : ℕ → ℕ
place n = 5 + 19 * n

-- "One head, then the runs": the bytes begin with a head and n runs, and p is the place behind them.
pub record Behind (s : List ℕ) (n p : ℕ) : Type 0 where
  pub at : p ≡ place n
  pub headed : Whole head s 0
  pub runs : (i : ℕ) → i < n → Whole run s (place i)

-- a record begins at p: the first one, or one behind the head and some runs
abbrev pub Begins : List ℕ → ℕ → Type 0
Begins s p = (p ≡ 0) ⊎ ((n : ℕ) × Behind s n p)

-- the number in the first two bytes of a body: a run's "run number", an end's "number of run records"
abbrev pub number_at : List ℕ → ℕ → ℕ
number_at s p = word2 s (p + 1)

-- coordinate i of a run, from 0: first x, first y, second x, second y, "4 bytes each" behind the run number, biased (see `Fields`)
abbrev pub coordinate_at : List ℕ → ℕ → ℕ → ℕ
coordinate_at s p i = biased_of (word4 s (p + 3 + 4 * i))

-- A refusal applies to the bytes of a job. 1, 2 and 11 are not about the bytes.
pub data AppliesIn (s : List ℕ) : Refusal → Type 0 where
  -- 3: "the bytes end inside a record, or before an end record (then the place is the length)"
  cut_inside : {p : ℕ} (k : Kind) → Begins s p → Starts k s p → length s < p + size_of k → AppliesIn s (Cut p)
  cut_before_end : Begins s (length s) → AppliesIn s (Cut (length s))
  -- 4: "unknown kind"
  unknown_kind : {p : ℕ} → Begins s p → p < length s → ((k : Kind) → get_or s p 0 ≡ byte_of k → ⊥) → AppliesIn s (UnknownKind p)
  -- 5: "first record no head, a second head, or a byte after the end record (that byte's place; it isn't read further)"
  no_head : 0 < length s → (get_or s 0 0 ≡ byte_of head → ⊥) → AppliesIn s (Misplaced 0)
  second_head : {n p : ℕ} → Behind s n p → Starts head s p → AppliesIn s (Misplaced p)
  after_end : {n p : ℕ} → Behind s n p → Whole end s p → p + size_of end < length s → AppliesIn s (Misplaced (p + size_of end))
  -- 6: "the end's count differs from the runs read"
  wrong_count : {n p : ℕ} → Behind s n p → Whole end s p → (number_at s p ≡ n → ⊥) → AppliesIn s (WrongCount p)
  -- 7: "run number 0, above 9,999 or not above the one before"
  number_zero : {n p : ℕ} → Behind s n p → Whole run s p → number_at s p ≡ 0 → AppliesIn s (WrongNumber p)
  number_above : {n p : ℕ} → Behind s n p → Whole run s p → 9999 < number_at s p → AppliesIn s (WrongNumber p)
  not_rising : {n p : ℕ} → Behind s (suc n) p → Whole run s p → number_at s p ≤ number_at s (place n) → AppliesIn s (WrongNumber p)
  -- 8: "coordinate outside its range"
  out_of_range : {n p : ℕ} (i : ℕ) → Behind s n p → Whole run s p → i < 4 → 2000000 < coordinate_at s p i → AppliesIn s (OutOfRange p)
  -- 9: "a 33rd run"
  run_33 : {p : ℕ} → Behind s 32 p → Starts run s p → AppliesIn s (TooManyRuns p)
  -- 17: "a run whose two points coincide"
  coincident : {n p : ℕ} → Behind s n p → Whole run s p → coordinate_at s p 0 ≡ coordinate_at s p 2 → coordinate_at s p 1 ≡ coordinate_at s p 3
      → AppliesIn s (Coincident p)
