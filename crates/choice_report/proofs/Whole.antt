-- A text buffer of 72 bytes has room for every choice, and so for its refusal. The first 640 bytes of the job and the first 36,887 of each book decide what is
-- chosen, and a book that is chosen has no more.
use mathlib.Core.Path.{◌≡◌, refl, ap, ap₂, ◌∙◌}
use mathlib.Core.Bool.{Bool, true, false, cond}
use mathlib.Core.List.{List, [], ◌∷◌}
use Prim.Native.Nat.{ℕ, ◌≤◌, ◌<◌, ◌^◌}
use native.Mathlib.Omega.{arith}
use lib.Dec.{leb}
use Rattle.std.specs.Prelude.{Result, Ok, Err}
use lib.ListN.{length, take}
use Rattle.network.specs.Lists.{All}
use Rattle.refusal.specs.declared.Refusal.{Refusal}
use Rattle.refusal.specs.declared.Refusal.TheVariants.{
  ShortWork,
  ShortBuffer,
  Cut,
  UnknownKind,
  Misplaced,
  WrongCount,
  WrongNumber,
  OutOfRange,
  TooManyRuns,
  NoStar,
  NotWhole,
  NoTurn,
  Miscounted,
  OtherJob,
  Untrue,
  Coincident,
}
use Rattle.refusal.specs.Refusal.{refusal_place}
use Rattle.job.specs.declared.Run.{Run as Read}
use Rattle.job.specs.Parse.{Parsed as Job, accepted as formed, refused as unformed, parse}
use Rattle.job.specs.Written.{Bytes}
use Rattle.job.proofs.Prefix.{parse_prefix as job-prefix}
use Rattle.fields.specs.Bytes.{Wrote}
use Rattle.plan.specs.declared.Head.{Head}
use Rattle.plan.specs.Plan.{Entry}
use Rattle.plan.proofs.Length.{book_most}
use Rattle.book.specs.Right.{RightEntry}
use Rattle.book.specs.Parse.{Parsed, accepted, refused, parse_plan}
use Rattle.book.proofs.Written.{accepted_bytes, accepted_right}
use Rattle.book.proofs.Prefix.{parse_prefix}
use Rattle.planner.specs.Verdict.{judged}
use Rattle.judge.specs.Judged.{is_of, is_true, of_book, judgement_of}
use Rattle.choice.specs.declared.Chosen.TheVariants.{First, Second}
use Rattle.choice.specs.Choice.{Choice, lesser, choice_for, choice_of}
use Rattle.report.proofs.Reported.{judged_place}
use Rattle.text.specs.Listed.{Listed}
use Rattle.text.proofs.Listed.{listed_whole}
use Rattle.text.proofs.Length.{chosen_length, refusal_length}
use Rattle.choice_report.specs.ChoiceText.{trench_of, choice_text}

-- ---- a job and books of which so many bytes are read

-- the first 36,887 bytes of each book decide
books_prefix : (q : Job) (first second : List ℕ) → choice_for q (take 36887 first) (take 36887 second) ≡ choice_for q first second
unfolding choice_for
books_prefix (unformed x) first second = refl
books_prefix (formed number runs) first second =
    ap₂ (λ p q. lesser (judgement_of number runs 1 p) (judgement_of number runs 2 q)) (parse_prefix 36887 first (omega arith)) (parse_prefix 36887 second (omega arith))

-- and the first 640 bytes of the job
pub choice_prefix : (job first second : List ℕ) → choice_of (take 640 job) (take 36887 first) (take 36887 second) ≡ choice_of job first second
unfolding choice_of
choice_prefix job first second =
    ap (λ q. choice_for (judged q) (take 36887 first) (take 36887 second)) (job-prefix 640 job (omega arith)) ∙ books_prefix (judged (parse job)) first second

-- ---- a buffer with room

-- a trench figure is a number of 32 bits
trench_fits : (book : List ℕ) → Bytes book → trench_of (parse_plan book) < 2 ^ 32
trench_fits book b = go (parse_plan book) refl
  where
    go : (q : Parsed) → parse_plan book ≡ q → trench_of q < 2 ^ 32
    go (accepted h es) e = omega (arith, (accepted_right book h es b e).head_fits.trench_fits)
    go (refused x) e = omega arith

-- a book that is read is as short as any plan
accepted_short : (book : List ℕ) (h : Head) (es : List Entry) → Bytes book → parse_plan book ≡ accepted h es → length book ≤ 36886
accepted_short book h es b e =
    let r = accepted_right book h es b e in
    omega (arith, ap length (accepted_bytes book h es b e), book_most h es r.few (few es r.entries))
  where
    few : (es : List Entry) → All (RightEntry h.grouped) es → All (λ e. length e.corners ≤ 127) es
    few [] a = tt
    few (e ∷ es) a = (a.0.few, few es a.1)

-- a book's refusal has the book for its place, if any
book_place : (place : ℕ) (x : Refusal) → refusal_place (of_book place x) ≤ place
book_place place ShortWork = omega arith
book_place place ShortBuffer = omega arith
book_place place (Cut at) = omega arith
book_place place (UnknownKind at) = omega arith
book_place place (Misplaced at) = omega arith
book_place place (WrongCount at) = omega arith
book_place place (WrongNumber at) = omega arith
book_place place (OutOfRange at) = omega arith
book_place place (TooManyRuns at) = omega arith
book_place place NoStar = omega arith
book_place place (NotWhole at) = omega arith
book_place place (NoTurn at) = omega arith
book_place place (Miscounted at) = omega arith
book_place place (OtherJob at) = omega arith
book_place place (Untrue at) = omega arith
book_place place (Coincident at) = omega arith

-- a book that passes is no longer than any plan, and one that is refused is so at most at its place
abbrev JudgedIn : (place : ℕ) → List ℕ → Result ℕ Refusal → Type 0
JudgedIn place book (Ok t) = length book ≤ 36886
JudgedIn place book (Err x) = refusal_place x ≤ place

judged_in : (number : ℕ) (runs : List Read) (place : ℕ) (book : List ℕ) → Bytes book → JudgedIn place book (judgement_of number runs place (parse_plan book))
unfolding judgement_of
judged_in number runs place book b = go (parse_plan book) refl
  where
    by_tests : (t : ℕ) (x y : Bool) → length book ≤ 36886 → JudgedIn place book (cond x (cond y (Ok t) (Err (Untrue place))) (Err (OtherJob place)))
    by_tests t true true h = h
    by_tests t true false h = omega arith
    by_tests t false y h = omega arith

    go : (q : Parsed) → parse_plan book ≡ q → JudgedIn place book (judgement_of number runs place q)
    go (refused x) e = book_place place x
    go (accepted h es) e = by_tests h.trench (is_of number runs h es) (is_true runs h es) (accepted_short book h es b e)

-- A book that is chosen has at most 36,886 bytes, and a choice that is refused is so at most at 640.
abbrev pub ChoiceIn : (first second : List ℕ) → Choice → Type 0
ChoiceIn first second (Ok First) = length first ≤ 36886
ChoiceIn first second (Ok Second) = length second ≤ 36886
ChoiceIn first second (Err x) = refusal_place x ≤ 640

lesser_in : (first second : List ℕ) (a b : Result ℕ Refusal) → JudgedIn 1 first a → JudgedIn 2 second b → ChoiceIn first second (lesser a b)
unfolding lesser
lesser_in first second (Err x) b i j = omega arith
lesser_in first second (Ok t) (Err x) i j = omega arith
lesser_in first second (Ok t) (Ok u) i j = go (leb t u)
  where
    go : (c : Bool) → ChoiceIn first second (Ok (cond c First Second))
    go true = i
    go false = j

pub choice_in : (job first second : List ℕ) → Bytes first → Bytes second → ChoiceIn first second (choice_of job first second)
unfolding choice_of choice_for
choice_in job first second f s = go (judged (parse job)) refl
  where
    go : (q : Job) → judged (parse job) ≡ q → ChoiceIn first second (choice_for q first second)
    go (unformed x) e = judged_place job x e
    go (formed number runs) e =
        lesser_in first second (judgement_of number runs 1 (parse_plan first)) (judgement_of number runs 2 (parse_plan second)) (judged_in number runs 1 first f)
        (judged_in number runs 2 second s)

-- so no text is longer than 72 bytes
text_most : (first second : List ℕ) (c : Choice) (a b : ℕ) → ChoiceIn first second c → a < 2 ^ 32 → b < 2 ^ 32 → length (choice_text c a b) ≤ 72
text_most first second (Ok First) a b i h k = chosen_length false a b h k
text_most first second (Ok Second) a b i h k = chosen_length true b a k h
text_most first second (Err x) a b i h k = omega (arith, refusal_length x (omega arith))

-- A text buffer of 72 bytes has room for every text.
pub choice_whole : (job first second text text' : List ℕ) (n : ℕ) → Bytes first → Bytes second → 72 ≤ length text
    → Listed (choice_text (choice_of job first second) (trench_of (parse_plan first)) (trench_of (parse_plan second))) text text' n
    → Wrote (choice_text (choice_of job first second) (trench_of (parse_plan first)) (trench_of (parse_plan second))) text text' n
choice_whole job first second text text' n f s room l =
    let a = trench_of (parse_plan first) in
    let b = trench_of (parse_plan second) in
    let few = text_most first second (choice_of job first second) a b (choice_in job first second f s) (trench_fits first f) (trench_fits second s) in
    listed_whole _ text text' n l (omega arith)
