-- How a book is judged for a job: "for the first book the refusal that the C-12 reader gives, then 15, then 16 .. for a book's refusal the place is 1 or 2, the
-- book" (02, C-17). Everything here can be computed; that the two tests together say `True`, and no more, is `true_iff`.
use Rattle.std.specs.Prelude.{Bool, false, cond, ◌&&◌, ◌||◌, List, [], ◌∷◌, ℕ, eqb, length, get_or, Result, Ok, Err}
use Rattle.network.specs.Lists.{sum, any, every}
use Rattle.network.specs.Plane.{Point, Run, distance, same_point}
use Rattle.network.specs.Grid.{Grid}
use Rattle.network.specs.Hanan.{hanan}
use Rattle.network.specs.Route.{Route, pieces, last_from}
use Rattle.network.specs.Graph.{run_at, below}
use Rattle.refusal.specs.declared.Refusal.{Refusal}
use Rattle.refusal.specs.declared.Refusal.TheVariants.{
  ShortWork,
  ShortBuffer,
  Cut,
  UnknownKind,
  Misplaced,
  WrongCount,
  WrongNumber,
  OutOfRange,
  TooManyRuns,
  NoStar,
  NotWhole,
  NoTurn,
  Miscounted,
  OtherJob,
  Untrue,
  Coincident,
}
use Rattle.job.specs.declared.Run.{Run as Read}
use Rattle.plan.specs.declared.Head.{Head}
use Rattle.plan.specs.Plan.{Entry, head_of, meets_of, centre_figure}
use Rattle.book.specs.Parse.{Parsed, accepted, refused}
use Rattle.planner.specs.Call.{runs_of, numbers_of}
use Rattle.judge.specs.True.{drawn_in}

-- ---- a Manhattan path, tested

abbrev pub starts_at : Route → Point → Bool
starts_at [] q = false
starts_at (p ∷ l) q = same_point p q

abbrev pub ends_at : Route → Point → Bool
ends_at [] q = false
ends_at (p ∷ l) q = same_point (last_from p l) q

abbrev pub is_vertex : Grid → Point → Bool
is_vertex g p = any (λ x. eqb x p.x) g.columns && any (λ y. eqb y p.y) g.rows

abbrev pub is_straight : Run → Bool
is_straight r = eqb r.first.x r.second.x || eqb r.first.y r.second.y

unfoldable pub is_manhattan : Grid → Run → Route → Bool
is_manhattan g run route =
    starts_at route run.first
    && (ends_at route run.second
    && (every (is_vertex g) route && (every is_straight (pieces route) && eqb (sum distance (pieces route)) (distance run))))

-- ---- a book, tested

-- entry i of a book
abbrev pub entry_at : List Entry → ℕ → Entry
entry_at es i = get_or es i (record { number = 0; meets = 0; centre = 0; corners = [] })

-- 15: "a book whose job number, run count or run numbers in order differ from the job's"
unfoldable pub is_of : (number : ℕ) (runs : List Read) → Head → List Entry → Bool
is_of number runs h es =
    eqb h.job number
    && (eqb h.runs (length runs) && every (λ i. eqb (entry_at es i).number (get_or (numbers_of runs) i 0)) (below (length runs)))

-- 16: "a book of the older kinds, or not true": first its head, ..
unfoldable pub is_head : List Read → Head → List Entry → Bool
is_head runs h es =
    let is = head_of h.job (runs_of runs) (drawn_in es) in
    h.grouped && (eqb h.trench is.trench && (eqb h.saved is.saved && (eqb h.pits is.pits && eqb h.last is.last)))

-- .. then the entry of each run
unfoldable pub is_entry : List Read → List Entry → ℕ → Bool
is_entry runs es i =
    eqb (entry_at es i).meets (meets_of (runs_of runs) i)
    && (eqb (entry_at es i).centre (centre_figure (numbers_of runs) (runs_of runs) i)
    && is_manhattan (hanan (runs_of runs)) (run_at (runs_of runs) i) (entry_at es i).corners)

unfoldable pub is_true : List Read → Head → List Entry → Bool
is_true runs h es = is_head runs h es && every (is_entry runs es) (below (length runs))

-- ---- the judgement

-- the refusal of a book has the book for its place
abbrev pub of_book : (place : ℕ) → Refusal → Refusal
of_book place ShortWork = ShortWork
of_book place ShortBuffer = ShortBuffer
of_book place (Cut at) = Cut place
of_book place (UnknownKind at) = UnknownKind place
of_book place (Misplaced at) = Misplaced place
of_book place (WrongCount at) = WrongCount place
of_book place (WrongNumber at) = WrongNumber place
of_book place (OutOfRange at) = OutOfRange place
of_book place (TooManyRuns at) = TooManyRuns place
of_book place NoStar = NoStar
of_book place (NotWhole at) = NotWhole place
of_book place (NoTurn at) = NoTurn place
of_book place (Miscounted at) = Miscounted place
of_book place (OtherJob at) = OtherJob place
of_book place (Untrue at) = Untrue place
of_book place (Coincident at) = Coincident place

-- of the first book or of the second, by what the reader says of it: its trench figure, or its refusal
unfoldable pub judgement_of : (number : ℕ) (runs : List Read) (place : ℕ) → Parsed → Result ℕ Refusal
judgement_of number runs place (refused x) = Err (of_book place x)
judgement_of number runs place (accepted h es) =
    cond (is_of number runs h es) (cond (is_true runs h es) (Ok h.trench) (Err (Untrue place))) (Err (OtherJob place))
