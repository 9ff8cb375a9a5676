-- The listing of a book is the text of what reading it says. A text buffer of 74,837 bytes has room for all of it, and the first 36,887 bytes of the book
-- decide it.
use mathlib.Core.Path.{◌≡◌, refl, sym, ap, ◌∙◌}
use mathlib.Core.List.{List, [], append-nil}
use Prim.Native.Nat.{ℕ, ◌≤◌}
use native.Mathlib.Omega.{arith}
use lib.ListN.{length, take}
use Rattle.job.specs.Written.{Bytes}
use Rattle.refusal.specs.declared.Refusal.{Refusal}
use Rattle.plan.specs.declared.Head.{Head}
use Rattle.plan.specs.Plan.{Entry, book_bytes}
use Rattle.fields.specs.Bytes.{Wrote}
use Rattle.std.specs.Prelude.{Ok, Err}
use Rattle.book.specs.declared.Reading.{Reading}
use Rattle.book.specs.Parse.{Parsed, accepted, refused, parse_plan}
use Rattle.book.specs.Reading.{reading_of}
use Rattle.book.proofs.Accepted.{reading_accepted, reading_refused}
use Rattle.book.proofs.Written.{accepted_bytes, accepted_right}
use Rattle.book.proofs.Prefix.{parse_prefix}
use Rattle.text.specs.Text.{plan_text, refusal_text}
use Rattle.text.specs.Listing.{listing_of}
use Rattle.text.specs.Listed.{Listed}
use Rattle.text.proofs.Listed.{listed_whole}
use Rattle.text.proofs.Plan.{plan_listing}
use Rattle.text.proofs.Length.{plan_text_most, refusal_length}
use Rattle.plan_report.specs.BookListed.{BookListed}
use Rattle.plan_report.proofs.Within.{place_most}

-- the listing of the bytes of an accepted book is the text of what was read
accepted_listing : (book : List ℕ) (h : Head) (es : List Entry) → Bytes book → parse_plan book ≡ accepted h es → listing_of book ≡ plan_text h es
accepted_listing book h es b e =
    ap listing_of (sym (append-nil (book_bytes h es) ∙ accepted_bytes book h es b e)) ∙ plan_listing h es (accepted_right book h es b e) []

module _ (book text text' : List ℕ) (n : ℕ) where
  -- the book is accepted, and its records are listed
  pub plan_due : Bytes book → (r : Reading) → Ok r ≡ reading_of (parse_plan book) → Listed (listing_of book) text text' n → BookListed (parse_plan book) text text' n
  plan_due b r is l =
      let (es, e, places) = reading_accepted (parse_plan book) r is in
      rw (e, ← accepted_listing book r.head es b e) l

  -- the book is refused, and the refusal is listed
  pub refusal_due : (x : Refusal) → Err x ≡ reading_of (parse_plan book) → Listed (refusal_text x) text text' n → BookListed (parse_plan book) text text' n
  refusal_due x is l = rw (reading_refused (parse_plan book) x is) l

-- ---- a buffer with room

-- the whole text stands in the buffer, and later bytes are untouched
abbrev pub BookListedWhole : Parsed → (text text' : List ℕ) → ℕ → Type 0
BookListedWhole (accepted h es) text text' n = Wrote (plan_text h es) text text' n
BookListedWhole (refused x) text text' n = Wrote (refusal_text x) text text' n

-- A text buffer of 74,837 bytes has room for every text.
pub book_whole : (book text text' : List ℕ) (n : ℕ) → Bytes book → 74837 ≤ length text → BookListed (parse_plan book) text text' n
    → BookListedWhole (parse_plan book) text text' n
book_whole book text text' n b room l = go (parse_plan book) refl l
  where
    go : (q : Parsed) → parse_plan book ≡ q → BookListed q text text' n → BookListedWhole q text text' n
    go (accepted h es) e l =
        let few = plan_text_most h es (accepted_right book h es b e) in
        listed_whole _ text text' n l (omega arith)
    go (refused x) e l =
        let place = place_most book x e in
        listed_whole _ text text' n l (omega (arith, refusal_length x (omega arith)))

-- ---- a book of which 36,887 bytes are read

-- The first 36,887 bytes of a book decide what is listed of it.
pub book_prefix : (book text text' : List ℕ) (n : ℕ) → BookListed (parse_plan (take 36887 book)) text text' n → BookListed (parse_plan book) text text' n
book_prefix book text text' n l = rw (parse_prefix 36887 book (omega arith)) at l
