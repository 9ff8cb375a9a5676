-- A list that is written is read back, every accepted job book is written, and which lists are written.
-- Assumes nothing.
use Prim.Native.Nat.{ℕ, ◌+◌, ◌*◌, ◌%◌, ◌^◌, ◌<◌, ◌≤◌}
use mathlib.Core.Path.{◌≡◌, refl, sym, ap, ◌∙◌}
use mathlib.Core.List.{List, [], append-nil}
use mathlib.Core.Bool.{not}
use native.Mathlib.Omega.{arith}
use borrow.Author.Tests.{eqb-true, ltb-false, not-false, eq-eqb, le-ltb}
use lib.Dec.{eqb, ltb}
use lib.IntN.{ℤ}
use lib.ListN.{length, take, drop, drop_of_length-le}
use lib.Seq.{take-append_seam}
use Rattle.fields.specs.Bytes.{over}
use Rattle.job.specs.declared.Run.{Run}
use Rattle.std.specs.Prelude.{Ok, Err}
use Rattle.job.specs.Written.{bytes_of, Bytes, WellFormed}
use Rattle.job.specs.Parse.{accepted, parse}
use Rattle.job.proofs.Steps.{passed}
use Rattle.job.proofs.Rising.{well_formed_rising, rising_well_formed}
use Rattle.job.proofs.Written.{written_read}
use Rattle.job.proofs.Accepted.{accepted_iff, accepted_length, written_length}
use Rattle.job_writer.specs.Listed.{Answer, count_of, runs_from, runs_answer, room_answer, list_answer}
use Rattle.job_writer.specs.Call.{book_of, call_by, call_of}
use Rattle.job_writer.specs.Books.{list_of, JobBooks}
use Rattle.job_writer.proofs.Runs.{refused_accepted, neither, runs_taken, runs_back, runs_count, list_length}

-- ---- an accepted list

-- what is known of a list that is accepted with a buffer of so many bytes
pub record Listing (list : List ℤ) (room : ℕ) : Type 0 where
  pub whole : length list ≡ 5 * count_of list
  pub few : count_of list ≤ 32
  pub runs_accepted : runs_answer list (count_of list) 0 ≡ Ok tt
  pub long : 8 + 19 * count_of list ≤ room

pub accepted_listing : (list : List ℤ) (room : ℕ) → list_answer list room ≡ Ok tt → Listing list room
unfolding list_answer
accepted_listing list room e =
    let a = passed (not (eqb (length list % 5) 0)) _ _ _ e (refused_accepted _) in
    let b = passed (ltb 32 (count_of list)) _ _ _ a.1 (refused_accepted _) in
    let c = neither (runs_answer list (count_of list) 0) (room_answer (count_of list) room) b.1 in
    let d = passed (ltb room (8 + 19 * count_of list)) _ _ _ c.1 (refused_accepted _) in
    let z = eqb-true (length list % 5) 0 (not-false _ a.0) in
    record { whole = omega arith; few = ltb-false _ _ b.0; runs_accepted = c.0; long = ltb-false _ _ d.0 }

listing_accepted : (list : List ℤ) (room : ℕ) → Listing list room → list_answer list room ≡ Ok tt
unfolding list_answer
listing_accepted list room l =
    rw (eq-eqb (length list % 5) 0 (omega (arith, l.whole)), le-ltb 32 (count_of list) l.few, l.runs_accepted, le-ltb room (8 + 19 * count_of list) l.long)
    refl

-- ---- its runs

abbrev runs_of : List ℤ → List Run
runs_of list = runs_from list (count_of list) 0

-- the runs of an accepted list are well formed, and it is their list
listing_runs : (number : ℕ) (list : List ℤ) (room : ℕ) → number < 2 ^ 32 → Listing list room → (list_of (runs_of list) ≡ list) × WellFormed number (runs_of list)
listing_runs number list room fits l =
    let t = runs_taken list (count_of list) 0 0 (omega (arith, l.whole)) refl l.runs_accepted in
    let all : length list ≤ 5 * (0 + count_of list) = omega (arith, l.whole) in
    let none : drop (5 * (0 + count_of list)) list ≡ [] = drop_of_length-le list all in
    let n = runs_count list (count_of list) 0 in (
      sym (t.listed ∙ rw (none, append-nil)),
      rising_well_formed number (runs_of list) fits (omega (arith, l.few)) t.up,
    )

-- the list of well-formed runs is accepted, and has these runs
well_formed_listing : (number : ℕ) (runs : List Run) (room : ℕ) → WellFormed number runs → 8 + 19 * length runs ≤ room
    → Listing (list_of runs) room × (runs_of (list_of runs) ≡ runs)
well_formed_listing number runs room w h =
    let n = list_length runs in
    let c : count_of (list_of runs) ≡ length runs = omega arith in
    let b = runs_back (list_of runs) runs 0 0 refl refl (well_formed_rising number runs w) in (
      record { whole = omega arith; few = omega (arith, w.most); runs_accepted = rw c b.accepted; long = omega arith },
      rw c b.same,
    )

-- ---- the call

-- a call that writes accepts, and says the book's length
written_accepted : (a : Answer) (book out : List ℕ) (n : ℕ) → (call_by a book out).says ≡ Ok n → (a ≡ Ok tt) × (n ≡ length book)
written_accepted (Ok _) book out n e = (refl, cc)
written_accepted (Err x) book out n e = absurd (let z : ◌≡◌ {A = ℕ} 0 1 = cc in omega arith)

-- the call on a list that is accepted
accepted_call : (number : ℕ) (list : List ℤ) (out : List ℕ) → list_answer list (length out) ≡ Ok tt
    → call_of number list out ≡ call_by (Ok tt) (book_of number list) out
unfolding call_of
accepted_call number list out e = ap (λ a. call_by a (book_of number list) out) e

-- a call that writes, with its list
writing : (number : ℕ) (list : List ℤ) (out : List ℕ) (n : ℕ) → (call_of number list out).says ≡ Ok n
    → Listing list (length out) × (n ≡ length (book_of number list)) × ((call_of number list out).out ≡ over (book_of number list) out)
unfolding call_of
writing number list out n e =
    let w = written_accepted (list_answer list (length out)) (book_of number list) out n e in
    (accepted_listing list (length out) w.0, w.1, ap (λ c. c.out) (accepted_call number list out w.0))

-- no book is longer than that of 32 runs
pub written_most : (number : ℕ) (list : List ℤ) (out : List ℕ) (n : ℕ) → (call_of number list out).says ≡ Ok n → n ≤ 616
written_most number list out n e =
    let w = writing number list out n e in
    omega (arith, w.1, w.0.few, written_length number (runs_of list), runs_count list (count_of list) 0)

-- "The reader gives the same job number and runs back"
read_back : (number : ℕ) (list : List ℤ) (out : List ℕ) (n : ℕ) → number < 2 ^ 32 → (call_of number list out).says ≡ Ok n
    → (runs : List Run) × (parse (take n (call_of number list out).out) ≡ accepted number runs) × (list_of runs ≡ list)
unfolding over
read_back number list out n fits e =
    let w = writing number list out n e in
    let r = listing_runs number list (length out) fits w.0 in
    let book : take n (call_of number list out).out ≡ book_of number list = rw (w.1, w.2) (take-append_seam (book_of number list) _) in
    (runs_of list, ap parse book ∙ written_read number (runs_of list) r.1, r.0)

-- "any accepted job book is what the writer makes of its runs and job number"
every_book : (s out : List ℕ) (number : ℕ) (runs : List Run) → Bytes s → parse s ≡ accepted number runs → length s ≤ length out
    → call_of number (list_of runs) out ≡ record { says = Ok (length s); out = over s out }
every_book s out number runs b e h =
    let w = (accepted_iff s number runs b).0 e in
    let n = accepted_length s number runs b e in
    let l = well_formed_listing number runs (length out) w.0 (omega arith) in
    let book : book_of number (list_of runs) ≡ s = ap (bytes_of number) l.1 ∙ sym w.1 in
    accepted_call number (list_of runs) out (listing_accepted (list_of runs) (length out) l.0) ∙ ap (λ k. call_by (Ok tt) k out) book

pub job_books : JobBooks
job_books =
    record {
      read_back = read_back;
      every_book = every_book;
      accepted_iff = λ number list out fits. (
        λ w.
            let v = writing number list out w.0 w.1 in
            let r = listing_runs number list (length out) fits v.0 in
            (runs_of list, sym r.0, r.1, omega (arith, v.0.long, runs_count list (count_of list) 0)),
        λ w.
            let l = well_formed_listing number w.0 (length out) w.2 w.3 in
            (_, ap (λ c. c.says) (accepted_call number list out (rw w.1 (listing_accepted (list_of w.0) (length out) l.0)))),
      );
    }
