-- The reader's loop: after n runs, those runs in front of what is left to read are the whole answer.
-- Assumes nothing.
use Prim.Native.Nat.{ℕ, zero, suc, ◌+◌, ◌-◌, ◌*◌, ◌<◌, ◌≤◌}
use mathlib.Core.Path.{◌≡◌, refl, sym, ap, ◌∙◌}
use mathlib.Core.List.{List, [], ◌∷◌, ◌++◌}
use native.Mathlib.Omega.{arith}
use native.Mathlib.Numerals.{add-one}
use lib.ListN.{length, drop, length-append, length-drop}
use lib.Seq.{drop-drop}
use Rattle.job.specs.declared.Run.{Run}
use Rattle.job.specs.declared.Job.{Job}
use Rattle.refusal.specs.declared.Refusal.{Refusal}
use Rattle.refusal.specs.declared.Refusal.TheVariants.{Cut, UnknownKind, Misplaced}
use Rattle.job.specs.declared.Record.{Record}
use Rattle.job.specs.declared.Record.TheVariants as rec
use Rattle.std.specs.Prelude.{Some, None, Ok, Err}
use Rattle.job.specs.Records.{record_of}
use Rattle.job.specs.Parse.{Parsed, accepted, refused, step_of, with_first, proceed, read_from, first_by, parse}
use Rattle.job.specs.Reading.{answer_said, head_number, job_of, with_run, runs_before, Blank, ReadsInto}
use Rattle.job.proofs.Decoded.{record_says}
use Rattle.job.proofs.Columns.{job_more}
use Rattle.job.proofs.Steps.{taken}

-- those are n runs
pub length_before : (s : List ℕ) (n : ℕ) → length (runs_before s n) ≡ n
unfolding runs_before
length_before s zero = refl
length_before s (suc n) = length-append (runs_before s n) _ ∙ ap (λ (k : ℕ). k + 1) (length_before s n) ∙ add-one n

-- runs in front of what a later part of the reading says
abbrev pub with_all : List Run → Parsed → Parsed
with_all [] p = p
with_all (r ∷ runs) p = with_first r (with_all runs p)

-- one more run behind others is in front of what follows
with_snoc : (runs : List Run) (r : Run) (p : Parsed) → with_all (runs ++ (r ∷ [])) p ≡ with_all runs (with_first r p)
with_snoc [] r p = refl
with_snoc (q ∷ runs) r p = ap (with_first q) (with_snoc runs r p)

-- a refusal stays, whatever runs came before it
with_refused : (runs : List Run) (x : Refusal) → with_all runs (refused x) ≡ refused x
with_refused [] x = refl
with_refused (r ∷ runs) x = ap (with_first r) (with_refused runs x)

-- runs in front of no run are those runs
with_accepted : (runs : List Run) (number : ℕ) → with_all runs (accepted number []) ≡ accepted number runs
with_accepted [] number = refl
with_accepted (r ∷ runs) number = ap (with_first r) (with_accepted runs number)

-- what holds when the loop looks at a record
pub record SoFar (s : List ℕ) (found : Job) (at last : ℕ) : Type 0 where
  pub most : found.count ≤ 32
  pub place : at ≡ 5 + 19 * found.count
  pub within : at ≤ length s
  pub runs : found ≡ job_of found.number (runs_before s found.count)
  pub rest : with_all (runs_before s found.count) (read_from (33 - found.count) found.number at found.count last (drop at s)) ≡ parse s

-- a refusal, with the runs before it in the arrays
refuses : (s : List ℕ) (x : Refusal) (found : Job) → refused x ≡ parse s → found ≡ job_of found.number (runs_before s found.count) → ReadsInto s (Err x) found
refuses s x found e h =
    record { answer = ap answer_said e; held = h; whole = λ a. absurd (let z : ◌≡◌ {A = ℕ} 0 1 = cc a in omega arith) }

-- arrays of zeros hold no run
blank_none : (j : Job) → Blank j → (number : ℕ) → record j { number = number; count = 0 } ≡ job_of number []
blank_none j blank number i =
    record {
      number = number;
      count = 0;
      numbers = blank.0 i;
      x = record { first = blank.1 i; second = blank.2 i };
      y = record { first = blank.3 i; second = blank.4 i };
    }

-- a first record that is no head
pub first_refused : (s : List ℕ) (x : Refusal) (found : Job) → Blank found → head_number (record_of s) ≡ Err x
    → ReadsInto s (Err x) (record found { number = 0; count = 0 })
unfolding parse first_by runs_before
first_refused s x found blank e = rw (blank_none found blank 0) (refuses s x (job_of 0 []) (go (record_of s) e) refl)
  where
    go : (g : Record) → head_number g ≡ Err x → refused x ≡ first_by g (drop 5 s)
    go rec.Unknown e = let same : x ≡ UnknownKind 0 = cc e in ap refused same
    go rec.Cut e = let same : x ≡ Cut 0 = cc e in ap refused same
    go (rec.Head number) e = absurd (let z : ◌≡◌ {A = ℕ} 0 1 = cc e in omega arith)
    go (rec.Run r) e = let same : x ≡ Misplaced 0 = cc e in ap refused same
    go (rec.End count) e = let same : x ≡ Misplaced 0 = cc e in ap refused same

-- a record whose number is that of a head is a head
is_head : (g : Record) (number : ℕ) → head_number g ≡ Ok number → g ≡ rec.Head number
is_head rec.Unknown number e = absurd (let z : ◌≡◌ {A = ℕ} 0 1 = cc e in omega arith)
is_head rec.Cut number e = absurd (let z : ◌≡◌ {A = ℕ} 0 1 = cc e in omega arith)
is_head (rec.Head k) number e = cc e
is_head (rec.Run r) number e = absurd (let z : ◌≡◌ {A = ℕ} 0 1 = cc e in omega arith)
is_head (rec.End count) number e = absurd (let z : ◌≡◌ {A = ℕ} 0 1 = cc e in omega arith)

-- after the head
pub so_far_none : (s : List ℕ) (number : ℕ) (found : Job) → Blank found → head_number (record_of s) ≡ Ok number
    → SoFar s (record found { number = number; count = 0 }) 5 0
unfolding parse first_by runs_before
so_far_none s number found blank h =
    let e = is_head (record_of s) number h in
    let says = rw e at (record_says s) in
    rw (blank_none found blank number)
    (record {
      most = omega arith;
      place = refl;
      within = omega (arith, says.1, length-drop 1 s);
      runs = refl;
      rest = rw e;
    })

module _ (s : List ℕ) (found : Job) (at last : ℕ) (h : SoFar s found at last) where
  -- the runs so far, in front of what the record at hand says, are the whole answer
  step_whole : with_all (runs_before s found.count)
      (proceed found.number (λ r. read_from (33 - suc found.count) found.number (at + 19) (suc found.count) r.number (drop 19 (drop at s))) (step_of at found.count last (drop at s)))
      ≡ parse s
  unfolding read_from
  step_whole = let p : 33 - found.count ≡ suc (33 - suc found.count) = omega (arith, h.most) in rw p at h.rest

  -- the run at hand is the next of the first runs
  before_more : (r : Run) → record_of (drop at s) ≡ rec.Run r → runs_before s (suc found.count) ≡ runs_before s found.count ++ (r ∷ [])
  unfolding runs_before
  before_more r e = rw (← h.place, e)

  -- there is room for one more run
  pub so_far_room : (r : Run) → step_of at found.count last (drop at s) ≡ Ok (Some r) → found.count < 32
  so_far_room r e = (taken at found.count last (drop at s) (record_of (drop at s)) r e).below

  -- after one more run
  pub so_far_more : (r : Run) → step_of at found.count last (drop at s) ≡ Ok (Some r) → SoFar s (with_run found r) (at + 19) r.number
  so_far_more r e =
      let t = taken at found.count last (drop at s) (record_of (drop at s)) r e in
      let says = rw t.is at (record_says (drop at s)) in
      let more = before_more r t.is in
      let added = job_more found (runs_before s found.count) r h.runs (length_before s found.count) t.below in
      rw add-one
      (record {
        most = t.below;
        place = omega (arith, h.place);
        within = omega (arith, says.1, length-drop 1 (drop at s), length-drop at s);
        runs = rw more (rw add-one at added);
        rest = rw (more, with_snoc, ← drop-drop 19 at s) (rw e at step_whole);
      })

  -- at the end
  pub so_far_end : step_of at found.count last (drop at s) ≡ Ok None → ReadsInto s (Ok tt) found
  so_far_end e =
      let whole = sym (with_accepted (runs_before s found.count) found.number) ∙ (rw e at step_whole) in
      record { answer = ap answer_said whole; held = h.runs; whole = λ _. sym whole }

  -- at a refusal
  pub so_far_refused : (x : Refusal) → step_of at found.count last (drop at s) ≡ Err x → ReadsInto s (Err x) found
  so_far_refused x e = refuses s x found (sym (with_refused (runs_before s found.count) x) ∙ (rw e at step_whole)) h.runs
