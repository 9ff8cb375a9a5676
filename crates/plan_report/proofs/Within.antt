-- A refusal of a book is told at a place among its bytes, or right behind them.
-- Each record that is taken lies in the book, so the record behind it begins there or right behind the book; so do the records whose counts are compared.
use mathlib.Core.Path.{◌≡◌, refl, subst, ◌∙◌}
use mathlib.Core.Bool.{Bool, not, ◌||◌}
use mathlib.Core.List.{List, [], ◌∷◌}
use Prim.Native.Nat.{ℕ, zero, suc, ◌+◌, ◌*◌, ◌≤◌}
use native.Mathlib.Omega.{arith}
use borrow.Author.Tests.{ltb-true}
use lib.Dec.{ltb, leb, eqb}
use lib.ListN.{length, take, drop, length-take, length-drop}
use Rattle.std.specs.Prelude.{Result, Ok, Err}
use Rattle.job.specs.Fields.{biased_of}
use Rattle.job.proofs.Decoded.{by_test}
use Rattle.refusal.specs.declared.Refusal.{Refusal}
use Rattle.refusal.specs.Refusal.{refusal_place}
use Rattle.plan.specs.declared.Head.{Head}
use Rattle.plan.specs.Records.{route_size}
use Rattle.plan.specs.Plan.{total_corners}
use Rattle.records.specs.declared.Record.{Record}
use Rattle.records.specs.declared.Record.TheVariants as rec
use Rattle.records.specs.Records.{record_of}
use Rattle.book.specs.declared.Corner.{Corner}
use Rattle.book.specs.declared.Route.{Route}
use Rattle.book.specs.declared.Walk.{Walk}
use Rattle.book.specs.declared.Step.{Step}
use Rattle.book.specs.declared.Step.TheVariants as step
use Rattle.book.specs.Parse.{
  Parsed,
  accepted,
  refused,
  start,
  begun,
  passed,
  in_range,
  no_turn,
  corner_step,
  mixed,
  step_by,
  step_of,
  Told,
  Rest,
  rest,
  stopped,
  with_corner,
  with_route,
  proceed,
  rest_from,
  is_grouped,
  rest_of,
  entries_of,
  behind,
  miscounted,
  counted,
  agreed,
  parse_by,
  parse_plan,
}
use Rattle.book.proofs.Taken.{Took, record_long, step_took}
use Rattle.book.proofs.Prefix.{parse_prefix}

module _ (m : ℕ) where
  -- ---- the records

  -- a step that refuses does so at most at m
  abbrev StepIn : Result Step Refusal → Type 0
  StepIn (Ok s) = Unit {0}
  StepIn (Err x) = refusal_place x ≤ m

  -- a step looks at a record that begins at most there, or at the byte behind an end
  step_by_lem : (at : ℕ) (w : Walk) (left : ℕ) (g : Record) → at + left ≤ m → StepIn (step_by at w left g)
  unfolding step_by corner_step
  step_by_lem at w left (rec.Head h) k = omega arith
  step_by_lem at w left (rec.Route g number meets said centre) k = by_test StepIn (mixed g w.grouped || leb 32 w.routes) (λ _. omega arith) (λ _. tt)
  step_by_lem at w left (rec.Corner x y) k =
      let c : Corner = record { x = biased_of x; y = biased_of y } in
      by_test StepIn (eqb w.routes 0 || leb 127 w.corners) (λ _. omega arith)
      (λ _. by_test StepIn (not (in_range c)) (λ _. omega arith) (λ _. by_test StepIn (no_turn w c) (λ _. omega arith) (λ _. tt)))
  step_by_lem at w left (rec.End total) k = by_test StepIn (ltb 3 left) (λ t. let h = ltb-true 3 left t in omega arith) (λ _. tt)
  step_by_lem at w left rec.Other k = omega arith

  -- the bytes of routes and their corners
  abbrev size_of : (grouped : Bool) → List Told → ℕ
  size_of g ts = route_size g * length ts + 9 * total_corners (entries_of ts)

  -- the records from a place on end at most at m, or are refused at most there
  abbrev RestIn : (grouped : Bool) (at : ℕ) → Rest → Type 0
  RestIn g at (rest cs ts total) = at + 9 * length cs + size_of g ts ≤ m
  RestIn g at (stopped x) = refusal_place x ≤ m

  -- one more route in front
  route_in_lem : (g : Bool) (at : ℕ) (r : Route) (k : Rest) → RestIn g (at + route_size g) k → RestIn g at (with_route r k)
  route_in_lem g at r (rest cs ts total) h = omega arith
  route_in_lem g at r (stopped x) h = h

  -- one more corner in front
  corner_in_lem : (g : Bool) (at : ℕ) (c : Corner) (k : Rest) → RestIn g (at + 9) k → RestIn g at (with_corner c k)
  corner_in_lem g at c (rest cs ts total) h = omega arith
  corner_in_lem g at c (stopped x) h = h

  -- so the records of bytes that end at most at m
  rest_in : (n at : ℕ) (w : Walk) (b : List ℕ) → at + length b ≤ m → RestIn w.grouped at (rest_from n at w b)
  unfolding rest_from
  rest_in zero at w b h = omega arith
  rest_in (suc n) at w b h =
      go (step_of at w b) (step_took at w b) (step_by_lem at w (length b) (record_of b) h)
      (λ k v l. rest_in n (at + k) v (drop k b) (omega (arith, length-drop k b)))
    where
      go : (s : Result Step Refusal) → Took b w (record_of b) s → StepIn s → ((k : ℕ) (v : Walk) → k ≤ length b → RestIn v.grouped (at + k) (rest_from n (at + k) v (drop k b)))
          → RestIn w.grouped at (proceed (rest_from n) at w b s)
      go (Ok (step.Route r)) t i later =
          let size = route_size w.grouped in
          route_in_lem w.grouped at r (rest_from n (at + size) (begun w) (drop size b)) (later size (begun w) t.long)
      go (Ok (step.Corner c)) t i later = corner_in_lem w.grouped at c (rest_from n (at + 9) (passed w c) (drop 9 b)) (later 9 (passed w c) t.long)
      go (Ok (step.End total)) t i later = omega arith
      go (Err x) t i later = i

  -- ---- the counts

  -- a book that is refused is refused at most at m
  abbrev ParsedIn : Parsed → Type 0
  ParsedIn (accepted h es) = Unit {0}
  ParsedIn (refused x) = refusal_place x ≤ m

  -- the count of each route is told at its place, that of the end at the end's
  counted_in : (g : Bool) (at : ℕ) (ts : List Told) (ending : ℕ → Parsed) → at + size_of g ts ≤ m → ((end : ℕ) → end ≤ m → ParsedIn (ending end))
      → ParsedIn (counted g at ts ending)
  unfolding counted
  counted_in g at [] ending h last = last at (omega arith)
  counted_in g at (t ∷ ts) ending h last =
      by_test ParsedIn (miscounted t) (λ _. omega arith) (λ _. counted_in g (behind g at t.entry) ts ending (omega arith) last)

  -- that of the head at 0
  agreed_in : (h : Head) (ts : List Told) (total : ℕ) → 19 + size_of h.grouped ts ≤ m → ParsedIn (agreed h ts total)
  unfolding agreed
  agreed_in h ts total k =
      by_test ParsedIn (not (eqb h.runs (length ts))) (λ _. omega arith)
      (λ _. counted_in h.grouped 19 ts _ k
      (λ end l. by_test ParsedIn (not (eqb total (total_corners (entries_of ts)))) (λ _. l) (λ _. tt)))

  -- by the first record, and those behind it
  parse_by_lem : (g : Record) (k : Rest) → ((h : Head) → g ≡ rec.Head h → RestIn h.grouped 19 k) → ParsedIn (parse_by g k)
  unfolding parse_by
  parse_by_lem (rec.Head h) (rest cs ts total) f = let i = f h refl in agreed_in h ts total (omega arith)
  parse_by_lem (rec.Head h) (stopped x) f = f h refl
  parse_by_lem (rec.Route q number meets said centre) k f = omega arith
  parse_by_lem (rec.Corner x y) k f = omega arith
  parse_by_lem (rec.End total) k f = omega arith
  parse_by_lem rec.Other k f = omega arith

-- ---- the book

-- a book that is refused is refused at one of its bytes, or right behind them
parse_in : (s : List ℕ) → ParsedIn (length s) (parse_plan s)
unfolding parse_plan
parse_in s =
    parse_by_lem (length s) (record_of s) (rest_of s)
    (λ h e.
    let (l, same) = rw e at (record_long s) in
    subst (λ g. RestIn (length s) g 19 (rest_of s)) same
    (rest_in (length s) (suc (length s)) 19 (start (is_grouped s)) (drop 19 s) (omega (arith, length-drop 19 s))))

-- the same of a refusal
refused_in : (s : List ℕ) (x : Refusal) → parse_plan s ≡ refused x → refusal_place x ≤ length s
refused_in s x e = rw e at (parse_in s)

-- so at most 36,887 bytes from the front, since these decide
pub place_most : (s : List ℕ) (x : Refusal) → parse_plan s ≡ refused x → refusal_place x ≤ 36887
place_most s x e = omega (arith, refused_in (take 36887 s) x (parse_prefix 36887 s (omega arith) ∙ e), length-take 36887 s)
