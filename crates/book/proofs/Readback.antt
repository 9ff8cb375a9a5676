-- A right book that is written is read back (`written_read`); so a list of bytes is accepted exactly if it is a right book, written (`accepted_iff`).
use mathlib.Core.Path.{◌≡◌, refl, sym, ap, ap₂, ◌∙◌}
use mathlib.Core.Logic.{◌↔◌}
use mathlib.Core.Bool.{Bool, false, cond, not, ◌||◌}
use mathlib.Core.List.{List, [], ◌∷◌, ◌++◌, append_assoc, flat_map, map}
use Prim.Native.Nat.{ℕ, zero, suc, ◌+◌, ◌≤◌, ◌<◌}
use native.Mathlib.Omega.{arith}
use lib.Dec.{eqb}
use lib.ListN.{length, drop, length-append, length-map}
use borrow.Author.Tests.{eq-eqb, ne_eqb, le-leb, lt-leb}
use Rattle.network.specs.Lists.{All}
use Rattle.network.specs.Plane.{Point}
use Rattle.job.specs.Fields.{word_of}
use Rattle.job.specs.Written.{Bytes}
use Rattle.job.proofs.Signed.{biased_of_word}
use Rattle.refusal.specs.declared.Refusal.TheVariants.{NotWhole, Miscounted}
use Rattle.plan.specs.declared.Head.{Head}
use Rattle.plan.specs.Records.{head_record, route_record, route_size, corner_record, end_record}
use Rattle.plan.specs.Fits.{PointIn}
use Rattle.plan.specs.Plan.{Entry, entry_bytes, total_corners, book_bytes}
use Rattle.plan.proofs.Length.{route_length, route_size_lem, behind_route, total_few}
use Rattle.records.specs.declared.Record.{Record}
use Rattle.records.specs.declared.Record.TheVariants as rec
use Rattle.records.specs.Records.{record_of}
use Rattle.records.proofs.Records.{head_read, route_read, corner_read, end_read}
use Rattle.book.specs.declared.Corner.{Corner}
use Rattle.book.specs.declared.Route.{Route}
use Rattle.std.specs.Prelude.{Ok, Err}
use Rattle.book.specs.declared.Walk.{Walk}
use Rattle.book.specs.declared.Step.TheVariants as step
use Rattle.book.specs.Parse.{
  accepted,
  refused,
  point_of,
  start,
  begun,
  passed,
  no_turn,
  corner_step,
  mixed,
  step_by,
  Told,
  rest,
  with_corner,
  with_route,
  proceed,
  rest_from,
  is_grouped,
  rest_of,
  entries_of,
  behind,
  counted,
  agreed,
  parse_by,
  parse_plan,
}
use Rattle.book.specs.Right.{Joined, Turning, RightEntry, RightBook}
use Rattle.book.proofs.Tests.{mixed_same, turns_test}
use Rattle.book.proofs.Taken.{head_grouped}
use Rattle.book.proofs.Written.{accepted_bytes, accepted_right}

-- ---- corners that turn pass the test, one after the other

-- each corner passes, after those before it
abbrev Passes : Walk → List Point → Type 0
Passes w [] = Unit {0}
Passes w (p ∷ l) = (no_turn w (record { x = p.x; y = p.y }) ≡ false) × Passes (passed w (record { x = p.x; y = p.y })) l

-- the second of them is joined to the first
second_joined : (p q : Point) (l : List Point) → Turning (p ∷ q ∷ l) → Joined p q
second_joined p q [] t = t
second_joined p q (r ∷ l) t = t.0

-- behind two corners of a route
passes_two : (w : Walk) (o : Point) (l : List Point) → 2 ≤ w.corners → w.upright ≡ eqb o.x w.last.x → Turning (o ∷ point_of w.last ∷ l)
    → Passes w l
passes_two w o [] k u t = tt
passes_two w o (p ∷ l) k u t =
    let c : Corner = record { x = p.x; y = p.y } in (
      turns_test w c (λ _. second_joined (point_of w.last) p l t.2) (λ _. (o, record { joined = t.0; upright_is = u }, t.1)),
      passes_two (passed w c) (point_of w.last) l (omega arith) refl t.2,
    )

-- behind the first
passes_one : (w : Walk) (l : List Point) → w.corners ≡ 1 → Turning (point_of w.last ∷ l) → Passes w l
passes_one w [] k t = tt
passes_one w (p ∷ l) k t =
    let c : Corner = record { x = p.x; y = p.y } in
    (turns_test w c (λ _. second_joined (point_of w.last) p l t) (λ m. absurd (omega arith)), passes_two (passed w c) (point_of w.last) l (omega arith) refl t)

-- behind none
passes_all : (w : Walk) (l : List Point) → w.corners ≡ 0 → Turning l → Passes w l
passes_all w [] k t = tt
passes_all w (p ∷ l) k t =
    let c : Corner = record { x = p.x; y = p.y } in
    (turns_test w c (λ m. absurd (omega arith)) (λ m. absurd (omega arith)), passes_one (passed w c) l (omega arith) t)

-- ---- the records one behind the other

-- the entries as they are told
abbrev told_of : List Entry → List Told
told_of es = map (λ e. record { said = length e.corners; entry = e }) es

-- which are these entries
entries_told : (es : List Entry) → entries_of (told_of es) ≡ es
entries_told [] = refl
entries_told (e ∷ es) = ap (λ l. e ∷ l) (entries_told es)

-- the bytes of the entries, and the end
abbrev tail_of : (grouped : Bool) → List Entry → ℕ → List ℕ
tail_of g es total = flat_map (entry_bytes g) es ++ end_record total

-- one more record
one : (f at : ℕ) (w : Walk) (b : List ℕ) (g : Record) → record_of b ≡ g → rest_from (suc f) at w b ≡ proceed (rest_from f) at w b (step_by at w (length b) g)
unfolding rest_from
one f at w b g e = ap (λ q. proceed (rest_from f) at w b (step_by at w (length b) q)) e

-- a corner that passes is taken
taken : (at : ℕ) (w : Walk) (left : ℕ) (p : Point) → 0 < w.routes → w.corners < 127 → PointIn p → no_turn w (record { x = p.x; y = p.y }) ≡ false
    → step_by at w left (rec.Corner (word_of p.x) (word_of p.y)) ≡ Ok (step.Corner (record { x = p.x; y = p.y }))
unfolding step_by corner_step
taken at w left p h k i n =
    ap₂ (λ x y. corner_step at w (record { x = x; y = y })) (biased_of_word p.x i.x_in) (biased_of_word p.y i.y_in)
    ∙ simp (
      ne_eqb w.routes 0 (λ z. omega arith),
      lt-leb 127 w.corners k,
      le-leb p.x 2000000 i.x_in,
      le-leb p.y 2000000 i.y_in,
      n,
    )

-- from here the entries and the end are read back
abbrev Back : (grouped : Bool) → List Entry → ℕ → Type 0
Back g es total =
    (f at : ℕ) (w : Walk) → w.grouped ≡ g → length (tail_of g es total) < f → w.routes + length es ≤ 32
    → rest_from f at w (tail_of g es total) ≡ rest [] (told_of es) total

module _ (g : Bool) (es : List Entry) (total : ℕ) (tail : Back g es total) where
  -- the corners of a route, in front of what is read back already
  corners_back : (cs : List Point) (f at : ℕ) (w : Walk) → w.grouped ≡ g → length (flat_map corner_record cs ++ tail_of g es total) < f → 0 < w.routes
      → w.routes + length es ≤ 32 → w.corners + length cs ≤ 127 → All PointIn cs → Passes w cs
      → rest_from f at w (flat_map corner_record cs ++ tail_of g es total) ≡ rest cs (told_of es) total
  unfolding flat_map
  corners_back [] f at w kinds l h m k i c = tail f at w kinds l m
  corners_back (p ∷ cs) zero at w kinds l h m k i c = absurd (omega arith)
  corners_back (p ∷ cs) (suc f) at w kinds l h m k i c =
      let b = flat_map corner_record cs ++ tail_of g es total in
      let s : flat_map corner_record (p ∷ cs) ++ tail_of g es total ≡ corner_record p ++ b =
      append_assoc (corner_record p) (flat_map corner_record cs) (tail_of g es total) in
      let q : Corner = record { x = p.x; y = p.y } in
      ap (rest_from (suc f) at w) s ∙ one f at w (corner_record p ++ b) (rec.Corner (word_of p.x) (word_of p.y)) (corner_read p b)
      ∙ ap (proceed (rest_from f) at w (corner_record p ++ b)) (taken at w (length (corner_record p ++ b)) p h (omega arith) i.0 c.0)
      ∙ ap (with_corner q) (corners_back cs f (at + 9) (passed w q) kinds (omega (arith, ap length s)) h m (omega arith) i.1 c.1)

-- all routes and the end
tail_back : (g : Bool) (es : List Entry) (total : ℕ) → total < 65536 → All (RightEntry g) es → Back g es total
unfolding flat_map step_by
tail_back g [] total t r zero at w kinds l m = absurd (omega arith)
tail_back g [] total t r (suc f) at w kinds l m = one f at w (end_record total) (rec.End total) (end_read total [] t)
tail_back g (e ∷ es) total t r zero at w kinds l m = absurd (omega arith)
tail_back g (e ∷ es) total t r (suc f) at w kinds l m =
    let n = length e.corners in
    let head = route_record g e.number e.meets n e.centre in
    let b = flat_map corner_record e.corners ++ tail_of g es total in
    let s : tail_of g (e ∷ es) total ≡ head ++ b =
    append_assoc (entry_bytes g e) (flat_map (entry_bytes g) es) (end_record total) ∙ append_assoc head (flat_map corner_record e.corners) (tail_of g es total) in
    let q = r.0 in
    let size = route_size w.grouped in
    let route : Route = record { number = e.number; meets = e.meets; corners = n; centre = e.centre } in
    ap (rest_from (suc f) at w) s
    ∙ one f at w (head ++ b) (rec.Route g e.number e.meets n e.centre)
    (route_read g e.number e.meets n e.centre b q.number_fits q.meets_fits (omega (arith, q.few)) q.centre_fits)
    ∙ ap (λ u. proceed (rest_from f) at w (head ++ b) (cond u (Err (NotWhole at)) (Ok (step.Route route))))
    (ap₂ ◌||◌ (ap (mixed g) kinds ∙ mixed_same g) (lt-leb 32 w.routes (omega arith)))
    ∙ ap (λ u. with_route route (rest_from f (at + size) (begun w) u))
    (ap (λ k. drop (route_size k) (head ++ b)) kinds ∙ behind_route g e.number e.meets n e.centre b)
    ∙ ap (with_route route)
    (corners_back g es total (tail_back g es total t r.1) e.corners f (at + size) (begun w) kinds
    (omega (arith, ap length s, length-append head b, route_length g e.number e.meets n e.centre, route_size_lem g)) (omega arith) (omega arith)
    (omega (arith, q.few)) q.in_range (passes_all (begun w) e.corners refl q.turning))

-- ---- the counts

-- at most 127 corners in each entry
few_corners : (g : Bool) (es : List Entry) → All (RightEntry g) es → All (λ e. length e.corners ≤ 127) es
few_corners g [] r = tt
few_corners g (e ∷ es) r = (r.0.few, few_corners g es r.1)

-- right counts agree
counted_back : (g : Bool) (at : ℕ) (es : List Entry) (h : Head) (all : List Entry) (total : ℕ) → All (RightEntry g) es → total ≡ total_corners all
    → counted g at (told_of es) (λ end. cond (not (eqb total (total_corners all))) (refused (Miscounted end)) (accepted h all)) ≡ accepted h all
unfolding counted
counted_back g at [] h all total r e = simp (eq-eqb total (total_corners all) e)
counted_back g at (a ∷ es) h all total r e =
    simp (ne_eqb (length a.corners) 0 (λ z. omega (arith, r.0.some)), eq-eqb (length a.corners) (length a.corners) refl)
    (counted_back g (behind g at a) es h all total r.1 e)

-- so do the head's and the end's
agreed_back : (h : Head) (es : List Entry) → RightBook h es → agreed h (told_of es) (total_corners es) ≡ accepted h es
unfolding agreed
agreed_back h es r =
    simp (entries_told es, eq-eqb h.runs (length (told_of es)) (r.runs ∙ sym (length-map es _)))
    (counted_back h.grouped 19 es h es (total_corners es) r.entries refl)

-- ---- the whole book

-- a right book that is written is read back
pub written_read : (h : Head) (es : List Entry) → RightBook h es → parse_plan (book_bytes h es) ≡ accepted h es
unfolding parse_plan parse_by book_bytes
written_read h es r =
    let b = tail_of h.grouped es (total_corners es) in
    let t : total_corners es < 65536 = omega (arith, total_few es (few_corners h.grouped es r.entries), r.few) in
    let read = head_read h b r.head_fits in
    ap (λ g. parse_by g (rest_of (head_record h ++ b))) read
    ∙ ap (parse_by (rec.Head h))
    (tail_back h.grouped es (total_corners es) t r.entries (suc (length (head_record h ++ b))) 19 (start (is_grouped (head_record h ++ b)))
    (head_grouped (head_record h ++ b) h read) (omega arith) (omega (arith, r.few)))
    ∙ agreed_back h es r

-- a list of bytes is accepted exactly if it is a right book, written
pub accepted_iff : (s : List ℕ) (h : Head) (es : List Entry) → Bytes s → (parse_plan s ≡ accepted h es) ↔ (RightBook h es × (s ≡ book_bytes h es))
accepted_iff s h es b = (
  λ e. (accepted_right s h es b e, sym (accepted_bytes s h es b e)),
  λ r. ap parse_plan r.1 ∙ written_read h es r.0,
)

-- two different books that are accepted read differently
pub read_apart : (s t : List ℕ) (h : Head) (es : List Entry) → Bytes s → Bytes t → parse_plan s ≡ accepted h es → parse_plan t ≡ accepted h es → s ≡ t
read_apart s t h es b c e f = sym (accepted_bytes s h es b e) ∙ accepted_bytes t h es c f
