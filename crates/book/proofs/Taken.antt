-- What a step takes from the front of the bytes: the record that stands there, whole, with what was tested of it.
use mathlib.Core.Path.{◌≡◌, refl, ap}
use mathlib.Core.Bool.{true, false, cond, not, ◌||◌}
use mathlib.Core.List.{List, [], ◌∷◌}
use Prim.Native.Nat.{ℕ, ◌≤◌, ◌<◌}
use native.Mathlib.Omega.{arith}
use lib.Dec.{ltb, leb, eqb}
use lib.ListN.{length, drop}
use borrow.Author.Tests.{ltb-false, leb-false, eqb-false, not-false}
use Rattle.job.specs.Fields.{word2, word4, biased_of}
use Rattle.job.proofs.Decoded.{by_test}
use Rattle.network.proofs.Tests.{neither}
use Rattle.refusal.specs.declared.Refusal.{Refusal}
use Rattle.std.specs.Prelude.{Result, Ok, Err}
use Rattle.plan.specs.declared.Head.{Head}
use Rattle.plan.specs.Records.{route_size}
use Rattle.records.specs.declared.Record.{Record}
use Rattle.records.specs.declared.Record.TheVariants as rec
use Rattle.records.specs.Records.{whole, decoded, record_of}
use Rattle.book.specs.declared.Corner.{Corner}
use Rattle.book.specs.declared.Route.{Route}
use Rattle.book.specs.declared.Walk.{Walk}
use Rattle.book.specs.declared.Step.{Step}
use Rattle.book.specs.declared.Step.TheVariants as step
use Rattle.book.specs.Parse.{in_range, no_turn, corner_step, mixed, step_by, step_of, is_grouped}
use Rattle.book.proofs.Tests.{not_mixed}

-- ---- a record is as long as its kind says; a head's kind tells the set of kinds, and the fields of a route and of a corner are numbers of its body

abbrev pub Long : List ℕ → Record → Type 0
Long b (rec.Head h) = (19 ≤ length b) × (is_grouped b ≡ h.grouped)
Long b (rec.Route g number meets corners centre) =
    (route_size g ≤ length b) × (number ≡ word2 (drop 1 b) 0) × (meets ≡ word2 (drop 1 b) 2) × (corners ≡ word2 (drop 1 b) 4)
    × (centre ≡ cond g (word2 (drop 1 b) 6) 0)
Long b (rec.Corner x y) = (9 ≤ length b) × (x ≡ word4 (drop 1 b) 0) × (y ≡ word4 (drop 1 b) 4)
Long b (rec.End total) = 3 ≤ length b
Long b rec.Other = Unit {0}

whole_long : (kind size : ℕ) (b : List ℕ) (g : Record) → (size ≤ length b → Long (kind ∷ b) g) → Long (kind ∷ b) (whole size b g)
whole_long kind size b g f = by_test (Long (kind ∷ b)) (ltb (length b) size) (λ _. tt) (λ l. f (ltb-false (length b) size l))

decoded_long : (kind : ℕ) (b : List ℕ) → Long (kind ∷ b) (decoded kind b)
unfolding decoded route_size
decoded_long kind b =
    let P = Long (kind ∷ b) in
    by_test P (eqb kind 0x51) (λ t. whole_long kind 18 b _ (λ l. (omega arith, t)))
    (λ t. by_test P (eqb kind 0x50) (λ _. whole_long kind 18 b _ (λ l. (omega arith, t)))
    (λ _. by_test P (eqb kind 0x4F) (λ _. whole_long kind 8 b _ (λ l. (omega arith, refl, refl, refl, refl)))
    (λ _. by_test P (eqb kind 0x4E) (λ _. whole_long kind 6 b _ (λ l. (omega arith, refl, refl, refl, refl)))
    (λ _. by_test P (eqb kind 0x43) (λ _. whole_long kind 8 b _ (λ l. (omega arith, refl, refl)))
    (λ _. by_test P (eqb kind 0x5A) (λ _. whole_long kind 2 b _ (λ l. omega arith)) (λ _. tt))))))

pub record_long : (b : List ℕ) → Long b (record_of b)
unfolding record_of
record_long [] = tt
record_long (kind ∷ b) = decoded_long kind b

-- the first byte tells the set of kinds that a head has
pub head_grouped : (s : List ℕ) (h : Head) → record_of s ≡ rec.Head h → is_grouped s ≡ h.grouped
head_grouped s h e = (rw e at (record_long s)).1

-- ---- what is taken

-- a route of the book's set of kinds: there were fewer than 32
pub record TookRoute (b : List ℕ) (w : Walk) (g : Record) (r : Route) : Type 0 where
  pub is : g ≡ rec.Route w.grouped r.number r.meets r.corners r.centre
  pub long : route_size w.grouped ≤ length b
  pub room : w.routes < 32

-- a corner of a route that has fewer than 127, in range, which turns
pub record TookCorner (b : List ℕ) (w : Walk) (g : Record) (c : Corner) : Type 0 where
  pub across : ℕ
  pub upward : ℕ
  pub is : g ≡ rec.Corner across upward
  pub biased : c ≡ record { x = biased_of across; y = biased_of upward }
  pub long : 9 ≤ length b
  pub begun : 0 < w.routes
  pub room : w.corners < 127
  pub in_range : in_range c ≡ true
  pub turns : no_turn w c ≡ false

-- an end, behind which no byte stands
pub record TookEnd (b : List ℕ) (g : Record) (total : ℕ) : Type 0 where
  pub is : g ≡ rec.End total
  pub long : 3 ≤ length b
  pub short : length b ≤ 3

abbrev pub Took : List ℕ → Walk → Record → Result Step Refusal → Type 0
Took b w g (Ok (step.Route r)) = TookRoute b w g r
Took b w g (Ok (step.Corner c)) = TookCorner b w g c
Took b w g (Ok (step.End total)) = TookEnd b g total
Took b w g (Err x) = Unit {0}

took_by : (at : ℕ) (w : Walk) (b : List ℕ) (g : Record) → Long b g → Took b w g (step_by at w (length b) g)
unfolding step_by corner_step
took_by at w b (rec.Head h) l = tt
took_by at w b (rec.Route g number meets said centre) l =
    by_test (Took b w (rec.Route g number meets said centre)) (mixed g w.grouped || leb 32 w.routes) (λ _. tt)
    (λ k.
    let (kinds, few) = neither (mixed g w.grouped) (leb 32 w.routes) k in
    let same = not_mixed g w.grouped kinds in
    record { is = ap (λ q. rec.Route q number meets said centre) same; long = rw same at l.0; room = leb-false 32 w.routes few })
took_by at w b (rec.Corner x y) l =
    let P = Took b w (rec.Corner x y) in
    let c : Corner = record { x = biased_of x; y = biased_of y } in
    by_test P (eqb w.routes 0 || leb 127 w.corners) (λ _. tt)
    (λ k. by_test P (not (in_range c)) (λ _. tt)
    (λ r. by_test P (no_turn w c) (λ _. tt)
    (λ t.
    let (some, few) = neither (eqb w.routes 0) (leb 127 w.corners) k in
    let n = eqb-false w.routes 0 some in
    record {
      across = x;
      upward = y;
      is = refl;
      biased = refl;
      long = l.0;
      begun = omega (arith, n);
      room = leb-false 127 w.corners few;
      in_range = not-false _ r;
      turns = t;
    })))
took_by at w b (rec.End total) l =
    by_test (Took b w (rec.End total)) (ltb 3 (length b)) (λ _. tt) (λ k. record { is = refl; long = l; short = ltb-false 3 (length b) k })
took_by at w b rec.Other l = tt

pub step_took : (at : ℕ) (w : Walk) (b : List ℕ) → Took b w (record_of b) (step_of at w b)
step_took at w b = took_by at w b (record_of b) (record_long b)
