-- A book that is accepted is what is written of what was read (`accepted_bytes`), and what was read is right (`accepted_right`).
-- Each record that is taken is its own bytes followed by the rest, so the bytes come together record by record.
use mathlib.Core.Path.{◌≡◌, refl, sym, ap, ap₂, subst, ◌∙◌}
use mathlib.Core.Bool.{Bool}
use mathlib.Core.List.{List, [], ◌∷◌, ◌++◌, append_assoc, flat_map}
use Prim.Native.Nat.{ℕ, zero, suc, ◌+◌, ◌≤◌}
use native.Mathlib.Omega.{arith}
use lib.Dec.{leb}
use lib.ListN.{length, drop, length-map, drop_of_length-le}
use borrow.Author.Tests.{leb-true}
use Rattle.network.specs.Lists.{All}
use Rattle.network.specs.Plane.{Point}
use Rattle.network.proofs.Tests.{and_split}
use Rattle.job.specs.Written.{bytes4, Bytes}
use Rattle.job.proofs.Fields.{bytes_drop}
use Rattle.job.proofs.Signed.{word_of_biased}
use Rattle.plan.specs.declared.Head.{Head}
use Rattle.plan.specs.Records.{head_record, route_record, route_size, corner_record, end_record}
use Rattle.plan.specs.Fits.{PointIn}
use Rattle.plan.specs.Plan.{Entry, entry_bytes, total_corners, book_bytes}
use Rattle.records.specs.declared.Record.{Record}
use Rattle.records.specs.declared.Record.TheVariants as rec
use Rattle.records.specs.Records.{record_of}
use Rattle.records.proofs.Records.{Says, record_says, record_fits}
use Rattle.book.specs.declared.Corner.{Corner}
use Rattle.book.specs.declared.Route.{Route}
use Rattle.refusal.specs.declared.Refusal.{Refusal}
use Rattle.std.specs.Prelude.{Result, Ok, Err}
use Rattle.book.specs.declared.Walk.{Walk}
use Rattle.book.specs.declared.Step.{Step}
use Rattle.book.specs.declared.Step.TheVariants as step
use Rattle.book.specs.Parse.{
  accepted,
  point_of,
  start,
  begun,
  passed,
  step_of,
  Told,
  Rest,
  rest,
  stopped,
  with_corner,
  with_route,
  proceed,
  rest_from,
  is_grouped,
  rest_of,
  entries_of,
  behind,
  parse_by,
  parse_plan,
}
use Rattle.book.specs.Right.{Turning, RightEntry, RightBook}
use Rattle.book.proofs.Taken.{head_grouped, Took, TookCorner, step_took}
use Rattle.book.proofs.Places.{after_corners, after_grouped, CornersAt, RoutesAt, Reads}
use Rattle.book.proofs.Counts.{not_both, RightCount, agreed_right, head_reads}
use Rattle.book.proofs.Accepted.{accepts}
use Rattle.book.proofs.Tests.{Before, test_joined, test_turned}

-- ---- the bytes behind the head

-- a route and its corners, as told
abbrev told_bytes : (grouped : Bool) → Told → List ℕ
told_bytes g t = route_record g t.entry.number t.entry.meets t.said t.entry.centre ++ flat_map corner_record t.entry.corners

-- the bytes are those of what was read
abbrev Holds : (grouped : Bool) → List ℕ → Rest → Type 0
Holds g b (rest cs ts total) = b ≡ flat_map corner_record cs ++ (flat_map (told_bytes g) ts ++ end_record total)
Holds g b (stopped x) = Unit {0}

-- a corner that is taken is its own record
corner_bytes : (b : List ℕ) (w : Walk) (c : Corner) → Bytes b → TookCorner b w (record_of b) c → b ≡ corner_record (point_of c) ++ drop 9 b
corner_bytes b w c h t =
    let says = rw t.is at (record_says b h) in
    let fits = rw t.is at (record_fits b h) in
    says ∙ ap₂ (λ x y. (0x43 ∷ bytes4 x ++ bytes4 y) ++ drop 9 b) (sym (word_of_biased t.across fits.0)) (sym (word_of_biased t.upward fits.1))
    ∙ ap (λ (d : Corner). corner_record (point_of d) ++ drop 9 b) (sym t.biased)

-- one more corner in front
holds_corner : (g : Bool) (c : Corner) (k : Rest) (b tail : List ℕ) → b ≡ corner_record (point_of c) ++ tail → Holds g tail k → Holds g b (with_corner c k)
unfolding flat_map
holds_corner g c (rest cs ts total) b tail e h =
    e ∙ ap (λ l. corner_record (point_of c) ++ l) h ∙ sym (append_assoc (corner_record (point_of c)) (flat_map corner_record cs) _)
holds_corner g c (stopped x) b tail e h = tt

-- one more route in front, with the corners behind it
holds_route : (g : Bool) (r : Route) (k : Rest) (b tail : List ℕ) → b ≡ route_record g r.number r.meets r.corners r.centre ++ tail → Holds g tail k
    → Holds g b (with_route r k)
unfolding flat_map
holds_route g r (rest cs ts total) b tail e h =
    let q = route_record g r.number r.meets r.corners r.centre in
    e ∙ ap (λ l. q ++ l) h ∙ sym (append_assoc q (flat_map corner_record cs) _)
    ∙ sym (append_assoc (q ++ flat_map corner_record cs) (flat_map (told_bytes g) ts) _)
holds_route g r (stopped x) b tail e h = tt

-- so the records that are taken are the bytes
holds : (n at : ℕ) (w : Walk) (b : List ℕ) → Bytes b → Holds w.grouped b (rest_from n at w b)
unfolding rest_from flat_map
holds zero at w b h = tt
holds (suc n) at w b h = go (step_of at w b) (step_took at w b) (λ k a v. holds n a v (drop k b) (bytes_drop k b h))
  where
    go : (s : Result Step Refusal) → Took b w (record_of b) s → ((k a : ℕ) (v : Walk) → Holds v.grouped (drop k b) (rest_from n a v (drop k b)))
        → Holds w.grouped b (proceed (rest_from n) at w b s)
    go (Ok (step.Route r)) t later =
        let size = route_size w.grouped in
        holds_route w.grouped r (rest_from n (at + size) (begun w) (drop size b)) b (drop size b) (rw t.is at (record_says b h))
        (later size (at + size) (begun w))
    go (Ok (step.Corner c)) t later =
        holds_corner w.grouped c (rest_from n (at + 9) (passed w c) (drop 9 b)) b (drop 9 b) (corner_bytes b w c h t) (later 9 (at + 9) (passed w c))
    go (Ok (step.End total)) t later =
        let says = rw t.is at (record_says b h) in
        says ∙ ap (λ l. end_record total ++ l) (drop_of_length-le b t.short)
    go (Err x) t later = tt

-- ---- the whole book

-- a count that is right is that of the corners
told_entries : (g : Bool) (ts : List Told) → All RightCount ts → flat_map (told_bytes g) ts ≡ flat_map (entry_bytes g) (entries_of ts)
unfolding flat_map
told_entries g [] a = refl
told_entries g (t ∷ ts) a =
    ap₂ (λ n l. (route_record g t.entry.number t.entry.meets n t.entry.centre ++ flat_map corner_record t.entry.corners) ++ l) a.0.said
    (told_entries g ts a.1)

-- by the first record and what stands behind it
bytes_by : (s : List ℕ) (g : Record) (k : Rest) (h : Head) (es : List Entry) → Says s g
    → ((f : Head) → g ≡ rec.Head f → Holds f.grouped (drop 19 s) k) → ((f : Head) → g ≡ rec.Head f → Reads s 19 (start f.grouped) k) → parse_by g k ≡ accepted h es → s ≡ book_bytes h es
unfolding parse_by book_bytes flat_map
bytes_by s (rec.Head g) (rest cs ts total) h es says held reads e =
    let a = agreed_right g ts total h es e in
    says ∙ ap₂ (λ f l. head_record f ++ l) a.head
    (held g refl ∙ ap (λ l. flat_map corner_record l ++ (flat_map (told_bytes g.grouped) ts ++ end_record total)) ((reads g refl).first refl)
    ∙ ap₂ (λ l n. l ++ end_record n) (told_entries g.grouped ts a.right) a.total_right
    ∙ ap₂ (λ (f : Head) l. flat_map (entry_bytes f.grouped) l ++ end_record (total_corners l)) a.head a.entries)
bytes_by s (rec.Head g) (stopped x) h es says held reads e = absurd (not_both x h es e)
bytes_by s (rec.Route q number meets said centre) k h es says held reads e = absurd (not_both _ h es e)
bytes_by s (rec.Corner x y) k h es says held reads e = absurd (not_both _ h es e)
bytes_by s (rec.End total) k h es says held reads e = absurd (not_both _ h es e)
bytes_by s rec.Other k h es says held reads e = absurd (not_both _ h es e)

-- what is written of what was read is the book
pub accepted_bytes : (s : List ℕ) (h : Head) (es : List Entry) → Bytes s → parse_plan s ≡ accepted h es → book_bytes h es ≡ s
unfolding parse_plan
accepted_bytes s h es b e =
    sym
    (bytes_by s (record_of s) (rest_of s) h es (record_says s b)
    (λ f i.
    subst (λ g. Holds g (drop 19 s) (rest_of s)) (head_grouped s f i)
    (holds (suc (length s)) 19 (start (is_grouped s)) (drop 19 s) (bytes_drop 19 s b))) (head_reads s) e)

-- ---- what was read is right

module _ (s : List ℕ) where
  -- all corners are in range
  corners_in_lem : (at : ℕ) (w : Walk) (l : List Point) → CornersAt s at w l → All PointIn l
  unfolding CornersAt
  corners_in_lem at w [] t = tt
  corners_in_lem at w (p ∷ l) t =
      let (a, b) = and_split (leb p.x 2000000) (leb p.y 2000000) t.0.in_range in
      (record { x_in = leb-true p.x 2000000 a; y_in = leb-true p.y 2000000 b }, corners_in_lem (at + 9) _ l t.1)

  -- the corners behind two of a route turn
  turning_two : (at : ℕ) (w : Walk) (o : Point) (l : List Point) → 2 ≤ w.corners → Before w o → CornersAt s at w l → Turning (o ∷ point_of w.last ∷ l)
  unfolding CornersAt
  turning_two at w o [] k b t = b.joined
  turning_two at w o (p ∷ l) k b t =
      let c : Corner = record { x = p.x; y = p.y } in
      let j = test_joined w c (omega arith) t.0.turns in (
        b.joined,
        test_turned w c o b k t.0.turns,
        turning_two (at + 9) (passed w c) (point_of w.last) l (omega arith) (record { joined = j; upright_is = refl }) t.1,
      )

  -- those behind the first
  turning_one : (at : ℕ) (w : Walk) (l : List Point) → w.corners ≡ 1 → CornersAt s at w l → Turning (point_of w.last ∷ l)
  unfolding CornersAt
  turning_one at w [] k t = tt
  turning_one at w (p ∷ l) k t =
      let c : Corner = record { x = p.x; y = p.y } in
      let j = test_joined w c (omega arith) t.0.turns in
      turning_two (at + 9) (passed w c) (point_of w.last) l (omega arith) (record { joined = j; upright_is = refl }) t.1

  -- all of them
  turning_all : (at : ℕ) (w : Walk) (l : List Point) → w.corners ≡ 0 → CornersAt s at w l → Turning l
  unfolding CornersAt
  turning_all at w [] k t = tt
  turning_all at w (p ∷ l) k t = turning_one (at + 9) (passed w (record { x = p.x; y = p.y })) l (omega arith) t.1

  -- every entry is right
  entries_right : Bytes s → (at : ℕ) (w : Walk) (ts : List Told) → RoutesAt s at w ts → All RightCount ts → All (RightEntry w.grouped) (entries_of ts)
  unfolding RoutesAt
  entries_right b at w [] r a = tt
  entries_right b at w (t ∷ ts) r a =
      let size = route_size w.grouped in
      let v = after_corners (begun w) t.entry.corners in
      let fits = rw r.0.is at (record_fits (drop at s) (bytes_drop at s b)) in (
        record {
          number_fits = fits.0;
          meets_fits = fits.1;
          centre_fits = fits.2;
          some = a.0.some;
          few = r.0.few;
          in_range = corners_in_lem (at + size) (begun w) t.entry.corners r.0.corners;
          turning = turning_all (at + size) (begun w) t.entry.corners refl r.0.corners;
        },
        rw (after_grouped (begun w) t.entry.corners) at (entries_right b (behind w.grouped at t.entry) v ts r.1 a.1),
      )

-- a book that is accepted is right
pub accepted_right : (s : List ℕ) (h : Head) (es : List Entry) → Bytes s → parse_plan s ≡ accepted h es → RightBook h es
accepted_right s h es b e =
    let a = accepts s h es e in
    let n : length es ≡ length a.told = sym (ap length a.entries) ∙ length-map a.told (λ (t : Told). t.entry) in
    record {
      head_fits = rw a.head at (record_fits s b);
      runs = a.runs ∙ sym n;
      few = omega (arith, a.few);
      entries = rw a.entries at (entries_right s b 19 (start h.grouped) a.told a.held a.right);
    }
