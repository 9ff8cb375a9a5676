-- What stands in a book that is accepted, and the queries by its places: `route_by_places`, `corner_by_places`.
use mathlib.Core.Path.{◌≡◌, refl, sym, ap, ◌∙◌}
use mathlib.Core.Bool.{Bool}
use mathlib.Core.List.{List, [], ◌∷◌, ◌++◌}
use Prim.Native.Nat.{ℕ, zero, suc, ◌+◌, ◌-◌, ◌*◌, ◌≤◌, ◌<◌}
use native.Mathlib.Nat.{add-zero}
use native.Mathlib.Omega.{arith}
use native.Mathlib.Decide.{dec_lt}
use borrow.Author.Tests.{leb-true}
use lib.Dec.{leb}
use lib.ListN.{length, get_or, drop, replicate, length-append, length-map, length-replicate}
use Rattle.network.specs.Lists.{All}
use Rattle.network.specs.Plane.{Point}
use Rattle.network.proofs.Tests.{and_split}
use Rattle.job.specs.Fields.{decimetres}
use Rattle.job.specs.Written.{Bytes}
use Rattle.job.proofs.Fields.{bytes_drop}
use Rattle.job.proofs.Signed.{signed_decimetres}
use Rattle.plan.specs.declared.Head.{Head}
use Rattle.plan.specs.Records.{route_size}
use Rattle.plan.specs.Plan.{Entry}
use Rattle.records.specs.declared.Record.{Record}
use Rattle.records.specs.declared.Record.TheVariants as rec
use Rattle.records.specs.Records.{record_of}
use Rattle.records.proofs.Records.{record_fits}
use Rattle.refusal.specs.declared.Refusal.{Refusal}
use Rattle.book.specs.declared.Reading.{Reading}
use Rattle.book.specs.declared.Walk.{Walk}
use Rattle.std.specs.Prelude.{Some, None, Ok, Err}
use Rattle.book.specs.Parse.{Parsed, accepted, refused, start, Told, Rest, rest, stopped, is_grouped, rest_of, entries_of, parse_by, parse_plan}
use Rattle.book.specs.Reading.{route_in, route_of, spot_in, corner_in, corner_of, places, padded, places_of, reading_of, as_route, route_by, as_spot, corner_place, corner_by}
use Rattle.book.proofs.Taken.{head_grouped}
use Rattle.book.proofs.Places.{CornerAt, CornersAt, RoutesAt, Reads}
use Rattle.book.proofs.Summary.{length_places}
use Rattle.book.proofs.Stands.{Stands, placed}
use Rattle.book.proofs.Counts.{not_both, RightCount, agreed_right, head_reads}
use Rattle.book.proofs.ByPlaces.{no_route, some_route, no_corner, some_corner}

-- the records of a book that is accepted
pub record Accepts (s : List ℕ) (h : Head) (es : List Entry) : Type 0 where
  pub told : List Told
  pub entries : entries_of told ≡ es
  pub head : record_of s ≡ rec.Head h
  pub held : RoutesAt s 19 (start h.grouped) told
  pub few : length told ≤ 32
  pub runs : h.runs ≡ length told
  pub right : All RightCount told

accepts_by : (s : List ℕ) (g : Record) (k : Rest) (h : Head) (es : List Entry) → record_of s ≡ g → ((f : Head) → g ≡ rec.Head f → Reads s 19 (start f.grouped) k)
    → parse_by g k ≡ accepted h es → Accepts s h es
unfolding parse_by
accepts_by s (rec.Head g) (rest cs ts total) h es r reads e =
    let a = agreed_right g ts total h es e in
    let t = reads g refl in
    let m : 19 + 9 * length cs ≡ 19 = omega (arith, ap length (t.first refl)) in
    record {
      told = ts;
      entries = a.entries;
      head = r ∙ ap rec.Head a.head;
      held = rw (m, t.first refl, a.head) at t.routes;
      few = omega (arith, t.few);
      runs = ap (λ (f : Head). f.runs) (sym a.head) ∙ a.runs;
      right = a.right;
    }
accepts_by s (rec.Head g) (stopped x) h es r t e = absurd (not_both x h es e)
accepts_by s (rec.Route q number meets said centre) k h es r t e = absurd (not_both _ h es e)
accepts_by s (rec.Corner x y) k h es r t e = absurd (not_both _ h es e)
accepts_by s (rec.End total) k h es r t e = absurd (not_both _ h es e)
accepts_by s rec.Other k h es r t e = absurd (not_both _ h es e)

pub accepts : (s : List ℕ) (h : Head) (es : List Entry) → parse_plan s ≡ accepted h es → Accepts s h es
unfolding parse_plan
accepts s h es e = accepts_by s (record_of s) (rest_of s) h es refl (head_reads s) e

-- the head says how many routes there are
pub accepted_routes : (s : List ℕ) (h : Head) (es : List Entry) → parse_plan s ≡ accepted h es → (h.runs ≡ length es) × (length es ≤ 32)
accepted_routes s h es e =
    let a = accepts s h es e in
    let n = length-map a.told (λ (t : Told). t.entry) in
    omega (arith, a.runs, a.few, n, ap length a.entries)

-- ---- the reading

-- a book that is read is accepted, with the head and the places that are given
pub reading_accepted : (q : Parsed) (r : Reading) → Ok r ≡ reading_of q → (es : List Entry) × (q ≡ accepted r.head es) × (r.places ≡ places_of q)
unfolding reading_of
reading_accepted (accepted h es) r e =
    let same : ◌≡◌ {A = Reading} r (record { head = h; places = places_of (accepted h es) }) = cc in
    (es, ap (λ (f : Reading). accepted f.head es) (sym same), ap (λ (f : Reading). f.places) same)
reading_accepted (refused x) r e = absurd (let z : ◌≡◌ {A = ℕ} 0 1 = cc in omega arith)

-- and one that is not is refused so
pub reading_refused : (q : Parsed) (x : Refusal) → Err x ≡ reading_of q → q ≡ refused x
unfolding reading_of
reading_refused (accepted h es) x e = absurd (let z : ◌≡◌ {A = ℕ} 0 1 = cc in omega arith)
reading_refused (refused y) x e = let same : y ≡ x = cc in ap refused same

-- the places of a book are 33
pub places_length : (s : List ℕ) → length (places_of (parse_plan s)) ≡ 33
places_length s = go (parse_plan s) refl
  where
    go : (q : Parsed) → parse_plan s ≡ q → length (places_of q) ≡ 33
    go (accepted h es) e =
        let l = places h.grouped 19 es in
        omega (arith, accepted_routes s h es e, length_places h.grouped 19 es, length-append l (replicate (33 - length l) 0), length-replicate {A = ℕ} (33 - length l) 0)
    go (refused x) e = refl

-- ---- the queries, past the last

pub past_routes : (es : List Entry) (i : ℕ) → length es ≤ i → None ≡ route_in es i
past_routes [] i h = refl
past_routes (e ∷ es) zero h = absurd (omega arith)
past_routes (e ∷ es) (suc i) h = past_routes es i (omega arith)

past_corners : (es : List Entry) (i j : ℕ) → length es ≤ i → None ≡ corner_in es i j
past_corners [] i j h = refl
past_corners (e ∷ es) zero j h = absurd (omega arith)
past_corners (e ∷ es) (suc i) j h = past_corners es i j (omega arith)

past_spots : (ps : List Point) (j : ℕ) → length ps ≤ j → None ≡ spot_in ps j
past_spots [] j h = refl
past_spots (p ∷ ps) zero h = absurd (omega arith)
past_spots (p ∷ ps) (suc j) h = past_spots ps j (omega arith)

-- no route stands in an empty list
none_there : (i : ℕ) (t : Told) (l : List Told) → drop i [] ≡ t ∷ l → ⊥
none_there zero t l e = let z : ◌≡◌ {A = ℕ} 0 1 = cc in omega arith
none_there (suc i) t l e = let z : ◌≡◌ {A = ℕ} 0 1 = cc in omega arith

-- the queries of the route with an index
told_route : (ts : List Told) (i : ℕ) (t : Told) → drop i ts ≡ t ∷ drop (suc i) ts
    → route_in (entries_of ts) i ≡ Some (record { number = t.entry.number; meets = t.entry.meets; corners = length t.entry.corners; centre = t.entry.centre })
told_route [] i t e = absurd (none_there i t _ e)
told_route (u ∷ ts) zero t e = let same : u ≡ t = cc in cc
told_route (u ∷ ts) (suc i) t e = told_route ts i t e

told_corner : (ts : List Told) (i : ℕ) (t : Told) (j : ℕ) → drop i ts ≡ t ∷ drop (suc i) ts → corner_in (entries_of ts) i j ≡ spot_in t.entry.corners j
told_corner [] i t j e = absurd (none_there i t _ e)
told_corner (u ∷ ts) zero t j e = let same : u ≡ t = cc in ap (λ (v : Told). spot_in v.entry.corners j) same
told_corner (u ∷ ts) (suc i) t j e = told_corner ts i t j e

pub told_right : (ts : List Told) (i : ℕ) (t : Told) → drop i ts ≡ t ∷ drop (suc i) ts → All RightCount ts → RightCount t
told_right [] i t e a = absurd (none_there i t _ e)
told_right (u ∷ ts) zero t e a = let same : u ≡ t = cc in rw (← same) a.0
told_right (u ∷ ts) (suc i) t e a = told_right ts i t e a.1

-- ---- a corner at its place

module _ (s : List ℕ) (b : Bytes s) where
  -- its words are its decimetres
  spot_at_lem : (at : ℕ) (w : Walk) (p : Point) → CornerAt s at w p → as_spot (record_of (drop at s)) ≡ Some (record { x = decimetres p.x; y = decimetres p.y })
  spot_at_lem at w p k =
      let f = rw k.is at (record_fits (drop at s) (bytes_drop at s b)) in
      let (x_in, y_in) = and_split (leb p.x 2000000) (leb p.y 2000000) k.in_range in
      ap as_spot k.is
      ∙ λ i. Some (record {
        x = (signed_decimetres k.across f.0 (omega (arith, k.x_is, leb-true p.x 2000000 x_in)) ∙ ap decimetres (sym k.x_is)) i;
        y = (signed_decimetres k.upward f.1 (omega (arith, k.y_is, leb-true p.y 2000000 y_in)) ∙ ap decimetres (sym k.y_is)) i;
      })

  corner_at : (at : ℕ) (w : Walk) (ps : List Point) (j : ℕ) → CornersAt s at w ps → j < length ps → as_spot (record_of (drop (at + 9 * j) s)) ≡ spot_in ps j
  unfolding CornersAt
  corner_at at w [] j t h = absurd (omega arith)
  corner_at at w (p ∷ ps) zero t h = ap (λ (m : ℕ). as_spot (record_of (drop m s))) (add-zero at) ∙ spot_at_lem at w p t.0
  corner_at at w (p ∷ ps) (suc j) t h =
      let m : at + 9 * suc j ≡ at + 9 + 9 * j = omega arith in
      ap (λ (n : ℕ). as_spot (record_of (drop n s))) m ∙ corner_at (at + 9) _ ps j t.1 (omega arith)

-- ---- by the places of the book

-- behind the last place stands 0
beyond : (l : List ℕ) (n i : ℕ) → length l ≤ i → ◌≡◌ {A = ℕ} (get_or (l ++ replicate n 0) i 0) 0
beyond [] n i h = zeros n i
  where
    zeros : (n i : ℕ) → ◌≡◌ {A = ℕ} (get_or (replicate n 0) i 0) 0
    zeros zero i = refl
    zeros (suc n) zero = refl
    zeros (suc n) (suc i) = zeros n i
beyond (a ∷ l) n zero h = absurd (omega arith)
beyond (a ∷ l) n (suc i) h = beyond l n i (omega arith)

-- so behind the end's place
past_place : (g : Bool) (es : List Entry) (i : ℕ) → length es ≤ i → get_or (padded (places g 19 es)) (i + 1) 0 ≡ 0
past_place g es i h = beyond (places g 19 es) (33 - length (places g 19 es)) (i + 1) (omega (arith, length_places g 19 es))

-- a book that is refused has no places
no_places : (i : ℕ) → get_or (padded []) i 0 ≡ 0
no_places i = beyond [] 33 i (omega arith)

module _ (s : List ℕ) (i : ℕ) where
  -- route i by the places of the book is route i of the book
  pub route_by_places : route_by s (places_of (parse_plan s)) i ≡ route_of (parse_plan s) i
  route_by_places = go (parse_plan s) refl
    where
      go : (q : Parsed) → parse_plan s ≡ q → route_by s (places_of q) i ≡ route_of q i
      go (refused x) e = sym (no_route s (padded []) i (omega (arith, no_places i, no_places (i + 1))))
      go (accepted h es) e = rw (← a.entries) (by (dec_lt i (length a.told)))
        where
          a : Accepts s h es
          a = accepts s h es e

          held : List ℕ
          held = padded (places h.grouped 19 (entries_of a.told))

          n : length (entries_of a.told) ≡ length a.told
          n = length-map a.told (λ (t : Told). t.entry)

          by : Dec (i < length a.told) → route_by s held i ≡ route_in (entries_of a.told) i
          by (yes l) =
              let k = placed s h.grouped held a.told i refl a.held l in
              let r = told_right a.told i k.route k.here a.right in
              sym (some_route s held i (omega (arith, k.end)))
              ∙ ap as_route k.at.is ∙ ap (λ n. Some (record { number = k.route.entry.number; meets = k.route.entry.meets; corners = n; centre = k.route.entry.centre })) r.said
              ∙ sym (told_route a.told i k.route k.here)
          by (no l) =
              sym (no_route s held i (omega (arith, past_place h.grouped (entries_of a.told) i (omega (arith, n)))))
              ∙ past_routes (entries_of a.told) i (omega (arith, n))

  -- so are its corners
  pub corner_by_places : Bytes s → (j : ℕ) → corner_by s (places_of (parse_plan s)) i j ≡ corner_of (parse_plan s) i j
  corner_by_places b j = go (parse_plan s) refl
    where
      go : (q : Parsed) → parse_plan s ≡ q → corner_by s (places_of q) i j ≡ corner_of q i j
      go (refused x) e = sym (no_corner s (padded []) i j (omega (arith, no_places i, no_places (i + 1))))
      go (accepted h es) e = rw (← a.entries) (by (dec_lt i (length a.told)))
        where
          a : Accepts s h es
          a = accepts s h es e

          held : List ℕ
          held = padded (places h.grouped 19 (entries_of a.told))

          n : length (entries_of a.told) ≡ length a.told
          n = length-map a.told (λ (t : Told). t.entry)

          same : is_grouped s ≡ h.grouped
          same = head_grouped s h a.head

          kinds : route_size (is_grouped s) ≡ route_size h.grouped
          kinds = ap route_size same

          by : Dec (i < length a.told) → corner_by s held i j ≡ corner_in (entries_of a.told) i j
          by (yes l) =
              let k = placed s h.grouped held a.told i refl a.held l in
              sym (told_corner a.told i k.route j k.here ∙ sym (at k (dec_lt j (length k.route.entry.corners))))
            where
              at : (k : Stands s h.grouped a.told i (get_or held i 0) (get_or held (i + 1) 0)) → Dec (j < length k.route.entry.corners)
                  → corner_by s held i j ≡ spot_in k.route.entry.corners j
              at k (yes m) =
                  sym (some_corner s held i j (omega (arith, k.at.few)) (omega (arith, kinds, k.end)))
                  ∙ ap (λ (g : Bool). as_spot (record_of (drop (corner_place g (get_or held i 0) j) s))) same
                  ∙ corner_at s b (get_or held i 0 + route_size h.grouped) _ k.route.entry.corners j k.at.corners m
              at k (no m) = sym (no_corner s held i j (omega (arith, kinds, k.end))) ∙ past_spots k.route.entry.corners j (omega arith)
          by (no l) =
              sym (no_corner s held i j (omega (arith, past_place h.grouped (entries_of a.told) i (omega (arith, n)))))
              ∙ past_corners (entries_of a.told) i j (omega (arith, n))
