-- The counts of a whole book: what is accepted has right counts (`agreed_right`), and comparing by the places of the routes comes to the same.
use mathlib.Core.Path.{◌≡◌, refl, sym, ap, ap₂, subst, ◌∙◌}
use mathlib.Core.Bool.{Bool, true, false, cond, not, ◌||◌}
use mathlib.Core.List.{List, [], ◌∷◌}
use Prim.Native.Nat.{ℕ, suc, ◌+◌, ◌*◌, ◌≤◌, ◌<◌}
use native.Mathlib.Numerals.{add-one}
use native.Mathlib.Omega.{arith}
use lib.Dec.{eqb}
use lib.ListN.{length, get_or, drop, length-map, length-drop, drop_of_length-le}
use borrow.Author.Tests.{eq-eqb, ne_eqb, eqb-true, eqb-false, not-false}
use Rattle.network.specs.Lists.{All}
use Rattle.network.proofs.Tests.{neither, eqb_same}
use Rattle.refusal.specs.declared.Refusal.{Refusal}
use Rattle.refusal.specs.declared.Refusal.TheVariants.{Miscounted}
use Rattle.plan.specs.declared.Head.{Head}
use Rattle.plan.specs.Records.{route_size}
use Rattle.plan.specs.Plan.{Entry, total_corners}
use Rattle.plan.proofs.Length.{route_size_lem}
use Rattle.job.specs.Fields.{word2}
use Rattle.job.proofs.There.{word2_there}
use Rattle.records.specs.declared.Record.{Record}
use Rattle.records.specs.declared.Record.TheVariants as rec
use Rattle.records.specs.Records.{record_of}
use Rattle.std.specs.Prelude.{Ok, Err}
use Rattle.book.specs.Parse.{
  Parsed,
  accepted,
  refused,
  start,
  Told,
  Rest,
  rest,
  stopped,
  is_grouped,
  rest_of,
  entries_of,
  behind,
  miscounted,
  counted,
  agreed,
  parse_by,
  parse_plan,
}
use Rattle.book.specs.Reading.{places, padded, reading_of}
use Rattle.book.specs.Shape.{whole, broken, shape_by, shape_of}
use Rattle.book.proofs.Taken.{record_long, head_grouped}
use Rattle.book.proofs.Places.{RoutesAt, Reads, rest_reads}
use Rattle.book.proofs.Stands.{Stands, first_place, padded_place, placed}

-- ---- what is accepted

-- a refusal is no acceptance
pub not_both : (x : Refusal) (h : Head) (es : List Entry) → refused x ≡ accepted h es → ⊥
not_both x h es e = let z : ◌≡◌ {A = ℕ} 0 1 = cc in omega arith

-- the side of a test that is no refusal
kept : (b : Bool) (x : Refusal) (y : Parsed) (h : Head) (es : List Entry) → cond b (refused x) y ≡ accepted h es → (b ≡ false) × (y ≡ accepted h es)
kept true x y h es e = absurd (not_both x h es e)
kept false x y h es e = (refl, e)

-- a route that counts its corners, and has one
pub record RightCount (t : Told) : Type 0 where
  pub said : t.said ≡ length t.entry.corners
  pub some : 0 < length t.entry.corners

right_count : (t : Told) → miscounted t ≡ false → RightCount t
right_count t e =
    let (a, b) = neither (eqb (length t.entry.corners) 0) (not (eqb t.said (length t.entry.corners))) e in
    let n = eqb-false (length t.entry.corners) 0 a in
    record { said = eqb-true _ _ (not-false _ b); some = omega (arith, n) }

-- counts that agree come to what is compared last, at the end's place
counted_right : (g : Bool) (at : ℕ) (ts : List Told) (ending : ℕ → Parsed) (h : Head) (es : List Entry) → counted g at ts ending ≡ accepted h es
    → (end : ℕ) × (ending end ≡ accepted h es) × All RightCount ts
unfolding counted
counted_right g at [] ending h es e = (at, e, tt)
counted_right g at (t ∷ ts) ending h es e =
    let (right, later) = kept (miscounted t) (Miscounted at) (counted g (behind g at t.entry) ts ending) h es e in
    let (end, last, all) = counted_right g (behind g at t.entry) ts ending h es later in
    (end, last, (right_count t right, all))

-- the head and the routes as read, and right counts
pub record Agreed (g : Head) (ts : List Told) (total : ℕ) (h : Head) (es : List Entry) : Type 0 where
  pub head : g ≡ h
  pub entries : entries_of ts ≡ es
  pub runs : g.runs ≡ length ts
  pub right : All RightCount ts
  pub total_right : total ≡ total_corners (entries_of ts)

pub agreed_right : (g : Head) (ts : List Told) (total : ℕ) (h : Head) (es : List Entry) → agreed g ts total ≡ accepted h es → Agreed g ts total h es
unfolding agreed
agreed_right g ts total h es e =
    let a = kept (not (eqb g.runs (length ts))) _ _ h es e in
    let (end, c, right) = counted_right g.grouped 19 ts _ h es a.1 in
    let b = kept (not (eqb total (total_corners (entries_of ts)))) _ _ h es c in
    let same : ◌≡◌ {A = Parsed} (accepted g (entries_of ts)) (accepted h es) = b.1 in
    record {
      head = cc;
      entries = cc;
      runs = eqb-true _ _ (not-false _ a.0);
      right = right;
      total_right = eqb-true _ _ (not-false _ b.0);
    }

-- ---- a whole book

-- what its records are, and what is known of them before the counts are compared
pub record WholeBook (s : List ℕ) (h : Head) (n total : ℕ) (held : List ℕ) : Type 0 where
  pub told : List Told
  pub is : parse_plan s ≡ agreed h told total
  pub count : n ≡ length told
  pub places : held ≡ padded (places h.grouped 19 (entries_of told))
  pub stand : RoutesAt s 19 (start h.grouped) told
  pub few : length told ≤ 32

-- a whole book is not broken
never_whole : (x : Refusal) (h : Head) (n total : ℕ) (held : List ℕ) → whole h n total held ≡ broken x → ⊥
never_whole x h n total held e = let z : ◌≡◌ {A = ℕ} 0 1 = cc in omega arith

module _ (s : List ℕ) where
  -- what stands behind a head
  pub head_reads : (h : Head) → record_of s ≡ rec.Head h → Reads s 19 (start h.grouped) (rest_of s)
  head_reads h e =
      subst (λ g. Reads s 19 (start g) (rest_of s)) (head_grouped s h e)
      (rest_reads s (suc (length s)) 19 (start (is_grouped s)) (omega arith) (omega arith))

  module _ (h : Head) (n total : ℕ) (held : List ℕ) where
    whole_by : (g : Record) (k : Rest) → parse_plan s ≡ parse_by g k → ((f : Head) → g ≡ rec.Head f → Reads s 19 (start f.grouped) k)
        → whole h n total held ≡ shape_by g k → WholeBook s h n total held
    unfolding parse_by shape_by
    whole_by (rec.Head g) (rest cs ts last) p reads e =
        let same : g ≡ h = cc in
        let t = reads g refl in
        let m : 19 + 9 * length cs ≡ 19 = omega (arith, ap length (t.first refl)) in
        let count : n ≡ length ts = cc in
        let end : last ≡ total = cc in
        let at : held ≡ padded (places g.grouped (19 + 9 * length cs) (entries_of ts)) = cc in
        record {
          told = ts;
          is = p ∙ ap₂ (λ q k. agreed q ts k) same end;
          count = count;
          places = at ∙ ap₂ (λ (f : Head) (k : ℕ). padded (places f.grouped k (entries_of ts))) same m;
          stand = rw (m, t.first refl, same) at t.routes;
          few = omega (arith, t.few);
        }
    whole_by (rec.Head g) (stopped x) p reads e = absurd (never_whole x h n total held e)
    whole_by (rec.Route q number meets said centre) k p reads e = absurd (never_whole _ h n total held e)
    whole_by (rec.Corner x y) k p reads e = absurd (never_whole _ h n total held e)
    whole_by (rec.End last) k p reads e = absurd (never_whole _ h n total held e)
    whole_by rec.Other k p reads e = absurd (never_whole _ h n total held e)

    -- the records of a book with this shape
    pub whole_book : whole h n total held ≡ shape_of s → WholeBook s h n total held
    unfolding parse_plan shape_of
    whole_book e = whole_by (record_of s) (rest_of s) refl head_reads e

  -- a shape that is a refusal is the answer
  refused_by : (g : Record) (k : Rest) (x : Refusal) → broken x ≡ shape_by g k → refused x ≡ parse_by g k
  unfolding parse_by shape_by
  refused_by (rec.Head g) (rest cs ts total) x e = absurd (never_whole x g _ _ _ (sym e))
  refused_by (rec.Head g) (stopped y) x e = cc
  refused_by (rec.Route q number meets said centre) k x e = cc
  refused_by (rec.Corner a b) k x e = cc
  refused_by (rec.End total) k x e = cc
  refused_by rec.Other k x e = cc

  pub shape_refused : (x : Refusal) → broken x ≡ shape_of s → Err x ≡ reading_of (parse_plan s)
  unfolding parse_plan shape_of reading_of
  shape_refused x e = ap reading_of (refused_by (record_of s) (rest_of s) x e)

-- ---- the counts by the places

-- the test of a route by its place and the next: it has no corner, or the record says another number
abbrev pub by_places : (size at end said : ℕ) → Bool
by_places size at end said = eqb end (at + size) || not (eqb end (at + size + 9 * said))

tested_by : (g : Bool) (a e said : ℕ) (t : Told) → said ≡ t.said → e ≡ behind g a t.entry → by_places (route_size g) a e said ≡ miscounted t
tested_by g a e said t r b =
    let size = route_size g in
    ap₂ (λ p q. p || not q) (eqb_same e (a + size) (length t.entry.corners) 0 (λ z. omega arith) (λ z. omega arith))
    (eqb_same e (a + size + 9 * said) t.said (length t.entry.corners) (λ z. omega arith) (λ z. omega arith))

-- what is left to compare once the head's count is right
abbrev lastly : Head → List Told → ℕ → ℕ → Parsed
lastly h ts total end = cond (not (eqb total (total_corners (entries_of ts)))) (refused (Miscounted end)) (accepted h (entries_of ts))

-- from route i on
pub Comparing : {s : List ℕ} {h : Head} {n total : ℕ} {held : List ℕ} → WholeBook s h n total held → ℕ → Type 0
Comparing {s} {h} {n} {total} {held} w i =
    counted h.grouped 19 w.told (lastly h w.told total) ≡ counted h.grouped (get_or held i 0) (drop i w.told) (lastly h w.told total)

-- a book that is refused
refusing_is : (s : List ℕ) (x : Refusal) → parse_plan s ≡ refused x → Err x ≡ reading_of (parse_plan s)
unfolding reading_of
refusing_is s x e = sym (ap reading_of e)

module _ {s : List ℕ} {h : Head} {n total : ℕ} {held : List ℕ} (w : WholeBook s h n total held) where
  -- the head's count differs
  pub runs_wrong : (h.runs ≡ n → ⊥) → Err (Miscounted 0) ≡ reading_of (parse_plan s)
  unfolding agreed
  runs_wrong d = refusing_is s _ (w.is ∙ simp (ne_eqb h.runs (length w.told) (λ z. d (z ∙ sym w.count))))

  counting : h.runs ≡ n → parse_plan s ≡ counted h.grouped 19 w.told (lastly h w.told total)
  unfolding agreed
  counting e = w.is ∙ simp (eq-eqb h.runs (length w.told) (e ∙ w.count))

  pub comparing_start : Comparing w 0
  unfolding Comparing
  comparing_start =
      ap (λ (m : ℕ). counted h.grouped m w.told (lastly h w.told total))
      (sym (padded_place h.grouped held (entries_of w.told) w.places 0 (omega arith) ∙ first_place h.grouped 19 (entries_of w.told)))

  module _ (i : ℕ) (l : i < n) where
    stood : Stands s h.grouped w.told i (get_or held i 0) (get_or held (i + 1) 0)
    stood = placed s h.grouped held w.told i w.places w.stand (omega (arith, w.count))

    pub small : i < 32
    small = omega (arith, w.count, w.few)

    -- the record of route i, whole
    there : (route_size h.grouped ≤ length (drop (get_or held i 0) s)) × (stood.route.said ≡ word2 (drop 1 (drop (get_or held i 0) s)) 4)
    there = let l = rw stood.at.is at (record_long (drop (get_or held i 0) s)) in (l.0, l.3)

    -- the bytes in which it says its corners are there
    pub said_room : get_or held i 0 + 6 < length s
    said_room = omega (arith, there.0, route_size_lem h.grouped, length-drop (get_or held i 0) s)

    said_is : word2 s (get_or held i 0 + 5) ≡ stood.route.said
    said_is = sym (there.1 ∙ word2_there s (get_or held i 0) 4 (get_or held i 0 + 5) (omega arith))

    module _ (said : ℕ) (is : said ≡ word2 s (get_or held i 0 + 5)) where
      -- the test by the places is the test of the route
      tested : by_places (route_size h.grouped) (get_or held i 0) (get_or held (i + 1) 0) said ≡ miscounted stood.route
      tested = tested_by h.grouped (get_or held i 0) (get_or held (i + 1) 0) said stood.route (is ∙ said_is) stood.end

      next : Comparing w i → counted h.grouped 19 w.told (lastly h w.told total)
          ≡ cond (miscounted stood.route) (refused (Miscounted (get_or held i 0)))
          (counted h.grouped (behind h.grouped (get_or held i 0) stood.route.entry) (drop (suc i) w.told) (lastly h w.told total))
      unfolding Comparing counted
      next c = c ∙ ap (λ ts. counted h.grouped (get_or held i 0) ts (lastly h w.told total)) stood.here

      pub compared_wrong : by_places (route_size h.grouped) (get_or held i 0) (get_or held (i + 1) 0) said ≡ true
          → h.runs ≡ n → Comparing w i → Err (Miscounted (get_or held i 0)) ≡ reading_of (parse_plan s)
      compared_wrong t runs c = refusing_is s _ (counting runs ∙ next c ∙ simp (sym tested ∙ t))

      pub compared_on : by_places (route_size h.grouped) (get_or held i 0) (get_or held (i + 1) 0) said ≡ false → Comparing w i → Comparing w (i + 1)
      unfolding Comparing
      compared_on t c =
          next c ∙ simp (sym tested ∙ t)
          (ap₂ (λ (m k : ℕ). counted h.grouped m (drop k w.told) (lastly h w.told total)) (sym stood.end) (sym (add-one i)))

  -- ---- the end's count

  end_place : (g : Bool) (at : ℕ) (es : List Entry) → get_or (places g at es) (length es) 0 ≡ at + route_size g * length es + 9 * total_corners es
  end_place g at [] = omega arith
  end_place g at (e ∷ es) = end_place g (behind g at e) es ∙ omega arith

  pub few_routes : n ≤ 32
  few_routes = omega (arith, w.count, w.few)

  pub comparing_all : (i : ℕ) → i ≤ n → n ≤ i → Comparing w i → Comparing w n
  comparing_all i k l c = let e : i ≡ n = omega arith in rw e at c

  module _ (runs : h.runs ≡ n) (c : Comparing w n) where
    at_end : parse_plan s ≡ lastly h w.told total (get_or held n 0)
    unfolding Comparing counted
    at_end =
        counting runs ∙ c
        ∙ ap (λ ts. counted h.grouped (get_or held n 0) ts (lastly h w.told total)) (drop_of_length-le w.told {i = n} (omega (arith, w.count)))

    ends : get_or held n 0 ≡ 19 + route_size h.grouped * n + 9 * total_corners (entries_of w.told)
    ends =
        let k = length-map w.told (λ (t : Told). t.entry) in
        let m : n ≡ length (entries_of w.told) = omega (arith, w.count, k) in
        padded_place h.grouped held (entries_of w.told) w.places n (omega arith)
        ∙ ap (λ (k : ℕ). get_or (places h.grouped 19 (entries_of w.told)) k 0) m ∙ end_place h.grouped 19 (entries_of w.told)
        ∙ ap (λ (k : ℕ). 19 + route_size h.grouped * k + 9 * total_corners (entries_of w.told)) (sym m)

    pub total_wrong : (get_or held n 0 ≡ 19 + route_size h.grouped * n + 9 * total → ⊥) → Err (Miscounted (get_or held n 0)) ≡ reading_of (parse_plan s)
    total_wrong d =
        refusing_is s _
        (at_end ∙ simp (ne_eqb total (total_corners (entries_of w.told)) (λ z. d (ends ∙ ap (λ (m : ℕ). 19 + route_size h.grouped * n + 9 * m) (sym z)))))

    pub all_right : get_or held n 0 ≡ 19 + route_size h.grouped * n + 9 * total → Ok (record { head = h; places = held }) ≡ reading_of (parse_plan s)
    unfolding reading_of
    all_right e =
        let t : total ≡ total_corners (entries_of w.told) = omega (arith, ends) in
        let right : parse_plan s ≡ accepted h (entries_of w.told) = at_end ∙ simp (eq-eqb total (total_corners (entries_of w.told)) t) in
        ap (λ (l : List ℕ). Ok (record { head = h; places = l })) w.places ∙ sym (ap reading_of right)
