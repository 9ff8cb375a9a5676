-- What stands in a book that was read, by the places: the numbers of each route, and its corners.
use mathlib.Core.Path.{◌≡◌, refl, sym, ap, ◌∙◌, subst}
use mathlib.Core.Bool.{true, cond}
use mathlib.Core.List.{List, [], ◌∷◌}
use Prim.Native.Nat.{ℕ, zero, suc, ◌+◌, ◌*◌, ◌≤◌, ◌<◌}
use native.Mathlib.Omega.{arith}
use lib.ListN.{length, get_or, drop, length-map, length-drop}
use Rattle.network.specs.Plane.{Point, ◌to◌}
use Rattle.network.specs.Route.{Straight}
use Rattle.network.specs.Graph.{origin}
use Rattle.network.proofs.Lists.{index_member, all_member}
use Rattle.job.specs.Fields.{word2, biased_of}
use Rattle.job.proofs.There.{word2_there, word4_there}
use Rattle.book.specs.declared.Reading.{Reading}
use Rattle.plan.specs.Plan.{Entry}
use Rattle.plan.specs.Records.{route_size}
use Rattle.plan.specs.Fits.{PointIn}
use Rattle.plan.proofs.Length.{route_size_lem}
use Rattle.book.specs.declared.Walk.{Walk}
use Rattle.book.specs.Parse.{Told, entries_of, begun, passed}
use Rattle.book.specs.Reading.{padded, places as placesFrom}
use Rattle.book.specs.Right.{Turning, RightEntry}
use Rattle.book.proofs.Taken.{record_long}
use Rattle.book.proofs.Places.{CornerAt, CornersAt}
use Rattle.book.proofs.Stands.{Stands, placed}
use Rattle.book.proofs.Accepted.{Accepts, accepts, accepted_routes, told_right}
use Rattle.book.proofs.Written.{accepted_right}
use Rattle.judge.specs.Judged.{entry_at}
use Rattle.judge.specs.Steps.{ReadAs, corner_there, Drawn}

-- ---- lists

-- the entry of the route that stands in front of the rest
front_entry : (ts : List Told) (i : ℕ) (t : Told) → drop i ts ≡ t ∷ drop (suc i) ts → i < length ts → entry_at (entries_of ts) i ≡ t.entry
front_entry [] i t e h = absurd (omega arith)
front_entry (u ∷ ts) zero t e h = let same : u ≡ t = cc in ap (λ (v : Told). v.entry) same
front_entry (u ∷ ts) (suc i) t e h = front_entry ts i t e (omega arith)

-- corners that turn go straight from each to the next
turning_straight : (l : List Point) → Turning l → (j : ℕ) → suc j < length l → Straight (get_or l j origin to get_or l (suc j) origin)
turning_straight [] t j h = absurd (omega arith)
turning_straight (p ∷ []) t j h = absurd (omega arith)
turning_straight (p ∷ q ∷ []) t zero h = t.along
turning_straight (p ∷ q ∷ []) t (suc j) h = absurd (omega arith)
turning_straight (p ∷ q ∷ r ∷ l) t zero h = t.0.along
turning_straight (p ∷ q ∷ r ∷ l) t (suc j) h = turning_straight (q ∷ r ∷ l) t.2 j (omega arith)

-- ---- corners

-- corner j of those that stand one behind the other
corner_stands : (s : List ℕ) (at : ℕ) (w : Walk) (ps : List Point) (j : ℕ) → CornersAt s at w ps → j < length ps → (v : Walk) × CornerAt s (at + 9 * j) v (get_or ps j origin)
unfolding CornersAt
corner_stands s at w [] j t h = absurd (omega arith)
corner_stands s at w (p ∷ ps) zero t h = let m : at + 9 * 0 ≡ at = omega arith in (w, rw m t.0)
corner_stands s at w (p ∷ ps) (suc j) t h =
    let m : at + 9 * suc j ≡ at + 9 + 9 * j = omega arith in
    rw m (corner_stands s (at + 9) (passed w (record { x = p.x; y = p.y })) ps j t.1 (omega arith))

-- its bytes are there, and its coordinates are those of the record
corner_words : (s : List ℕ) (at : ℕ) (v : Walk) (p : Point) → CornerAt s at v p → (at + 9 ≤ length s) × ((corner_there s at).x ≡ p.x) × ((corner_there s at).y ≡ p.y)
corner_words s at v p k =
    let l = rw k.is at (record_long (drop at s)) in (
      omega (arith, l.0, length-drop at s),
      ap biased_of (sym (l.1 ∙ word4_there s at 0 (at + 1) (omega arith))) ∙ sym k.x_is,
      ap biased_of (sym (l.2 ∙ word4_there s at 4 (at + 5) (omega arith))) ∙ sym k.y_is,
    )

-- ---- a book that was read

module _ (book : List ℕ) (r : Reading) (es : List Entry) (R : ReadAs book r es) where
  -- its routes are as many as its head says, and at most 32
  pub count_read : (r.head.runs ≡ length es) × (length es ≤ 32)
  count_read = accepted_routes book r.head es R.parsed

  abbrev took : Accepts book r.head es
  took = accepts book r.head es R.parsed

  length_told : length took.told ≡ length es
  length_told = sym (length-map took.told (λ (t : Told). t.entry)) ∙ ap length took.entries

  module _ (i : ℕ) (k : i < length es) where
    abbrev at : ℕ
    at = get_or r.places i 0

    stood : Stands book r.head.grouped took.told i (get_or r.places i 0) (get_or r.places (i + 1) 0)
    stood =
        placed book r.head.grouped r.places took.told i (R.placed ∙ ap (λ l. padded (placesFrom r.head.grouped 19 l)) (sym took.entries)) took.held
        (omega (arith, length_told))

    entry_is : stood.route.entry ≡ entry_at es i
    entry_is = sym (front_entry took.told i stood.route stood.here (omega (arith, length_told))) ∙ ap (λ l. entry_at l i) took.entries

    -- the record of route i is whole
    pub route_room : get_or r.places i 0 + route_size r.head.grouped ≤ length book
    route_room = omega (arith, (rw stood.at.is at (record_long (drop at book))).0, length-drop at book, route_size_lem r.head.grouped)

    pub number_at : word2 book (get_or r.places i 0 + 1) ≡ (entry_at es i).number
    number_at =
        sym ((rw stood.at.is at (record_long (drop at book))).1 ∙ word2_there book at 0 (at + 1) (omega arith)) ∙ ap (λ (e : Entry). e.number) entry_is

    pub meets_at : word2 book (get_or r.places i 0 + 3) ≡ (entry_at es i).meets
    meets_at =
        sym ((rw stood.at.is at (record_long (drop at book))).2 ∙ word2_there book at 2 (at + 3) (omega arith)) ∙ ap (λ (e : Entry). e.meets) entry_is

    pub corners_at_lem : word2 book (get_or r.places i 0 + 5) ≡ length (entry_at es i).corners
    corners_at_lem =
        sym ((rw stood.at.is at (record_long (drop at book))).3 ∙ word2_there book at 4 (at + 5) (omega arith))
        ∙ (told_right took.told i stood.route stood.here took.right).said ∙ ap (λ (e : Entry). length e.corners) entry_is

    module _ (newer : r.head.grouped ≡ true) where
      pub newer_room : get_or r.places i 0 + 9 ≤ length book
      unfolding route_size
      newer_room = rw newer at route_room

      pub centre_at : word2 book (get_or r.places i 0 + 7) ≡ (entry_at es i).centre
      centre_at =
          sym ((rw stood.at.is at (record_long (drop at book))).4 ∙ ap (λ g. cond g (word2 (drop 1 (drop at book)) 6) 0) newer ∙ word2_there book at 6 (at + 7) (omega arith))
          ∙ ap (λ (e : Entry). e.centre) entry_is

      right : RightEntry r.head.grouped (entry_at es i)
      right = all_member (RightEntry r.head.grouped) (accepted_right book r.head es R.bytes R.parsed).entries (index_member (entry_at [] 0) es i k)

      stand : CornersAt book (get_or r.places i 0 + 9) (begun stood.walk) (entry_at es i).corners
      unfolding route_size
      stand =
          subst (λ (e : Entry). CornersAt book (at + 9) (begun stood.walk) e.corners) entry_is
          (subst (λ (size : ℕ). CornersAt book (at + size) (begun stood.walk) stood.route.entry.corners) (ap route_size newer) stood.at.corners)

      there : (j : ℕ) → j < length (entry_at es i).corners
          → (at + 9 + 9 * j + 9 ≤ length book) × ((corner_there book (at + 9 + 9 * j)).x ≡ (get_or (entry_at es i).corners j origin).x)
          × ((corner_there book (at + 9 + 9 * j)).y ≡ (get_or (entry_at es i).corners j origin).y)
      there j l =
          let (v, c) = corner_stands book (at + 9) (begun stood.walk) (entry_at es i).corners j stand l in
          corner_words book (at + 9 + 9 * j) v (get_or (entry_at es i).corners j origin) c

      last_room : (n : ℕ) → n ≡ length (entry_at es i).corners → 0 < n → at + 9 + 9 * n ≤ length book
      last_room zero e p = absurd (omega arith)
      last_room (suc n) e p = omega (arith, (there n (omega arith)).0)

      -- the corners of route i
      pub route_drawn : Drawn book (get_or r.places i 0 + 9) (entry_at es i).corners
      route_drawn =
          let cs = (entry_at es i).corners in
          record {
            within = last_room (length cs) refl right.some;
            some = right.some;
            few = right.few;
            x_is = λ j l. (there j l).1;
            y_is = λ j l. (there j l).2;
            in_range = λ j l. all_member PointIn right.in_range (index_member origin cs j l);
            straight = turning_straight cs right.turning;
          }
