-- The bytes of a plan determine it: two plans with the same bytes have the same corners and the same figures. The first byte tells the set of kinds, and a
-- record's kind byte whether another corner, another route or the end comes next, so that the records of equal bytes are read off from the front one by one.
use mathlib.Core.Path.{◌≡◌, refl, sym, ap, ◌∙◌}
use mathlib.Core.Bool.{Bool, true, false, cond}
use mathlib.Core.List.{List, [], ◌∷◌, ◌++◌, map, flat_map, append_assoc}
use Prim.Native.Nat.{ℕ, ◌^◌, ◌≤◌, ◌<◌}
use native.Mathlib.Omega.{arith}
use lib.ListN.{length, get_or, drop}
use Rattle.network.specs.Lists.{All}
use Rattle.network.specs.Plane.{Point}
use Rattle.network.specs.Route.{Route}
use Rattle.network.proofs.Lanes.{point_path}
use Rattle.job.specs.Fields.{word2, word4, biased_of, word_of}
use Rattle.job.specs.Written.{bytes2, bytes4}
use Rattle.job.proofs.Fields.{word2_bytes, word4_bytes}
use Rattle.job.proofs.Signed.{biased_of_word}
use Rattle.plan.specs.declared.Head.{Head}
use Rattle.plan.specs.Records.{route_record, route_size, corner_record, end_record}
use Rattle.plan.specs.Plan.{Entry, entry_bytes, total_corners, book_bytes}
use Rattle.plan.specs.Fits.{PointIn, HeadFits}
use Rattle.plan.proofs.Length.{behind_route}

-- ---- fields

-- equal bytes are those of equal numbers, whatever follows
same2 : (u v : ℕ) (r s : List ℕ) → u < 65536 → v < 65536 → bytes2 u ++ r ≡ bytes2 v ++ s → u ≡ v
same2 u v r s h k e = sym (word2_bytes u h r) ∙ ap (λ l. word2 l 0) e ∙ word2_bytes v k s

-- and of four bytes
same4 : (u v : ℕ) (r s : List ℕ) → u < 2 ^ 32 → v < 2 ^ 32 → bytes4 u ++ r ≡ bytes4 v ++ s → u ≡ v
same4 u v r s h k e = sym (word4_bytes u h r) ∙ ap (λ l. word4 l 0) e ∙ word4_bytes v k s

-- equal words are those of equal coordinates
same_coordinate : (c d : ℕ) (r s : List ℕ) → c ≤ 2000000 → d ≤ 2000000 → bytes4 (word_of c) ++ r ≡ bytes4 (word_of d) ++ s → c ≡ d
same_coordinate c d r s h k e =
    sym (biased_of_word c h) ∙ ap biased_of (same4 (word_of c) (word_of d) r s (omega arith) (omega arith) e) ∙ biased_of_word d k

-- ---- corners

-- equal bytes that begin with a corner record: the corner is the same, and so is what follows
same_corner : (p q : Point) (r s : List ℕ) → PointIn p → PointIn q → corner_record p ++ r ≡ corner_record q ++ s → (p ≡ q) × (r ≡ s)
same_corner p q r s h k e = (
  point_path
      (same_coordinate p.x q.x (bytes4 (word_of p.y) ++ r) (bytes4 (word_of q.y) ++ s) h.x_in k.x_in (ap (drop 1) e))
      (same_coordinate p.y q.y r s h.y_in k.y_in (ap (drop 5) e)),
  ap (drop 9) e,
)

-- bytes that begin with no corner record
abbrev NoCorner : List ℕ → Type 0
NoCorner r = get_or r 0 0 ≡ 0x43 → ⊥

-- the corners up to the first other record are the same
same_corners : (l k : List Point) (r s : List ℕ) → All PointIn l → All PointIn k → NoCorner r → NoCorner s
    → flat_map corner_record l ++ r ≡ flat_map corner_record k ++ s → (l ≡ k) × (r ≡ s)
unfolding flat_map
same_corners [] [] r s a b m n e = (refl, e)
same_corners [] (q ∷ k) r s a b m n e = absurd (m (ap (λ l. get_or l 0 0) e))
same_corners (p ∷ l) [] r s a b m n e = absurd (n (ap (λ l. get_or l 0 0) (sym e)))
same_corners (p ∷ l) (q ∷ k) r s a b m n e =
    let t = same_corner p q (flat_map corner_record l ++ r) (flat_map corner_record k ++ s) a.0 b.0 e in
    let u = same_corners l k r s a.1 b.1 m n t.1 in
    (cc (t.0, u.0), u.1)

-- ---- entries

-- bytes that begin with an end record
abbrev Ends : List ℕ → Type 0
Ends r = get_or r 0 0 ≡ 0x5A

-- behind a route's corners stands the next route record or the end
no_corner : (g : Bool) (es : List Entry) (r : List ℕ) → Ends r → NoCorner (flat_map (entry_bytes g) es ++ r)
unfolding flat_map
no_corner g [] r m c = omega (arith, sym m ∙ c)
no_corner true (e ∷ es) r m c = omega arith
no_corner false (e ∷ es) r m c = omega arith

-- what begins with a route record does not begin with an end
no_end : (g : Bool) (e : Entry) (es : List Entry) (r s : List ℕ) → Ends r → r ≡ flat_map (entry_bytes g) (e ∷ es) ++ s → ⊥
unfolding flat_map
no_end true e es r s m q = let z : ◌≡◌ {A = ℕ} 0x5A 0x4F = sym m ∙ ap (λ l. get_or l 0 0) q in omega arith
no_end false e es r s m q = let z : ◌≡◌ {A = ℕ} 0x5A 0x4E = sym m ∙ ap (λ l. get_or l 0 0) q in omega arith

-- the corners of all entries
abbrev corners_in : List Entry → List Route
corners_in es = map (λ e. e.corners) es

-- the corners of the first entry, and what follows them
behind_first : (g : Bool) (e : Entry) (es : List Entry) (r : List ℕ)
    → drop (route_size g) (flat_map (entry_bytes g) (e ∷ es) ++ r) ≡ flat_map corner_record e.corners ++ (flat_map (entry_bytes g) es ++ r)
unfolding flat_map
behind_first g e es r =
    let route = route_record g e.number e.meets (length e.corners) e.centre in
    ap (drop (route_size g))
    (append_assoc (entry_bytes g e) (flat_map (entry_bytes g) es) r ∙ append_assoc route (flat_map corner_record e.corners) (flat_map (entry_bytes g) es ++ r))
    ∙ behind_route g e.number e.meets (length e.corners) e.centre _

-- the entries up to the end record have the same corners
same_entries : (g : Bool) (es fs : List Entry) (r s : List ℕ) → All (All PointIn) (corners_in es) → All (All PointIn) (corners_in fs) → Ends r → Ends s
    → flat_map (entry_bytes g) es ++ r ≡ flat_map (entry_bytes g) fs ++ s → corners_in es ≡ corners_in fs
unfolding flat_map
same_entries g [] [] r s a b m n e = refl
same_entries g [] (f ∷ fs) r s a b m n e = absurd (no_end g f fs r s m e)
same_entries g (x ∷ es) [] r s a b m n e = absurd (no_end g x es s r n (sym e))
same_entries g (x ∷ es) (y ∷ fs) r s a b m n e =
    let c = sym (behind_first g x es r) ∙ ap (drop (route_size g)) e ∙ behind_first g y fs s in
    let t = same_corners x.corners y.corners (flat_map (entry_bytes g) es ++ r) (flat_map (entry_bytes g) fs ++ s) a.0 b.0 (no_corner g es r m)
    (no_corner g fs s n) c in
    cc (t.0, same_entries g es fs r s a.1 b.1 m n t.1)

-- ---- the whole plan

-- the first byte tells the set of kinds
same_kinds : (a b : Bool) → ◌≡◌ {A = ℕ} (cond a 0x51 0x50) (cond b 0x51 0x50) → a ≡ b
same_kinds true true e = refl
same_kinds false false e = refl
same_kinds true false e = absurd (omega arith)
same_kinds false true e = absurd (omega arith)

same_grouped : (g h : Head) (es fs : List Entry) → book_bytes g es ≡ book_bytes h fs → g.grouped ≡ h.grouped
unfolding book_bytes
same_grouped g h es fs e = same_kinds g.grouped h.grouped (ap (λ l. get_or l 0 0) e)

-- Two plans with the same bytes have the same corners: what stands behind the head is read off.
pub book_corners : (g h : Head) (es fs : List Entry) → All (All PointIn) (corners_in es) → All (All PointIn) (corners_in fs) → book_bytes g es ≡ book_bytes h fs
    → corners_in es ≡ corners_in fs
unfolding book_bytes
book_corners g h es fs a b e =
    same_entries g.grouped es fs (end_record (total_corners es)) (end_record (total_corners fs)) a b refl refl
    (ap (drop 19) e ∙ ap (λ k. flat_map (entry_bytes k) fs ++ end_record (total_corners fs)) (sym (same_grouped g h es fs e)))

-- Two plans with the same bytes have the same figures, where these fit their fields.
pub book_head : (g h : Head) (es fs : List Entry) → HeadFits g → HeadFits h → book_bytes g es ≡ book_bytes h fs → g ≡ h
unfolding book_bytes
book_head g h es fs m n e =
    let k = same_grouped g h es fs e in
    let p = same4 g.job h.job _ _ m.job_fits n.job_fits (ap (drop 1) e) in
    let q = same2 g.runs h.runs _ _ m.runs_fits n.runs_fits (ap (drop 5) e) in
    let t = same4 g.trench h.trench _ _ m.trench_fits n.trench_fits (ap (drop 7) e) in
    let s = same4 g.saved h.saved _ _ m.saved_fits n.saved_fits (ap (drop 11) e) in
    let o = same2 g.pits h.pits _ _ m.pits_fits n.pits_fits (ap (drop 15) e) in
    let c = same2 g.last h.last _ _ m.last_fits n.last_fits (ap (drop 17) e) in
    λ i. record { grouped = k i; job = p i; runs = q i; trench = t i; saved = s i; pits = o i; last = c i }
