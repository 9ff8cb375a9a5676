-- What a walk along a route touches is what its corners say: a vertex of the trail is a corner, or else an inner point of the straight piece between two
-- corners, along the direction in which the route goes on there.
use mathlib.Core.Path.{◌≡◌, refl, sym, ap, ◌∙◌}
use mathlib.Core.Logic.{◌⊎◌, inl, inr}
use mathlib.Core.Bool.{Bool, true, false, ◌&&◌, ◌||◌, and-true, and-false, and_comm, or_assoc}
use mathlib.Core.List.{List, [], ◌∷◌}
use Prim.Native.Nat.{ℕ, suc, ◌+◌, ◌≤◌, ◌<◌}
use native.Mathlib.Omega.{arith}
use borrow.Author.Tests.{eq-eqb, eqb-true}
use lib.Dec.{eqb}
use Rattle.network.specs.Lists.{any}
use Rattle.network.specs.Plane.{Point, ◌to◌, same_point}
use Rattle.network.specs.Route.{pieces_from, pieces, level}
use Rattle.network.specs.Steps.{Dir, hor, ver, steps, Lane, forth, back, extent, at, Fits}
use Rattle.network.specs.Passes.{among, passes}
use Rattle.network.specs.Pits.{amid, passes_row, passes_column}
use Rattle.network.proofs.Tests.{same_test, eqb_same, or_split, or_join, is_false}
use Rattle.network.proofs.Numbers.{order}
use Rattle.network.proofs.Pits.{Amid, amid_true, true_amid}
use Rattle.route.specs.Walker.{heading_of}
use Rattle.route.specs.Marked.{along}
use Rattle.route.proofs.Turns.{Visit, trail, turns, origin, Behind}

-- a visit of p that turns there, ends there, or goes on along d
abbrev pub touches : Dir → Point → Visit → Bool
touches d p v = same_point p v.spot && (v.corner || along d v.heading)

-- ---- numbers in a row

-- b and c are neighbours
abbrev Beside : ℕ → ℕ → Type 0
Beside b c = (c ≡ suc b) ⊎ (b ≡ suc c)

-- nothing is strictly between a number and itself, or its neighbour
amid_none : (a v : ℕ) → amid a a v ≡ false
amid_none a v = is_false (amid a a v) (λ h. go (amid_true a a v h))
  where
    go : Amid a a v → ⊥
    go (inl h) = omega arith
    go (inr h) = omega arith

amid_beside : (b c v : ℕ) → Beside b c → amid b c v ≡ false
amid_beside b c v n = is_false (amid b c v) (λ h. go n (amid_true b c v h))
  where
    go : Beside b c → Amid b c v → ⊥
    go (inl e) (inl h) = omega arith
    go (inl e) (inr h) = omega arith
    go (inr e) (inl h) = omega arith
    go (inr e) (inr h) = omega arith

-- c is the next number behind b on the way from u
abbrev Beyond : ℕ → ℕ → ℕ → Type 0
Beyond u b c = ((u < b) × (c ≡ suc b)) ⊎ ((b < u) × (b ≡ suc c))

-- a way that goes on from b to c passes b besides
amid_on : (u b c v : ℕ) → Beyond u b c → amid u c v ≡ amid u b v || eqb v b
amid_on u b c v w =
    same_test (amid u c v) (amid u b v || eqb v b)
    (λ h. or_join (amid u b v) (eqb v b) (forth_to w (amid_true u c v h)))
    (λ h. true_amid u c v (back_to w (or_split (amid u b v) (eqb v b) h)))
  where
    forth_to : Beyond u b c → Amid u c v → (amid u b v ≡ true) ⊎ (eqb v b ≡ true)
    forth_to (inl k) (inr h) = absurd (omega arith)
    forth_to (inr k) (inl h) = absurd (omega arith)
    forth_to (inl k) (inl h) = go (order b v)
      where
        go : (b ≤ v) ⊎ (v < b) → (amid u b v ≡ true) ⊎ (eqb v b ≡ true)
        go (inl o) = inr (eq-eqb v b (omega arith))
        go (inr o) = inl (true_amid u b v (inl (h.0, o)))
    forth_to (inr k) (inr h) = go (order v b)
      where
        go : (v ≤ b) ⊎ (b < v) → (amid u b v ≡ true) ⊎ (eqb v b ≡ true)
        go (inl o) = inr (eq-eqb v b (omega arith))
        go (inr o) = inl (true_amid u b v (inr (o, h.1)))

    back_to : Beyond u b c → (amid u b v ≡ true) ⊎ (eqb v b ≡ true) → Amid u c v
    back_to (inl k) (inr h) = let e = eqb-true v b h in inl (omega arith, omega arith)
    back_to (inr k) (inr h) = let e = eqb-true v b h in inr (omega arith, omega arith)
    back_to (inl k) (inl h) = go (amid_true u b v h)
      where
        go : Amid u b v → Amid u c v
        go (inl o) = inl (o.0, omega arith)
        go (inr o) = absurd (omega arith)
    back_to (inr k) (inl h) = go (amid_true u b v h)
      where
        go : Amid u b v → Amid u c v
        go (inl o) = absurd (omega arith)
        go (inr o) = inr (omega arith, o.1)

-- the lines of a lane are such numbers
lane_beside : (l : List ℕ) (X : Lane) → Fits l X → (i : ℕ) → suc i ≤ extent X → Beside (at X i) (at X (suc i))
lane_beside l (forth a n) f i h = inl (omega arith)
lane_beside l (back a n) f i h = inr (omega arith)

lane_beyond : (l : List ℕ) (X : Lane) → Fits l X → (k i : ℕ) → k < i → suc i ≤ extent X → Beyond (at X k) (at X i) (at X (suc i))
lane_beyond l (forth a n) f k i h m = inl (omega arith, omega arith)
lane_beyond l (back a n) f k i h m = inr (omega arith, omega arith)

-- ---- pieces of a way

-- a piece on the line of p (a) that goes on: p is one of the points before (m), or the one where it ended (x)
one_more : (a m x y : Bool) → y ≡ x && a → (a && a) && (m || x) ≡ (a && a) && m || y && true
one_more true true x y e = refl
one_more true false x y e = rw (e, and-true x, and-true x)
one_more false m x y e = rw (e, and-false x)

nothing_more : (a b x : Bool) → a && false ≡ b && false || x && false
nothing_more a b x = rw (and-false a, and-false b, and-false x)

module _ (columns rows : List ℕ) (X Y : Lane) (fx : Fits columns X) (fy : Fits rows Y) where
  -- the vertex in column i and row j
  abbrev spot_at : ℕ → ℕ → Point
  spot_at i j = record { x = at X i; y = at Y j }

  -- the vertex after (i, j) along d
  abbrev after : Dir → ℕ → ℕ → Point
  after hor i j = spot_at (suc i) j
  after ver i j = spot_at i (suc j)

  -- one before it on the line by which d leads there
  abbrev before : Dir → ℕ → ℕ → ℕ → Point
  before = origin spot_at

  abbrev Room : Dir → ℕ → ℕ → Type 0
  Room hor i j = suc i ≤ extent X
  Room ver i j = suc j ≤ extent Y

  module _ (e : Dir) (p : Point) where
    -- a piece that goes on straight passes the vertex where it ended before
    passes_on : (d : Dir) (k i j : ℕ) → Behind d k i j → Room d i j
        → passes e p (before d k i j to after d i j) ≡ passes e p (before d k i j to spot_at i j) || same_point p (spot_at i j) && along e (heading_of d)
    unfolding passes_row passes_column level same_point
    passes_on = go e
      where
        go : (e d : Dir) (k i j : ℕ) → Behind d k i j → Room d i j
            → passes e p (before d k i j to after d i j) ≡ passes e p (before d k i j to spot_at i j) || same_point p (spot_at i j) && along e (heading_of d)
        go hor hor k i j b r =
            rw (amid_on (at X k) (at X i) (at X (suc i)) p.x (lane_beyond columns X fx k i b r))
            (one_more (eqb (at Y j) p.y) (amid (at X k) (at X i) p.x) (eqb p.x (at X i)) _ (ap (λ t. eqb p.x (at X i) && t) (eqb_same p.y (at Y j) (at Y j) p.y sym sym)))
        go ver ver k i j b r =
            rw (amid_on (at Y k) (at Y j) (at Y (suc j)) p.y (lane_beyond rows Y fy k j b r))
            (one_more (eqb (at X i) p.x) (amid (at Y k) (at Y j) p.y) (eqb p.y (at Y j)) _
            (and_comm (eqb p.x (at X i)) (eqb p.y (at Y j)) ∙ ap (λ t. eqb p.y (at Y j) && t) (eqb_same p.x (at X i) (at X i) p.x sym sym)))
        go hor ver k i j b r =
            rw (amid_none (at X i) p.x) (nothing_more (level (at Y k) (at Y (suc j)) p.y) (level (at Y k) (at Y j) p.y) (same_point p (spot_at i j)))
        go ver hor k i j b r =
            rw (amid_none (at Y j) p.y) (nothing_more (level (at X k) (at X (suc i)) p.x) (level (at X k) (at X i) p.x) (same_point p (spot_at i j)))

    -- one from a vertex to the next passes none
    passes_none : (d : Dir) (i j : ℕ) → Room d i j → passes e p (spot_at i j to after d i j) ≡ false
    unfolding passes_row passes_column
    passes_none = go e
      where
        go : (e d : Dir) (i j : ℕ) → Room d i j → passes e p (spot_at i j to after d i j) ≡ false
        go hor hor i j r = rw (amid_beside (at X i) (at X (suc i)) p.x (lane_beside columns X fx i r)) (and-false (level (at Y j) (at Y j) p.y))
        go ver ver i j r = rw (amid_beside (at Y j) (at Y (suc j)) p.y (lane_beside rows Y fy j r)) (and-false (level (at X i) (at X i) p.x))
        go hor ver i j r = rw (amid_none (at X i) p.x) (and-false (level (at Y j) (at Y (suc j)) p.y))
        go ver hor i j r = rw (amid_none (at Y j) p.y) (and-false (level (at X i) (at X (suc i)) p.x))

    -- ---- the whole way

    at_end : (a b : Bool) → (a || false) || (b || false) ≡ b || (a && true || false)
    at_end true true = refl
    at_end true false = refl
    at_end false true = refl
    at_end false false = refl

    at_turn : (a b c m t : Bool) → c || m ≡ t → (a || c) || (b || m) ≡ b || (a && true || t)
    at_turn true true c m t e = refl
    at_turn true false c m t e = refl
    at_turn false true true m t e = refl
    at_turn false true false m t e = refl
    at_turn false false c m t e = e

    -- from a vertex that the way came by along d
    touched_from : (s : List Dir) (d : Dir) (k i j : ℕ) → Behind d k i j → i + steps hor s ≤ extent X → j + steps ver s ≤ extent Y
        → among p (turns spot_at i j (heading_of d) s) || any (passes e p) (pieces_from (before d k i j) (turns spot_at i j (heading_of d) s))
        ≡ passes e p (before d k i j to spot_at i j) || any (touches e p) (trail spot_at i j (heading_of d) s)
    unfolding steps
    touched_from [] d k i j b m n = at_end (same_point p (spot_at i j)) (passes e p (before d k i j to spot_at i j))
    touched_from (hor ∷ s) hor k i j b m n =
        touched_from s hor k (suc i) j (omega arith) (omega arith) (omega arith)
        ∙ ap (λ t. t || any (touches e p) (trail spot_at (suc i) j 0 s)) (passes_on hor k i j b (omega arith))
        ∙ or_assoc (passes e p (spot_at k j to spot_at i j)) _ _
    touched_from (ver ∷ s) ver k i j b m n =
        touched_from s ver k i (suc j) (omega arith) (omega arith) (omega arith)
        ∙ ap (λ t. t || any (touches e p) (trail spot_at i (suc j) 1 s)) (passes_on ver k i j b (omega arith))
        ∙ or_assoc (passes e p (spot_at i k to spot_at i j)) _ _
    touched_from (ver ∷ s) hor k i j b m n =
        at_turn (same_point p (spot_at i j)) (passes e p (spot_at k j to spot_at i j)) _ _ _
        (touched_from s ver j i (suc j) (omega arith) (omega arith) (omega arith) ∙ rw (passes_none ver i j (omega arith)))
    touched_from (hor ∷ s) ver k i j b m n =
        at_turn (same_point p (spot_at i j)) (passes e p (spot_at i k to spot_at i j)) _ _ _
        (touched_from s hor i (suc i) j (omega arith) (omega arith) (omega arith) ∙ rw (passes_none hor i j (omega arith)))

    -- The vertices of the way that are touched are those of its corners' pieces.
    pub touched_way : (s : List Dir) → steps hor s ≤ extent X → steps ver s ≤ extent Y
        → among p (turns spot_at 0 0 2 s) || any (passes e p) (pieces (turns spot_at 0 0 2 s)) ≡ any (touches e p) (trail spot_at 0 0 2 s)
    unfolding steps
    touched_way [] m n = at_end (same_point p (spot_at 0 0)) false
    touched_way (hor ∷ s) m n =
        at_turn (same_point p (spot_at 0 0)) false _ _ _
        (touched_from s hor 0 1 0 (omega arith) (omega arith) (omega arith) ∙ rw (passes_none hor 0 0 (omega arith)))
    touched_way (ver ∷ s) m n =
        at_turn (same_point p (spot_at 0 0)) false _ _ _
        (touched_from s ver 0 0 1 (omega arith) (omega arith) (omega arith) ∙ rw (passes_none ver 0 0 (omega arith)))
