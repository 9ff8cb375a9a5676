-- Marks: setting digits of a vertex counts a pit where both are set only then, the counts of two markings, one after the other, add up, and where the
-- routes are marked the pits are counted.
use mathlib.Core.Path.{◌≡◌, refl, sym, ap, ◌∙◌, subst}
use mathlib.Core.Logic.{◌⊎◌, inl, inr}
use mathlib.Core.Bool.{Bool, true, false, cond, not, ◌&&◌, ◌||◌, or-false, or_assoc}
use mathlib.Core.List.{List, [], ◌∷◌, ◌++◌}
use Prim.Native.Nat.{ℕ, ◌+◌, ◌*◌, ◌≤◌, ◌<◌}
use native.Mathlib.Omega.{arith}
use native.Mathlib.Nat.{zero-add, add_assoc, suc-mul, mul-le-mul_right}
use lib.ListN.{length, get_or, set, length-set}
use lib.Seq.{get_or-set_same, get_or-set_other}
use lib.Dec.{eqb}
use lib.Bits.{bit_or}
use Rattle.network.specs.Lists.{any, All, count, each}
use Rattle.network.specs.Plane.{Point, same_point}
use Rattle.network.specs.Route.{Route as Points, pieces, Vertex}
use Rattle.network.specs.Steps.{Dir, hor, ver}
use Rattle.network.specs.Passes.{among, passes}
use Rattle.network.specs.Entries.{below_at, length_below}
use Rattle.network.specs.Graph.{below}
use Rattle.network.specs.Pits.{pit_points, pits_of}
use Rattle.network.proofs.Sums.{sum_to, sum_each, sum_to_cong, double_zero, double_cong, double_more}
use Rattle.network.proofs.Lists.{any_append}
use Rattle.network.proofs.Numbers.{order}
use Rattle.network.proofs.Lanes.{point_path}
use Rattle.network.proofs.Corners.{point_true, true_point}
use Rattle.network.proofs.Points.{unique_vertices}
use Rattle.network.proofs.Pits.{passed, pit_among, pits_all}
use Rattle.route.specs.Route.{indexed}
use Rattle.route.specs.Marked.{mark_of, digits, Clear, Marked, full, Counted, touched}

-- ---- digits

-- `|` sets the digits of both
digits_or : (a b c d : Bool) → bit_or (digits a b) (digits c d) ≡ digits (a || c) (b || d)
digits_or true true true true = refl
digits_or true true true false = refl
digits_or true true false true = refl
digits_or true true false false = refl
digits_or true false true true = refl
digits_or true false true false = refl
digits_or true false false true = refl
digits_or true false false false = refl
digits_or false true true true = refl
digits_or false true true false = refl
digits_or false true false true = refl
digits_or false true false false = refl
digits_or false false true true = refl
digits_or false false true false = refl
digits_or false false false true = refl
digits_or false false false false = refl

-- 3 is both
digits_both : (a b : Bool) → eqb (digits a b) 3 ≡ a && b
digits_both true true = refl
digits_both true false = refl
digits_both false true = refl
digits_both false false = refl

-- ---- the vertices with both digits

-- a mark lies before those of the next row
row_before : (width a b x : ℕ) → x < width → a < b → a * width + x < b * width
row_before width a b x h k = omega (arith, mul-le-mul_right width k, suc-mul a width)

-- the marks of rows and columns stand apart
marks_apart : (width a b x y : ℕ) → x < width → y < width → a * width + x ≡ b * width + y → (a ≡ b) × (x ≡ y)
marks_apart width a b x y h k e = go (order a b) (order b a)
  where
    go : (a ≤ b) ⊎ (b < a) → (b ≤ a) ⊎ (a < b) → (a ≡ b) × (x ≡ y)
    go (inl l) (inl m) = let s : a ≡ b = omega arith in (s, omega (arith, ap (λ n. n * width) s))
    go (inl l) (inr m) = absurd (omega (arith, row_before width a b x h m))
    go (inr l) m = absurd (omega (arith, row_before width b a y k l))

-- there is a mark for each column and row
pub mark_inside : (width height : ℕ) (p : Point) (n : ℕ) → p.x < width → p.y < height → height * width ≤ n → mark_of width p < n
mark_inside width height p n h k s = omega (arith, row_before width p.y height p.x h k)

-- points of the grid of indexes have marks of their own
other_mark : (width : ℕ) (p q : Point) → p.x < width → q.x < width → same_point q p ≡ false → mark_of width q ≡ mark_of width p → ⊥
other_mark width p q h k s e =
    let a = marks_apart width q.y p.y q.x p.x k h e in
    let d : q ≡ p = point_path a.1 a.0 in
    let t : same_point q p ≡ true = rw d (true_point p p refl) in
    let z : ◌≡◌ {A = ℕ} 0 1 = cc in
    omega arith

-- counting points of columns and rows is a sum over their indexes
count_cells : (n m : ℕ) (t : Point → Bool) → count t (each n (λ i. each m (λ j. record { x = i; y = j } ∷ []))) ≡ sum_to n (λ i. sum_to m (λ j. cond (t (record { x = i; y = j })) 1 0))
count_cells n m t =
    sum_each (λ p. cond (t p) 1 0) n (λ i. each m (λ j. record { x = i; y = j } ∷ []))
    ∙ sum_to_cong n _ _ (λ i h. sum_each (λ p. cond (t p) 1 0) m (λ j. record { x = i; y = j } ∷ []) ∙ sum_to_cong m _ _ (λ j k. omega arith))

-- so the full ones
full_cells : (width height : ℕ) (ms : List ℕ) → full width height ms ≡ sum_to width (λ i. sum_to height (λ j. cond (eqb (get_or ms (j * width + i) 0) 3) 1 0))
unfolding full
full_cells width height ms = count_cells width height (λ p. eqb (get_or ms (mark_of width p) 0) 3)

-- ---- one vertex

-- a vertex p is marked with the digits of s
module _ (width : ℕ) (ms : List ℕ) (p : Point) (s : Dir → Bool) (column : p.x < width) where
  -- its mark before and after
  abbrev was : ℕ
  was = get_or ms (mark_of width p) 0

  abbrev is : ℕ
  is = bit_or was (digits (s hor) (s ver))

  -- the digits that are added
  abbrev added : Dir → Point → Bool
  added d q = same_point q p && s d

  module _ (height : ℕ) (row : p.y < height) (t : Dir → Point → Bool) (m : Marked width height ms t) where
    -- it has a mark
    inside : mark_of width p < length ms
    inside = mark_inside width height p (length ms) column row m.size

    -- the digits of p
    is_digits : is ≡ digits (t hor p || s hor) (t ver p || s ver)
    is_digits = rw (m.marked p column row) (digits_or (t hor p) (t ver p) (s hor) (s ver))

    -- each mark is right
    mark_at : (q : Point) → q.x < width → q.y < height → get_or (set ms (mark_of width p) is) (mark_of width q) 0 ≡ digits (t hor q || added hor q) (t ver q || added ver q)
    mark_at q h k = go (same_point q p) refl
      where
        go : (b : Bool) → same_point q p ≡ b → get_or (set ms (mark_of width p) is) (mark_of width q) 0 ≡ digits (t hor q || (b && s hor)) (t ver q || (b && s ver))
        go true e = rw (point_true q p e) (get_or-set_same ms (mark_of width p) is 0 inside ∙ is_digits)
        go false e =
            rw (or-false (t hor q), or-false (t ver q))
            (get_or-set_other ms (mark_of width p) (mark_of width q) is 0 (other_mark width p q column h e) ∙ m.marked q h k)

    -- p is a pit now: it was one, or it counts
    came : (a b : Bool) → cond (eqb (digits (a || s hor) (b || s ver)) 3) 1 0
        ≡ cond (eqb (digits a b) 3) 1 0 + cond (eqb (digits (a || s hor) (b || s ver)) 3 && not (eqb (digits a b) 3)) 1 0
    came a b = rw (digits_both a b, digits_both (a || s hor) (b || s ver)) (go a b (s hor) (s ver))
      where
        go : (a b c d : Bool) → cond ((a || c) && (b || d)) 1 0 ≡ cond (a && b) 1 0 + cond (((a || c) && (b || d)) && not (a && b)) 1 0
        go true true c d = refl
        go true false c true = refl
        go true false c false = refl
        go false true true d = refl
        go false true false d = refl
        go false false true true = refl
        go false false true false = refl
        go false false false d = refl

    -- so the full marks are one more where it does
    full_one : full width height (set ms (mark_of width p) is) ≡ full width height ms + cond (eqb is 3 && not (eqb was 3)) 1 0
    full_one =
        let ns = set ms (mark_of width p) is in
        full_cells width height ns
        ∙ double_more width height p.x p.y (cond (eqb is 3 && not (eqb was 3)) 1 0)
        (λ i j. cond (eqb (get_or ns (j * width + i) 0) 3) 1 0) (λ i j. cond (eqb (get_or ms (j * width + i) 0) 3) 1 0) column row
        (λ i j h k d. ap (λ v. cond (eqb v 3) 1 0) (get_or-set_other ms (mark_of width p) (j * width + i) is 0 (λ e.
        let a = marks_apart width j p.y i p.x h column e in
        d a.1 a.0)))
        (ap (λ v. cond (eqb v 3) 1 0) (get_or-set_same ms (mark_of width p) is 0 inside)
        ∙ rw (is_digits, m.marked p column row) (came (t hor p) (t ver p)))
        ∙ ap (λ n. n + cond (eqb is 3 && not (eqb was 3)) 1 0) (sym (full_cells width height ms))

  -- the mark of one vertex, by the digits r
  pub mark_one : (r : ℕ) → r ≡ digits (s hor) (s ver) → (b : Bool) → eqb (bit_or was r) 3 && not (eqb was 3) ≡ b
      → (height : ℕ) → p.y < height → Counted width height ms (set ms (mark_of width p) (bit_or was r)) added (cond b 1 0)
  mark_one r e b t height row =
      rw (← t, e)
      (record {
        marked = λ t m. record { size = rw (length-set ms (mark_of width p) is) m.size; marked = mark_at height row t m };
        new = λ t m. full_one height row t m;
      })

-- ---- several vertices

module _ (width height : ℕ) where
  -- the digits that are added may be said in another way
  counted_same : (ms ns : List ℕ) (s t : Dir → Point → Bool) (n : ℕ) → ((d : Dir) (p : Point) → s d p ≡ t d p) → Counted width height ms ns s n
      → Counted width height ms ns t n
  counted_same ms ns s t n e c = subst (λ u. Counted width height ms ns u n) (λ i d p. e d p i) c

  -- nothing marked
  pub counted_none : (ms : List ℕ) → Counted width height ms ms (λ d p. false) 0
  counted_none ms =
      record {
        marked = λ t m. subst (Marked width height ms) (λ i d p. sym (or-false (t d p)) i) m;
        new = λ t m. omega arith;
      }

  -- one marking after another
  counted_next : (ms ns os : List ℕ) (s t : Dir → Point → Bool) (m n : ℕ) → Counted width height ms ns s m → Counted width height ns os t n
      → Counted width height ms os (λ d p. s d p || t d p) (m + n)
  counted_next ms ns os s t m n a b =
      record {
        marked = λ u h. subst (Marked width height os) (λ i d p. or_assoc (u d p) (s d p) (t d p) i) (b.marked (λ d p. u d p || s d p) (a.marked u h));
        new = λ u h. omega (arith, a.new u h, b.new (λ d p. u d p || s d p) (a.marked u h));
      }

  -- what is left to mark: n pits came so far, and marking the rest marks all
  abbrev pub Rest : (Dir → Point → Bool) → List ℕ → List ℕ → (Dir → Point → Bool) → ℕ → Type 0
  Rest all ms ns rest n = (os : List ℕ) (k : ℕ) → Counted width height ns os rest k → Counted width height ms os all (n + k)

  -- all is left
  pub rest_all : (all rest : Dir → Point → Bool) (ms : List ℕ) → ((d : Dir) (p : Point) → rest d p ≡ all d p) → Rest all ms ms rest 0
  rest_all all rest ms e os k c = rw (zero-add k) (counted_same ms os rest all k e c)

  -- one vertex less
  pub rest_one : (all : Dir → Point → Bool) (ms ns ps : List ℕ) (s t : Dir → Point → Bool) (n m : ℕ) → Rest all ms ns (λ d p. s d p || t d p) n
      → Counted width height ns ps s m → Rest all ms ps t (n + m)
  rest_one all ms ns ps s t n m r c os k d = rw (add_assoc n m k) (r os (m + k) (counted_next ns ps os s t m k c d))

  -- the last vertex
  pub rest_last : (all : Dir → Point → Bool) (ms ns os : List ℕ) (s : Dir → Point → Bool) (n k : ℕ) → Rest all ms ns (λ d p. s d p || false) n
      → Counted width height ns os s k → Counted width height ms os all (n + k)
  rest_last all ms ns os s n k r c = r os k (counted_same ns os s (λ d p. s d p || false) k (λ d p. sym (or-false (s d p))) c)

-- ---- several routes

-- what some route touches
abbrev pub some_touched : List Points → Dir → Point → Bool
some_touched routes d p = any (λ route. touched route d p) routes

-- one more route
pub counted_more : (width height : ℕ) (l : List Points) (route : Points) (ms ns os : List ℕ) (n m : ℕ) → Counted width height ms ns (some_touched l) n
    → Counted width height ns os (touched route) m → Counted width height ms os (some_touched (l ++ route ∷ [])) (n + m)
counted_more width height l route ms ns os n m b c =
    counted_same width height ms os (λ d p. some_touched l d p || touched route d p) (some_touched (l ++ route ∷ [])) (n + m)
    (λ d p.
    let t : Points → Bool = λ r. touched r d p in
    sym (any_append t l (route ∷ []) ∙ ap (λ b. any t l || b) (or-false (t route))))
    (counted_next width height ms ns os (some_touched l) (touched route) n m b c)

-- both digits are set where a pit is
both_touched : (routes : List Points) (p : Point) → some_touched routes hor p && some_touched routes ver p ≡ among p (pit_points routes)
both_touched routes p =
    rw (split hor routes, split ver routes, pit_among routes p) (share (any (among p) routes) (passed hor routes p) (passed ver routes p))
  where
    split : (d : Dir) (l : List Points) → some_touched l d p ≡ any (among p) l || passed d l p
    split d [] = refl
    split d (route ∷ l) = ap (λ b. touched route d p || b) (split d l) ∙ swap (among p route) (any (passes d p) (pieces route)) (any (among p) l) (passed d l p)
      where
        swap : (a b c e : Bool) → (a || b) || (c || e) ≡ (a || c) || (b || e)
        swap true b c e = refl
        swap false true true e = refl
        swap false true false e = refl
        swap false false c e = refl

    share : (a b c : Bool) → (a || b) && (a || c) ≡ a || b && c
    share true b c = refl
    share false b c = refl

-- the vertices of a grid of indexes are the pairs of indexes
indexed_count : (n m : ℕ) (t : Point → Bool) → sum_to (length (below n)) (λ i. sum_to (length (below m)) (λ j. cond (t (record { x = get_or (below n) i 0; y = get_or (below m) j 0 })) 1 0))
    ≡ sum_to n (λ i. sum_to m (λ j. cond (t (record { x = i; y = j })) 1 0))
indexed_count n m t = rw (length_below n, length_below m) (double_cong n m _ _ (λ i j h k. rw (below_at n i h, below_at m j k)))

module _ (width height : ℕ) where
  -- where the routes are marked, the full marks are those of the pits
  full_pits : (ms : List ℕ) (routes : List Points) → Marked width height ms (λ d p. false || some_touched routes d p)
      → full width height ms ≡ sum_to width (λ i. sum_to height (λ j. cond (among (record { x = i; y = j }) (pit_points routes)) 1 0))
  full_pits ms routes m =
      full_cells width height ms
      ∙ double_cong width height (λ i j. cond (eqb (get_or ms (j * width + i) 0) 3) 1 0) (λ i j. cond (among (record { x = i; y = j }) (pit_points routes)) 1 0)
      (λ i j h k. ap (λ b. cond b 1 0) (is_pit (record { x = i; y = j }) h k))
    where
      is_pit : (p : Point) → p.x < width → p.y < height → eqb (get_or ms (mark_of width p) 0) 3 ≡ among p (pit_points routes)
      is_pit p h k = ap (λ v. eqb v 3) (m.marked p h k) ∙ digits_both (some_touched routes hor p) (some_touched routes ver p) ∙ both_touched routes p

  module _ (ms : List ℕ) (clear : Clear ms) (size : height * width ≤ length ms) where
    -- on marks that are all 0, no digit is set
    none_marked : Marked width height ms (λ d p. false)
    none_marked = record { size = size; marked = λ q h k. clear (mark_of width q) (mark_inside width height q (length ms) h k size) }

    -- and there is no pit
    none_full : full width height ms ≡ 0
    none_full =
        full_cells width height ms
        ∙ double_zero width height (λ i j. cond (eqb (get_or ms (j * width + i) 0) 3) 1 0)
        (λ i j h k. ap (λ v. cond (eqb v 3) 1 0) (clear (j * width + i) (mark_inside width height (record { x = i; y = j }) (length ms) h k size)))

    -- On marks that are all 0, marking routes on the grid of indexes counts their pits.
    pub counted_all : (ns : List ℕ) (routes : List Points) (n : ℕ) → All (All (Vertex (indexed width height))) routes
        → Counted width height ms ns (some_touched routes) n → n ≡ pits_of routes
    unfolding pits_of indexed
    counted_all ns routes n v c =
        let e : n ≡ full width height ns = omega (arith, c.new (λ d p. false) none_marked, none_full) in
        e
        ∙ full_pits ns routes (c.marked (λ d p. false) none_marked)
        ∙ sym (indexed_count width height (λ p. among p (pit_points routes)))
        ∙ sym (unique_vertices (indexed width height) (pit_points routes)
        (pits_all (Vertex (indexed width height)) (λ p q a b. record { column = a.column; row = b.row }) routes v))
