-- An edge lies in a box of the view exactly if, in the plane, it lies in the box of the run that the box shows.
--
-- Along one direction the view's numbers and the coordinates are in the same order or, if flipped, in the opposite order. So a line is between two others
-- by its number exactly if it is by its coordinate; and an edge is in a box exactly if its two ends are.
use mathlib.Core.Path.{◌≡◌, refl, ap}
use mathlib.Core.Logic.{◌⊎◌, inl, inr}
use mathlib.Core.Bool.{Bool, true, false}
use mathlib.Core.List.{List}
use Prim.Native.Nat.{ℕ, suc, ◌-◌, ◌≤◌, ◌<◌}
use native.Mathlib.Omega.{arith}
use lib.ListN.{length, get_or}
use Rattle.network.specs.Grid.{Rising, Grid, len, inside}
use Rattle.network.specs.Steps.{Dir, hor, ver, other}
use Rattle.network.proofs.Tests.{Spans, inside_true, true_inside}
use Rattle.network.proofs.Numbers.{order, Between, rise, fall}
use Rattle.network.proofs.Rising.{rising_le, index_le}
use Rattle.network.proofs.Edges.{OfGrid, across_of, upward_of}
use Rattle.sharing.specs.Box.{Box, lo, hi}
use Rattle.sharing.specs.View.{lines, View, index, lower, numbered, numbered_low, coordinate, shown, edge, width}
use Rattle.sharing.proofs.Owners.{Lies}

-- ---- the order of the lines

-- two coordinates are in the order of their numbers or, if flipped, in the opposite order
abbrev pub Ordered : Bool → ℕ → ℕ → Type 0
Ordered false a b = a ≤ b
Ordered true a b = b ≤ a

-- the lines of each direction rise
pub rises : (g : Grid) (d : Dir) → Rising (lines g d)
rises g hor = g.columns_rise
rises g ver = g.rows_rise

-- between two numbers, whichever is the higher: as a stretch, and by cases
between_spans : {a t c : ℕ} → Between a t c → Spans a c t t
between_spans (rise h k) = omega arith
between_spans (fall h k) = omega arith

-- and back
spans_between : {a t c : ℕ} → Spans a c t t → Between a t c
spans_between {a} {t} {c} s = go (order a c)
  where
    go : (a ≤ c) ⊎ (c < a) → Between a t c
    go (inl o) = rise (omega arith) (omega arith)
    go (inr o) = fall (omega arith) (omega arith)

-- the coordinate of the line with the number p
abbrev line_at : List ℕ → Bool → ℕ → ℕ
line_at l f p = get_or l (index f (length l) p) 0

module _ (l : List ℕ) (r : Rising l) where
  -- a higher number is further in the order of the axis
  line_order : (f : Bool) (p q : ℕ) → p ≤ q → q < length l → Ordered f (line_at l f p) (line_at l f q)
  line_order false p q h k = rising_le l r p q h k
  line_order true p q h k = rising_le l r (length l - suc q) (length l - suc p) (omega arith) (omega arith)

  -- and back
  order_line : (f : Bool) (p q : ℕ) → p < length l → q < length l → Ordered f (line_at l f p) (line_at l f q) → p ≤ q
  order_line false p q h k o = index_le l r p q h o
  order_line true p q h k o = omega (arith, index_le l r (length l - suc q) (length l - suc p) (omega arith) o)

  module _ (p t q : ℕ) (hp : p < length l) (ht : t < length l) (hq : q < length l) where
    -- a line between two others by number is between them by coordinate
    line_between : (f : Bool) → Between p t q → Between (line_at l f p) (line_at l f t) (line_at l f q)
    line_between false (rise h k) = rise (line_order false p t h ht) (line_order false t q k hq)
    line_between false (fall h k) = fall (line_order false q t h ht) (line_order false t p k hp)
    line_between true (rise h k) = fall (line_order true t q k hq) (line_order true p t h ht)
    line_between true (fall h k) = rise (line_order true t p k hp) (line_order true q t h ht)

    -- and back
    between_line : (f : Bool) → Between (line_at l f p) (line_at l f t) (line_at l f q) → Between p t q
    between_line false (rise h k) = rise (order_line false p t hp ht h) (order_line false t q ht hq k)
    between_line false (fall h k) = fall (order_line false q t hq ht h) (order_line false t p ht hp k)
    between_line true (rise h k) = fall (order_line true q t hq ht k) (order_line true t p ht hp h)
    between_line true (fall h k) = rise (order_line true p t hp ht k) (order_line true t q ht hq h)

  -- between the lines with the numbers p and q lies a line, and an edge, by number and by coordinate
  module _ (f : Bool) (p q : ℕ) (hp : p < length l) (hq : q < length l) where
    -- a line, by coordinate
    line_spans : (t : ℕ) → t < length l → Spans p q t t → Spans (line_at l f p) (line_at l f q) (line_at l f t) (line_at l f t)
    line_spans t h s = between_spans (line_between p t q hp h hq f (spans_between s))

    -- a line, by number
    spans_line : (t : ℕ) → t < length l → Spans (line_at l f p) (line_at l f q) (line_at l f t) (line_at l f t) → Spans p q t t
    spans_line t h s = between_spans (between_line p t q hp h hq f (spans_between s))

    -- an edge, by coordinate
    edge_spans : (s : ℕ) → suc s < length l → Spans p q s (suc s)
        → Spans (line_at l f p) (line_at l f q) (get_or l (lower f (length l) s) 0) (get_or l (suc (lower f (length l) s)) 0)
    edge_spans s h x = go f (line_spans s (omega arith) (omega arith)) (line_spans (suc s) h (omega arith))
      where
        go : (f : Bool) → Spans (line_at l f p) (line_at l f q) (line_at l f s) (line_at l f s)
            → Spans (line_at l f p) (line_at l f q) (line_at l f (suc s)) (line_at l f (suc s))
            → Spans (line_at l f p) (line_at l f q) (get_or l (lower f (length l) s) 0) (get_or l (suc (lower f (length l) s)) 0)
        go false x y = omega arith
        go true x y =
            let e : suc (length l - suc (suc s)) ≡ length l - suc s = omega arith in
            omega (arith, ap (λ i. get_or l i 0) e)

    -- an edge, by number
    spans_edge : (s : ℕ) → suc s < length l
        → Spans (line_at l f p) (line_at l f q) (get_or l (lower f (length l) s) 0) (get_or l (suc (lower f (length l) s)) 0) → Spans p q s (suc s)
    spans_edge s h x = let (y, z) = go f x in omega (arith, spans_line s (omega arith) y, spans_line (suc s) h z)
      where
        go : (f : Bool) → Spans (line_at l f p) (line_at l f q) (get_or l (lower f (length l) s) 0) (get_or l (suc (lower f (length l) s)) 0)
            → Spans (line_at l f p) (line_at l f q) (line_at l f s) (line_at l f s)
            × Spans (line_at l f p) (line_at l f q) (line_at l f (suc s)) (line_at l f (suc s))
        go false x = let o = rising_le l r s (suc s) (omega arith) h in omega arith
        go true x =
            let e : suc (length l - suc (suc s)) ≡ length l - suc s = omega arith in
            let o = rising_le l r (length l - suc (suc s)) (length l - suc s) (omega arith) (omega arith) in
            omega (arith, ap (λ i. get_or l i 0) e)

module _ (v : View) where
  -- the box has its points on the grid's lines
  abbrev pub Seen : Box → Type 0
  Seen b = (d : Dir) → (b.first d < length (lines v.grid d)) × (b.second d < length (lines v.grid d))

  -- coordinates are in the order of the numbers, or in the opposite order
  pub coordinate_order : (d : Dir) (p q : ℕ) → p ≤ q → q < length (lines v.grid d) → Ordered (v.flip d) (coordinate v d p) (coordinate v d q)
  coordinate_order d p q h k = line_order (lines v.grid d) (rises v.grid d) (v.flip d) p q h k

  -- ---- edges

  -- the edge is one of the grid
  abbrev pub Edges : Dir → ℕ → ℕ → Type 0
  Edges d s t = (suc s < length (lines v.grid d)) × (t < length (lines v.grid (other d)))

  -- the indexes of lines are below their number
  pub index_fits : (d : Dir) (p : ℕ) → p < length (lines v.grid d) → numbered v d p < length (lines v.grid d)
  index_fits d p h = go (v.flip d)
    where
      go : (f : Bool) → index f (length (lines v.grid d)) p < length (lines v.grid d)
      go false = h
      go true = omega arith

  -- so is the lower one of an edge's lines
  lower_fits : (d : Dir) (s : ℕ) → suc s < length (lines v.grid d) → suc (numbered_low v d s) < length (lines v.grid d)
  lower_fits d s h = go (v.flip d)
    where
      go : (f : Bool) → suc (lower f (length (lines v.grid d)) s) < length (lines v.grid d)
      go false = h
      go true = omega arith

  -- the edge of two neighbouring lines and one across is an edge of the grid, and so long
  pub edge_of : (d : Dir) (s t : ℕ) → Edges d s t → OfGrid v.grid (edge v d s t)
  edge_of hor s t h = across_of (numbered_low v hor s) (numbered v ver t) (lower_fits hor s h.0) (index_fits ver t h.1)
  edge_of ver s t h = upward_of (numbered v hor t) (numbered_low v ver s) (index_fits hor t h.1) (lower_fits ver s h.0)

  -- it is so long
  pub edge_length : (d : Dir) (s t : ℕ) → len (edge v d s t) ≡ width v d s
  unfolding len
  edge_length hor s t = refl
  edge_length ver s t = refl

  -- an edge in a box, by numbers and in the plane
  pub lies_inside : (b : Box) → Seen b → (d : Dir) (s t : ℕ) → Edges d s t → Lies b d s t → inside (edge v d s t) (shown v b) ≡ true
  unfolding lo hi
  lies_inside b f hor s t h i =
      true_inside (edge v hor s t) (shown v b) (
        edge_spans v.grid.columns (rises v.grid hor) (v.flip hor) (b.first hor) (b.second hor) (f hor).0 (f hor).1 s h.0 (omega arith),
        line_spans v.grid.rows (rises v.grid ver) (v.flip ver) (b.first ver) (b.second ver) (f ver).0 (f ver).1 t h.1 (omega arith),
      )
  lies_inside b f ver s t h i =
      true_inside (edge v ver s t) (shown v b) (
        line_spans v.grid.columns (rises v.grid hor) (v.flip hor) (b.first hor) (b.second hor) (f hor).0 (f hor).1 t h.1 (omega arith),
        edge_spans v.grid.rows (rises v.grid ver) (v.flip ver) (b.first ver) (b.second ver) (f ver).0 (f ver).1 s h.0 (omega arith),
      )

  -- and back
  pub inside_lies : (b : Box) → Seen b → (d : Dir) (s t : ℕ) → Edges d s t → inside (edge v d s t) (shown v b) ≡ true → Lies b d s t
  unfolding lo hi
  inside_lies b f hor s t h i =
      let (x, y) = inside_true (edge v hor s t) (shown v b) i in
      omega (
        arith,
        spans_edge v.grid.columns (rises v.grid hor) (v.flip hor) (b.first hor) (b.second hor) (f hor).0 (f hor).1 s h.0 x,
        spans_line v.grid.rows (rises v.grid ver) (v.flip ver) (b.first ver) (b.second ver) (f ver).0 (f ver).1 t h.1 y,
      )
  inside_lies b f ver s t h i =
      let (x, y) = inside_true (edge v ver s t) (shown v b) i in
      omega (
        arith,
        spans_edge v.grid.rows (rises v.grid ver) (v.flip ver) (b.first ver) (b.second ver) (f ver).0 (f ver).1 s h.0 y,
        spans_line v.grid.columns (rises v.grid hor) (v.flip hor) (b.first hor) (b.second hor) (f hor).0 (f hor).1 t h.1 x,
      )

  -- the edges in a box are edges of the grid
  pub lies_edges : (b : Box) → Seen b → (d : Dir) (s t : ℕ) → Lies b d s t → Edges d s t
  unfolding lo hi
  lies_edges b f d s t i = (omega (arith, i.along_high, f d), omega (arith, i.across_high, f (other d)))
