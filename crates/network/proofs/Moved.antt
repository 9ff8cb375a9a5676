-- Routes whose points are moved. Columns and rows that are moved and stay in their order keep the pits: corners and crossings go where their lines go.
use mathlib.Core.Path.{◌≡◌, refl, sym, ap, ap₂, ◌∙◌}
use mathlib.Core.Logic.{◌⊎◌, inl, inr}
use mathlib.Core.Bool.{Bool, true, false, cond, ◌&&◌}
use mathlib.Core.List.{List, [], ◌∷◌, ◌++◌, map, map-append, flatten, flat_map}
use Prim.Native.Nat.{ℕ, ◌≤◌, ◌<◌}
use native.Mathlib.Omega.{arith}
use borrow.Author.Tests.{ltb-true, lt-ltb}
use lib.Dec.{eqb, ltb}
use lib.ListN.{length, get_or}
use Rattle.network.specs.Lists.{any, All, unique}
use Rattle.network.specs.Plane.{Point, Run, ◌to◌, same_point}
use Rattle.network.specs.Grid.{Rising, Edge}
use Rattle.network.specs.Route.{Route, pieces_from, pieces, level, lies, on}
use Rattle.network.specs.Pits.{amid, passes_row, passes_column, crossing, crossings, pit_points, pits_of}
use Rattle.network.proofs.Tests.{same_test, eqb_same}
use Rattle.network.proofs.Lists.{any_cong, any_flat_map, all_flat_map, flatten_map, flat_map_map, any_map}
use Rattle.network.proofs.Rising.{rising_lt, rising_le, one_index}
use Rattle.network.proofs.Numbers.{order}
use Rattle.network.proofs.Points.{unique_map}
use Rattle.network.proofs.Pits.{pits_all}

-- ---- moved routes

-- a piece whose two points are moved
abbrev pub moved_piece : (Point → Point) → Run → Run
moved_piece f r = f r.first to f r.second

-- the pieces of a route whose points are moved
pub pieces_moved : (f : Point → Point) (route : Route) → pieces (map f route) ≡ map (moved_piece f) (pieces route)
pieces_moved f [] = refl
pieces_moved f (p ∷ l) = go p l
  where
    go : (p : Point) (l : List Point) → pieces_from (f p) (map f l) ≡ map (moved_piece f) (pieces_from p l)
    go p [] = refl
    go p (q ∷ l) = ap (λ m. (f p to f q) ∷ m) (go q l)

-- an edge is on some moved route exactly if it lies on some moved piece
pub on_moved_lem : (f : Point → Point) (e : Edge) (routes : List Route) → any (on e) (map (map f) routes) ≡ any (λ r. lies e (moved_piece f r)) (flat_map pieces routes)
on_moved_lem f e routes =
    any_map (on e) (map f) routes
    ∙ any_cong (λ route. on e (map f route)) (λ route. any (λ r. lies e (moved_piece f r)) (pieces route)) routes
    (λ route m. ap (any (lies e)) (pieces_moved f route) ∙ any_map (lies e) (moved_piece f) (pieces route))
    ∙ sym (any_flat_map (λ r. lies e (moved_piece f r)) pieces routes)

-- ---- lines that stay in their order

-- f keeps the order of the numbers in X
abbrev Keeps : (ℕ → Type 0) → (ℕ → ℕ) → Type 0
Keeps X f = (a b : ℕ) → X a → X b → (ltb (f a) (f b) ≡ ltb a b) × (eqb (f a) (f b) ≡ eqb a b)

-- the numbers of a rising list are in the order of their indexes
pub rising_keeps : (l : List ℕ) → Rising l → Keeps (λ i. i < length l) (λ i. get_or l i 0)
rising_keeps l r a b h k = (
  same_test (ltb (get_or l a 0) (get_or l b 0)) (ltb a b)
      (λ t. lt-ltb a b (after (order b a) (ltb-true (get_or l a 0) (get_or l b 0) t)))
      (λ t. lt-ltb (get_or l a 0) (get_or l b 0) (rising_lt l r a b (ltb-true a b t) k)),
  eqb_same (get_or l a 0) (get_or l b 0) a b (one_index l r a b h k) (ap (λ i. get_or l i 0)),
)
  where
    after : (b ≤ a) ⊎ (a < b) → get_or l a 0 < get_or l b 0 → a < b
    after (inl o) t = omega (arith, rising_le l r b a o h)
    after (inr o) t = o

module _ (X : ℕ → Type 0) (f : ℕ → ℕ) (k : Keeps X f) (a b v : ℕ) (p : X a) (q : X b) (o : X v) where
  level_kept : level (f a) (f b) (f v) ≡ level a b v
  unfolding level
  level_kept = ap₂ ◌&&◌ (k a v p o).1 (k b v q o).1

  amid_kept : amid (f a) (f b) (f v) ≡ amid a b v
  unfolding amid
  amid_kept = rw ((k a v p o).0, (k v b o q).0, (k b v q o).0, (k v a o p).0)

-- the columns are moved by f, the rows by h
module _ (X Y : ℕ → Type 0) (f h : ℕ → ℕ) (keeps-x : Keeps X f) (keeps-y : Keeps Y h) where
  abbrev moved : Point → Point
  moved p = record { x = f p.x; y = h p.y }

  abbrev In : Point → Type 0
  In p = X p.x × Y p.y

  abbrev Within : Run → Type 0
  Within r = In r.first × In r.second

  -- a crossing goes where its lines go
  crossing_moved : (r s : Run) → Within r → Within s → crossing (moved_piece moved r) (moved_piece moved s) ≡ map moved (crossing r s)
  unfolding crossing passes_row passes_column
  crossing_moved r s (a, b) (c, d) =
      rw (
        level_kept Y h keeps-y r.first.y r.second.y r.first.y a.1 b.1 a.1,
        amid_kept X f keeps-x r.first.x r.second.x s.first.x a.0 b.0 c.0,
        level_kept X f keeps-x s.first.x s.second.x s.first.x c.0 d.0 c.0,
        amid_kept Y h keeps-y s.first.y s.second.y r.first.y c.1 d.1 a.1,
      )
      (go (passes_row q r && passes_column q s))
    where
      q : Point
      q = record { x = s.first.x; y = r.first.y }

      go : (t : Bool) → cond t (moved q ∷ []) [] ≡ map moved (cond t (q ∷ []) [])
      go true = refl
      go false = refl

  -- the crossings of pieces go where their lines go
  crossings_moved : (l : List Run) → All Within l → crossings (map (moved_piece moved) l) ≡ map moved (crossings l)
  unfolding crossings
  crossings_moved l a =
      flat_map_map Within (moved_piece moved) moved (λ r. flat_map (crossing r) l) (λ r. flat_map (crossing r) (map (moved_piece moved) l))
      (λ r b. flat_map_map Within (moved_piece moved) moved (crossing r) (crossing (moved_piece moved r)) (λ s c. crossing_moved r s b c) l a) l a

  -- the pieces of a route
  pieces_within : (route : Route) → All In route → All Within (pieces route)
  pieces_within [] a = tt
  pieces_within (p ∷ l) a = go p l a
    where
      go : (p : Point) (l : List Point) → All In (p ∷ l) → All Within (pieces_from p l)
      go p [] a = tt
      go p (q ∷ l) a = ((a.0, a.1.0), go q l a.1)

  -- so the pits do
  pits_moved : (routes : List Route) → All (All In) routes → pit_points (map (map moved) routes) ≡ map moved (pit_points routes)
  unfolding pit_points
  pits_moved routes a =
      ap₂ ◌++◌ (flatten_map moved routes)
      (ap crossings (flat_map_map (All In) (map moved) (moved_piece moved) pieces pieces (λ route b. pieces_moved moved route) routes a)
      ∙ crossings_moved (flat_map pieces routes) (all_flat_map (All In) Within pieces pieces_within routes a))
      ∙ sym (map-append moved (flatten routes) (crossings (flat_map pieces routes)))

  -- points of the same lines are the same
  same_kept : (p q : Point) → In p → In q → same_point (moved p) (moved q) ≡ same_point p q
  unfolding same_point
  same_kept p q a b = ap₂ ◌&&◌ (keeps-x p.x q.x a.0 b.0).1 (keeps-y p.y q.y a.1 b.1).1

  -- and there are as many
  pub pits_kept : (routes : List Route) → All (All In) routes → pits_of (map (map moved) routes) ≡ pits_of routes
  unfolding pits_of
  pits_kept routes a =
      ap (λ l. length (unique same_point l)) (pits_moved routes a)
      ∙ unique_map moved In same_kept (pit_points routes) (pits_all In (λ p q b c. (b.0, c.1)) routes a)
