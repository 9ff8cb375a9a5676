-- The test of a route says that it is a Manhattan path of the run, and no less.
use mathlib.Core.Path.{◌≡◌, refl, ◌∙◌}
use mathlib.Core.Logic.{◌⊎◌, inl, inr}
use mathlib.Core.Bool.{Bool, true, ◌&&◌, false≢true}
use mathlib.Core.List.{List, [], ◌∷◌}
use Prim.Native.Nat.{ℕ}
use borrow.Author.Tests.{eq-eqb, eqb-true}
use lib.Dec.{eqb}
use lib.ListN.{get_or}
use Rattle.network.specs.Lists.{sum, any, every, All}
use Rattle.network.specs.Plane.{Point, Run, distance}
use Rattle.network.specs.Grid.{Grid}
use Rattle.network.specs.Route.{Route, pieces, last_from, Starts, Ends, Listed, Vertex, Straight, Manhattan}
use Rattle.network.proofs.Tests.{and_split, and_join, or_split, or_join}
use Rattle.network.proofs.Lists.{any_true, true_any, member_index, index_member}
use Rattle.network.proofs.Corners.{point_true, true_point}
use Rattle.judge.specs.Judged.{starts_at, ends_at, is_vertex, is_straight, is_manhattan}

-- ---- a test of every element, and a property of all

pub every_all : {A : Type 0} (t : A → Bool) (P : A → Type 0) → ((a : A) → t a ≡ true → P a) → (l : List A) → every t l ≡ true → All P l
every_all t P f [] h = tt
every_all t P f (a ∷ l) h = let (b, c) = and_split (t a) (every t l) h in (f a b, every_all t P f l c)

pub all_every : {A : Type 0} (t : A → Bool) (P : A → Type 0) → ((a : A) → P a → t a ≡ true) → (l : List A) → All P l → every t l ≡ true
all_every t P f [] h = refl
all_every t P f (a ∷ l) h = and_join (t a) (every t l) (f a h.0) (all_every t P f l h.1)

-- ---- the parts of the test

starts_true : (route : Route) (q : Point) → starts_at route q ≡ true → Starts route q
starts_true [] q h = absurd (false≢true h)
starts_true (p ∷ l) q h = point_true p q h

true_starts : (route : Route) (q : Point) → Starts route q → starts_at route q ≡ true
true_starts [] q h = absurd h
true_starts (p ∷ l) q h = true_point p q h

ends_true : (route : Route) (q : Point) → ends_at route q ≡ true → Ends route q
ends_true [] q h = absurd (false≢true h)
ends_true (p ∷ l) q h = point_true (last_from p l) q h

true_ends : (route : Route) (q : Point) → Ends route q → ends_at route q ≡ true
true_ends [] q h = absurd h
true_ends (p ∷ l) q h = true_point (last_from p l) q h

listed_true : (l : List ℕ) (v : ℕ) → any (λ a. eqb a v) l ≡ true → Listed l v
listed_true l v h =
    let (a, m, t) = any_true (λ a. eqb a v) l h in
    let (i, k, e) = member_index 0 m in
    (i, k, e ∙ eqb-true a v t)

true_listed : (l : List ℕ) (v : ℕ) → Listed l v → any (λ a. eqb a v) l ≡ true
true_listed l v (i, k, e) = true_any (λ a. eqb a v) {a = get_or l i 0} {l = l} (index_member 0 l i k) (eq-eqb (get_or l i 0) v e)

pub vertex_true : (g : Grid) (p : Point) → is_vertex g p ≡ true → Vertex g p
vertex_true g p h =
    let (a, b) = and_split (any (λ x. eqb x p.x) g.columns) (any (λ y. eqb y p.y) g.rows) h in
    record { column = listed_true g.columns p.x a; row = listed_true g.rows p.y b }

pub true_vertex : (g : Grid) (p : Point) → Vertex g p → is_vertex g p ≡ true
true_vertex g p v =
    and_join (any (λ x. eqb x p.x) g.columns) (any (λ y. eqb y p.y) g.rows) (true_listed g.columns p.x v.column) (true_listed g.rows p.y v.row)

straight_true : (r : Run) → is_straight r ≡ true → Straight r
straight_true r h = go (or_split (eqb r.first.x r.second.x) (eqb r.first.y r.second.y) h)
  where
    go : (eqb r.first.x r.second.x ≡ true) ⊎ (eqb r.first.y r.second.y ≡ true) → Straight r
    go (inl e) = inl (eqb-true r.first.x r.second.x e)
    go (inr e) = inr (eqb-true r.first.y r.second.y e)

pub true_straight : (r : Run) → Straight r → is_straight r ≡ true
true_straight r h = or_join (eqb r.first.x r.second.x) (eqb r.first.y r.second.y) (go h)
  where
    go : Straight r → (eqb r.first.x r.second.x ≡ true) ⊎ (eqb r.first.y r.second.y ≡ true)
    go (inl e) = inl (eq-eqb r.first.x r.second.x e)
    go (inr e) = inr (eq-eqb r.first.y r.second.y e)

-- ---- the whole test

module _ (g : Grid) (run : Run) (route : Route) where
  abbrev s : Bool
  s = starts_at route run.first

  abbrev e : Bool
  e = ends_at route run.second

  abbrev v : Bool
  v = every (is_vertex g) route

  abbrev t : Bool
  t = every is_straight (pieces route)

  abbrev d : Bool
  d = eqb (sum distance (pieces route)) (distance run)

  pub manhattan_true : is_manhattan g run route ≡ true → Manhattan g run route
  unfolding is_manhattan
  manhattan_true h =
      let (a, h1) = and_split s (e && (v && (t && d))) h in
      let (b, h2) = and_split e (v && (t && d)) h1 in
      let (c, h3) = and_split v (t && d) h2 in
      let (f, k) = and_split t d h3 in
      record {
        starts = starts_true route run.first a;
        ends = ends_true route run.second b;
        vertices = every_all (is_vertex g) (Vertex g) (vertex_true g) route c;
        straight = every_all is_straight Straight straight_true (pieces route) f;
        shortest = eqb-true (sum distance (pieces route)) (distance run) k;
      }

  pub true_manhattan : Manhattan g run route → is_manhattan g run route ≡ true
  unfolding is_manhattan
  true_manhattan m =
      and_join s (e && (v && (t && d))) (true_starts route run.first m.starts)
      (and_join e (v && (t && d)) (true_ends route run.second m.ends)
      (and_join v (t && d) (all_every (is_vertex g) (Vertex g) (true_vertex g) route m.vertices)
      (and_join t d (all_every is_straight Straight true_straight (pieces route) m.straight) (eq-eqb (sum distance (pieces route)) (distance run) m.shortest))))
