-- The test of a route in the order in which the code makes it: first its ends, coordinate by coordinate, and its length, then whether its corners are vertices.
use mathlib.Core.Path.{◌≡◌, refl, sym, ap, ap₂, ◌∙◌}
use mathlib.Core.Bool.{Bool, true, false, not, ◌&&◌, ◌||◌, and_comm}
use mathlib.Core.List.{List, [], ◌∷◌}
use Rattle.std.specs.Prelude.{Some, None}
use Prim.Native.Nat.{ℕ, suc, ◌+◌, ◌*◌, ◌-◌, ◌<◌}
use native.Mathlib.Omega.{arith}
use lib.Dec.{eqb}
use lib.ListN.{length, get_or}
use Rattle.network.specs.Lists.{sum, every}
use Rattle.network.specs.Plane.{Point, Run, distance, ◌to◌, same_point}
use Rattle.network.specs.Grid.{Grid, Rising}
use Rattle.network.specs.Route.{Route, pieces, pieces_from, Listed, Vertex, Straight}
use Rattle.network.specs.Graph.{origin}
use Rattle.network.specs.Steps.{vertex}
use Rattle.network.proofs.Tests.{and_split, and_join}
use Rattle.network.proofs.Lanes.{point_path}
use Rattle.network.proofs.Corners.{point_true}
use Rattle.measure.specs.Marks.{Finds, found, nowhere, Ruled}
use Rattle.book.specs.declared.Corner.{Corner}
use Rattle.judge.specs.Judged.{starts_at, ends_at, is_vertex, is_straight, is_manhattan}
use Rattle.judge.specs.Steps.{corner_there, Drawn, ends_right}
use Rattle.judge.proofs.Tests.{true_straight}
use Rattle.judge.proofs.Pieces.{last_corner, corner_read}

-- the test of the first corner
starts_corner : (route : Route) (q : Point) → 0 < length route → starts_at route q ≡ same_point (get_or route 0 origin) q
starts_corner [] q h = absurd (omega arith)
starts_corner (p ∷ route) q h = refl

-- and of the last
ends_corner : (route : Route) (q : Point) → 0 < length route → ends_at route q ≡ same_point (get_or route (length route - 1) origin) q
ends_corner [] q h = absurd (omega arith)
ends_corner (p ∷ route) q h =
    let e : length route ≡ length (p ∷ route) - 1 = omega arith in
    ap (λ r. same_point r q) (last_corner p route ∙ ap (λ k. get_or (p ∷ route) k origin) e)

-- some coordinate differs
abbrev pub differ : (c d : Corner) → Run → Bool
differ c d run = not (eqb c.x run.first.x) || not (eqb c.y run.first.y) || not (eqb d.x run.second.x) || not (eqb d.y run.second.y)

-- four tests, or one that fails
four_tests : (a b c d t : Bool) → ((a && b) && ((c && d) && t)) ≡ (not (not a || not b || not c || not d) && t)
four_tests true true true true t = refl
four_tests true true true false t = refl
four_tests true true false d t = refl
four_tests true false c d t = refl
four_tests false b c d t = refl

-- the test of a route by its first corner and its last, as they stand in a book
pub ends_read : (book : List ℕ) (at n : ℕ) (run : Run) (route : Route) → Drawn book at route → n ≡ length route
    → (c d : Corner) → c ≡ corner_there book (at + 9 * 0) → d ≡ corner_there book (at + 9 * (n - 1))
    → ends_right run route ≡ (not (differ c d run) && eqb (sum distance (pieces route)) (distance run))
unfolding ends_right same_point
ends_read book at n run route w e c d a b =
    let t = eqb (sum distance (pieces route)) (distance run) in
    let p = corner_read book at route w 0 w.some c a in
    let q = corner_read book at route w (length route - 1) (omega (arith, w.some)) d (b ∙ ap (λ k. corner_there book (at + 9 * (k - 1))) e) in
    ap₂ (λ s e. s && (e && t))
    (starts_corner route run.first w.some ∙ ap (λ r. same_point r run.first) (sym p.0))
    (ends_corner route run.second w.some ∙ ap (λ r. same_point r run.second) (sym q.0))
    ∙ four_tests (eqb c.x run.first.x) (eqb c.y run.first.y) (eqb d.x run.second.x) (eqb d.y run.second.y) t

-- ---- the whole test

-- the corners of a route that was read go straight from each to the next
all_straight : (route : Route) → ((j : ℕ) → suc j < length route → Straight (get_or route j origin to get_or route (suc j) origin)) → every is_straight (pieces route) ≡ true
all_straight [] h = refl
all_straight (p ∷ l) h = go p l h
  where
    go : (p : Point) (l : List Point) → ((j : ℕ) → suc j < length (p ∷ l) → Straight (get_or (p ∷ l) j origin to get_or (p ∷ l) (suc j) origin))
        → every is_straight (pieces_from p l) ≡ true
    go p [] h = refl
    go p (q ∷ l) h = and_join (is_straight (p to q)) (every is_straight (pieces_from q l)) (true_straight (p to q) (h 0 (omega arith))) (go q l (λ j k. h (suc j) (omega arith)))

-- the tests in another order
in_order : (s e v d : Bool) → (s && (e && (v && d))) ≡ ((s && (e && d)) && v)
in_order true true v d = and_comm v d
in_order true false v d = refl
in_order false e v d = refl

-- so it is a Manhattan path of the run exactly if its ends are right and its corners vertices
pub manhattan_is : (g : Grid) (run : Run) (book : List ℕ) (at : ℕ) (route : Route) → Drawn book at route
    → is_manhattan g run route ≡ (ends_right run route && every (is_vertex g) route)
unfolding is_manhattan ends_right
manhattan_is g run book at route w =
    let s = starts_at route run.first in
    let e = ends_at route run.second in
    let v = every (is_vertex g) route in
    let d = eqb (sum distance (pieces route)) (distance run) in
    ap (λ t. s && (e && (v && (t && d)))) (all_straight route w.straight) ∙ in_order s e v d

-- and then its first corner is the run's first point
pub ends_first : (run : Run) (route : Route) → 0 < length route → ends_right run route ≡ true → get_or route 0 origin ≡ run.first
unfolding ends_right
ends_first run route h t =
    let (a, b) = and_split (starts_at route run.first) (ends_at route run.second && eqb (sum distance (pieces route)) (distance run)) t in
    point_true (get_or route 0 origin) run.first (sym (starts_corner route run.first h) ∙ a)

-- ---- where it starts

-- a line of the grid is found in its table
found_listed : (l table : List ℕ) (n v r : ℕ) → ((i : ℕ) → i < length l → get_or table i 0 ≡ get_or l i 0) → n ≡ length l → Finds table n v (Some r)
    → (r < n) × (get_or l r 0 ≡ v)
found_listed l table n v r same e (found i h f) = (h, sym (same i (omega arith)) ∙ f)

never_listed : (l table : List ℕ) (n v : ℕ) → Rising l → ((i : ℕ) → i < length l → get_or table i 0 ≡ get_or l i 0) → n ≡ length l → Listed l v → Finds table n v None → ⊥
never_listed l table n v rises same e (i, h, f) (nowhere o) =
    o (λ j k. omega (arith, same j (omega arith), same (suc j) (omega arith), rises j (omega arith))) i (omega arith) (same i h ∙ f)

module _ {columns rows : List ℕ} {across down : ℕ} (g : Grid) (p : Point) (h : Ruled g columns across rows down) where
  -- so is the vertex of a point
  pub found_vertex : (i j : ℕ) → Finds columns across p.x (Some i) → Finds rows down p.y (Some j) → (i < across) × (j < down) × (vertex g i j ≡ p)
  found_vertex i j f k =
      let (a, x) = found_listed g.columns columns across p.x i h.tables.column_at h.across_is f in
      let (b, y) = found_listed g.rows rows down p.y j h.tables.row_at h.down_is k in
      (a, b, point_path x y)

  -- which has both its lines
  pub column_there : Vertex g p → Finds columns across p.x None → ⊥
  column_there v = never_listed g.columns columns across p.x g.columns_rise h.tables.column_at h.across_is v.column

  pub row_there : Vertex g p → Finds rows down p.y None → ⊥
  row_there v = never_listed g.rows rows down p.y g.rows_rise h.tables.row_at h.down_is v.row
