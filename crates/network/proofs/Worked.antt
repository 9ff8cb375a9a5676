-- Small jobs worked out by hand: the definitions compute to the figures of document 01 (Surveyed examples; Traps for the pencil).
use mathlib.Core.Path.{◌≡◌, refl}
use mathlib.Core.List.Memᴰ.{head as here}
use mathlib.Core.List.Memᴰ.{tail as there}
use mathlib.Core.List.{List, [], ◌∷◌, flatten, flat_map}
use mathlib.Core.Bool.{false}
use Prim.Native.Nat.{ℕ, ◌≤◌}
use native.Mathlib.Omega.{arith}
use Rattle.network.specs.Lists.{unique}
use Rattle.network.specs.Plane.{Point, Run, ◌to◌, gap, distance, same_point}
use Rattle.network.specs.Grid.{len, edges, spans, inside}
use Rattle.network.specs.Hanan.{hanan}
use Rattle.network.specs.Distinct.{insert}
use Rattle.network.specs.Route.{Route, level, lies, Manhattan, Routes, union_length, Least}
use Rattle.network.specs.Graph.{overlap, meets, below, degree, is_centre, centres}
use Rattle.network.specs.Excess.{excess}
use Rattle.network.specs.Corners.{straight_on, corners}
use Rattle.network.specs.Pits.{amid, passes_row, passes_column, crossing, crossings, pit_points, pits_of}
use Rattle.network.specs.Slopes.{flipped, slopes}
use Rattle.network.specs.Boxes.{within}
use Rattle.network.specs.Sharable.{Sharable}
use Rattle.network.proofs.Counting.{least_of_most}
use Rattle.network.proofs.Making.{bent, bent_manhattan}
use Rattle.network.proofs.Turned.{turned_manhattan}
use Rattle.network.proofs.Hanan.{hanan_placed}
use Rattle.network.proofs.Sharable.{shared_excess, sharable_opposite}

abbrev at : ℕ → ℕ → Point
at a b = record { x = a; y = b }

abbrev run : ℕ → ℕ → ℕ → ℕ → Run
run a b c d = at a b to at c d

-- ---- a union, an excess, corners

-- (0,0)-(5,3); (0,0)-(2,3) on columns 0, 2, 5 and rows 0, 3; the first route has all its vertices listed, the second its turns
abbrev two : List Run
two = run 0 0 5 3 ∷ run 0 0 2 3 ∷ []

abbrev right_then_up : Route
right_then_up = at 0 0 ∷ at 2 0 ∷ at 5 0 ∷ at 5 3 ∷ []

abbrev up_at_two : Route
up_at_two = at 0 0 ∷ at 2 0 ∷ at 2 3 ∷ []

the_columns : (hanan two).columns ≡ 0 ∷ 2 ∷ 5 ∷ []
unfolding insert
the_columns = refl

-- 2 + 3 along the bottom, 3 at the right, 3 in the middle
two_union : union_length (hanan two) (right_then_up ∷ up_at_two ∷ []) ≡ 11
unfolding union_length edges insert lies level spans len
two_union = refl

-- both are on the edge from (0,0) to (2,0)
two_excess : excess (hanan two) (right_then_up ∷ up_at_two ∷ []) ≡ 2
unfolding excess edges insert lies level spans len
two_excess = refl

two_corners : corners right_then_up ≡ at 0 0 ∷ at 5 0 ∷ at 5 3 ∷ []
unfolding same_point straight_on
two_corners = refl

-- ---- pits

-- along the row 2 and along the column 3
abbrev row_two : Route
row_two = at 0 2 ∷ at 6 2 ∷ []

abbrev column_three : Route
column_three = at 3 5 ∷ at 3 0 ∷ []

-- they cross at (3,2): four ends and one crossing
crossed_pits : pits_of (row_two ∷ column_three ∷ []) ≡ 5
unfolding pits_of pit_points crossings crossing passes_row passes_column amid level unique flatten flat_map same_point
crossed_pits = refl

-- three routes through one vertex: six ends, and the crossing counts once
thrice_pits : pits_of (row_two ∷ column_three ∷ (at 3 1 ∷ at 3 6 ∷ []) ∷ []) ≡ 7
unfolding pits_of pit_points crossings crossing passes_row passes_column amid level unique flatten flat_map same_point
thrice_pits = refl

-- a third route ends there, or turns there: it is that end or turn, and no more
ended_pits : pits_of (row_two ∷ column_three ∷ (at 3 2 ∷ at 5 2 ∷ []) ∷ []) ≡ 6
unfolding pits_of pit_points crossings crossing passes_row passes_column amid level unique flatten flat_map same_point
ended_pits = refl

turned_pits : pits_of (row_two ∷ column_three ∷ (at 3 1 ∷ at 3 2 ∷ at 5 2 ∷ []) ∷ []) ≡ 7
unfolding pits_of pit_points crossings crossing passes_row passes_column amid level unique flatten flat_map same_point
turned_pits = refl

-- two routes along one row do not cross, nor does one that ends on the other
same_row_pits : pits_of (row_two ∷ (at 2 2 ∷ at 5 2 ∷ []) ∷ []) ≡ 4
unfolding pits_of pit_points crossings crossing passes_row passes_column amid level unique flatten flat_map same_point
same_row_pits = refl

touching_pits : pits_of (row_two ∷ (at 3 2 ∷ at 3 5 ∷ []) ∷ []) ≡ 4
unfolding pits_of pit_points crossings crossing passes_row passes_column amid level unique flatten flat_map same_point
touching_pits = refl

-- ---- a route that is Manhattan, and one that is not

is_manhattan_lem : Manhattan (hanan two) (run 0 0 2 3) up_at_two
is_manhattan_lem =
    let p = hanan_placed two {r = run 0 0 2 3} (there (here refl)) in
    bent_manhattan (hanan two) (at 0 0) (at 2 3) p.first_vertex p.second_vertex

-- 11 long, between points at a distance of 5
no_detour : Manhattan (hanan two) (run 0 0 2 3) (at 0 0 ∷ at 5 0 ∷ at 5 3 ∷ at 2 3 ∷ []) → ⊥
unfolding distance gap
no_detour m = omega (arith, m.shortest)

-- ---- first trap: sharing both directions with a leaf of the other slope

-- (0,0)-(4,3); (0,3)-(4,0)
abbrev opposite : List Run
opposite = run 0 0 4 3 ∷ run 0 3 4 0 ∷ []

-- both routes go through the corner (4,0), and share the bottom row
abbrev opposite_routes : List Route
opposite_routes = (at 0 0 ∷ at 4 0 ∷ at 4 3 ∷ []) ∷ (at 0 3 ∷ at 0 0 ∷ at 4 0 ∷ []) ∷ []

opposite_trench : union_length (hanan opposite) opposite_routes ≡ 10
unfolding union_length edges insert lies level spans len
opposite_trench = refl

opposite_saved : excess (hanan opposite) opposite_routes ≡ 4
unfolding excess edges insert lies level spans len
opposite_saved = refl

-- no routes save more, as the trap has it (7)
opposite_sharable : Sharable (hanan opposite) (run 0 0 4 3) (run 0 3 4 0) 4
unfolding gap slopes within spans
opposite_sharable =
    let p = hanan_placed opposite {r = run 0 0 4 3} (here refl) in
    let q = hanan_placed opposite {r = run 0 3 4 0} (there (here refl)) in
    sharable_opposite (hanan opposite) flipped (run 0 0 4 3) (at 0 3) (at 4 0) p q.first_vertex q.second_vertex refl refl refl refl

opposite_most : (others : List Route) → Routes (hanan opposite) opposite others → excess (hanan opposite) others ≤ 4
opposite_most [] m = absurd m
opposite_most (a ∷ []) m = absurd m.1
opposite_most (a ∷ b ∷ []) m = omega (arith, shared_excess (hanan opposite) a b, opposite_sharable.most a b m.0 m.1.0)
opposite_most (a ∷ b ∷ c ∷ l) m = absurd m.1.1

opposite_least : Least (hanan opposite) opposite opposite_routes
opposite_least =
    let p = hanan_placed opposite {r = run 0 0 4 3} (here refl) in
    let q = hanan_placed opposite {r = run 0 3 4 0} (there (here refl)) in
    least_of_most (hanan opposite) opposite opposite_routes (
      bent_manhattan (hanan opposite) (at 0 0) (at 4 3) p.first_vertex p.second_vertex,
      (turned_manhattan (hanan opposite) (run 4 0 0 3) (bent (at 4 0) (at 0 3)) (bent_manhattan (hanan opposite) (at 4 0) (at 0 3) q.second_vertex q.first_vertex), tt),
    )
    (λ others m. omega (arith, opposite_saved, opposite_most others m))

-- ---- second trap: fixing the centre leaf by leaf, in job order

-- (0,0)-(4,4); (0,2)-(0,4); (1,0)-(4,0): through (0,4) the centre shares 2 with the second run, through (4,0) 3 with the third
abbrev ordered : List Run
ordered = run 0 0 4 4 ∷ run 0 2 0 4 ∷ run 1 0 4 0 ∷ []

ordered_first : excess (hanan ordered) ((at 0 0 ∷ at 0 4 ∷ at 4 4 ∷ []) ∷ (at 0 2 ∷ at 0 4 ∷ []) ∷ (at 1 0 ∷ at 4 0 ∷ []) ∷ []) ≡ 2
unfolding excess edges insert lies level spans len
ordered_first = refl

ordered_better : union_length (hanan ordered) ((at 0 0 ∷ at 4 0 ∷ at 4 4 ∷ []) ∷ (at 0 2 ∷ at 0 4 ∷ []) ∷ (at 1 0 ∷ at 4 0 ∷ []) ∷ []) ≡ 10
unfolding union_length edges insert lies level spans len
ordered_better = refl

-- ---- third trap: two leaves of the other slope whose boxes touch

-- (0,0)-(6,6); (0,2)-(4,0); (4,6)-(6,2): the boxes of the leaves have the point (4,2) in common
abbrev touching : List Run
touching = run 0 0 6 6 ∷ run 0 2 4 0 ∷ run 4 6 6 2 ∷ []

leaves_do_not_meet : meets (hanan touching) touching 1 2 ≡ false
unfolding meets overlap edges insert inside spans
leaves_do_not_meet = refl

-- the centre shares a row with one leaf and a column with the other: 8 are saved, and not 6
touching_saved : excess (hanan touching) ((at 0 0 ∷ at 4 0 ∷ at 4 6 ∷ at 6 6 ∷ []) ∷ (at 0 2 ∷ at 0 0 ∷ at 4 0 ∷ []) ∷ (at 4 6 ∷ at 4 2 ∷ at 6 2 ∷ []) ∷ []) ≡ 8
unfolding excess edges insert lies level spans len
touching_saved = refl

touching_trench : union_length (hanan touching) ((at 0 0 ∷ at 4 0 ∷ at 4 6 ∷ at 6 6 ∷ []) ∷ (at 0 2 ∷ at 0 0 ∷ at 4 0 ∷ []) ∷ (at 4 6 ∷ at 4 2 ∷ at 6 2 ∷ []) ∷ []) ≡ 16
unfolding union_length edges insert lies level spans len
touching_trench = refl

-- ---- meeting and stars

-- the centres of a whole job, by the indexes of its runs
abbrev job_centres : List Run → ℕ → List ℕ
job_centres runs n = centres (meets (hanan runs) runs) (below n)

touching_centre : job_centres touching 3 ≡ 0 ∷ []
unfolding centres is_centre meets overlap edges insert inside spans
touching_centre = refl

-- the centre meets both leaves
touching_meets : degree (meets (hanan touching) touching) (below 3) 0 ≡ 2
unfolding degree meets overlap edges insert inside spans
touching_meets = refl

-- fourth trap: a common corner is no meeting
corner : job_centres (run 0 0 3 3 ∷ run 3 3 5 5 ∷ []) 2 ≡ []
unfolding centres is_centre meets overlap edges insert inside spans
corner = refl

-- nor is a crossing of two lines
cross : job_centres (run 0 2 4 2 ∷ run 2 0 2 4 ∷ []) 2 ≡ []
unfolding centres is_centre meets overlap edges insert inside spans
cross = refl

-- three equal runs are no star; of two, each is a centre, and the first is the lower
three_equal : job_centres (run 0 0 3 4 ∷ run 0 0 3 4 ∷ run 0 0 3 4 ∷ []) 3 ≡ []
unfolding centres is_centre meets overlap edges insert inside spans
three_equal = refl

two_equal : job_centres (run 0 0 3 4 ∷ run 0 0 3 4 ∷ []) 2 ≡ 0 ∷ 1 ∷ []
unfolding centres is_centre meets overlap edges insert inside spans
two_equal = refl

-- (0,0)-(3,0); (2,0)-(5,0): straight runs that overlap
line_trench : union_length (hanan (run 0 0 3 0 ∷ run 2 0 5 0 ∷ [])) ((at 0 0 ∷ at 3 0 ∷ []) ∷ (at 2 0 ∷ at 5 0 ∷ []) ∷ []) ≡ 5
unfolding union_length edges insert lies level spans len
line_trench = refl

line_centres : job_centres (run 0 0 3 0 ∷ run 2 0 5 0 ∷ []) 2 ≡ 0 ∷ 1 ∷ []
unfolding centres is_centre meets overlap edges insert inside spans
line_centres = refl
