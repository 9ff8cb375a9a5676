-- A route is laid: the code's numbers are those of `via`, so the steps that it writes are `via`'s. There are at most 126 of them, since they lead from one
-- line to another of at most 64 on each axis.
use mathlib.Core.Path.{◌≡◌, refl, sym, ap, ap₂, ◌∙◌}
use mathlib.Core.Bool.{Bool, true, false}
use mathlib.Core.List.{List, [], ◌∷◌, map}
use Prim.Native.Nat.{ℕ, suc, ◌+◌, ◌-◌, ◌≤◌, ◌<◌}
use native.Mathlib.Nat.{le_of_suc-le-suc}
use native.Mathlib.Omega.{arith}
use borrow.Author.Tests.{eq-eqb, ne_eqb}
use lib.ListN.{length, length-map, get_or, take, drop, length-take}
use Rattle.std.proofs.lemmas.List.{length-drop, drop-take}
use lib.Seq.{slice, slice-cons, take-take}
use Rattle.network.specs.Plane.{gap}
use Rattle.network.specs.Steps.{Dir, hor, ver, steps}
use Rattle.sharing.specs.Trace.{Move}
use Rattle.sharing.specs.Walk.{dirs, moved}
use Rattle.sharing.specs.Leaf.{before, stretch, turn_if, via}
use Rattle.sharing.specs.View.{index}
use Rattle.table.specs.declared.trace.Trace.{Trace}
use Rattle.table.specs.Walk.{moves_of}
use Rattle.table.proofs.Lines.{gap_lt}
use Rattle.route.specs.Route.{dir_of, steps_of}
use Rattle.network.proofs.StepCounts.{steps_all}
use Rattle.layout.specs.declared.Points.{Points}
use Rattle.layout.specs.declared.Stretch.{Stretch}
use Rattle.layout.specs.declared.Way.{Way}
use Rattle.layout.specs.Points.{OnLines, goes_back, number_of, ends, box64}
use Rattle.layout.specs.Stretch.{Found}
use Rattle.layout.specs.Way.{way_of, passes_forth, leg_of, way_steps}
use Rattle.layout.specs.Laid.{Longer, steps_by, Layable, Stretched, Laid}
use Rattle.layout.proofs.Finding.{moves_length}
use Rattle.layout.proofs.Growing.{longer_more}
use Rattle.layout.proofs.Parts.{dirs_moves, stretch_fits, stretch_part, stretch_high, before_high, across_few}
use Rattle.layout.proofs.Ways.{via_ways, way_forth, ways_length}

-- two lines are as far apart by number as by index
gap_index : (f : Bool) (p q : ℕ) → p < 64 → q < 64 → gap (index f 64 p) (index f 64 q) ≡ gap p q
unfolding gap
gap_index false p q h k = refl
gap_index true p q h k = omega arith

-- ---- the steps of any run

module _ (a e : Points) (c : ℕ) (M : List Move) (k : ℕ) (S : Layable a e c M k) where
  -- its steps
  abbrev pub steps_in : List Dir
  steps_in = steps_by (box64 a a) (box64 a e) c M k

  -- its points lie on lines of both axes
  on_lines : (d : Dir) → OnLines (ends e d)
  on_lines hor = S.in_columns
  on_lines ver = S.in_rows

  -- they lead as far as its points are apart
  pub leads_apart : (d : Dir) → steps d steps_in ≡ gap (ends e d).first (ends e d).second
  leads_apart d = S.leads d ∙ gap_index (goes_back (ends a d)) _ _ (on_lines d).0 (on_lines d).1

  -- how many steps lead from one point to the other
  abbrev pub apart : ℕ
  apart = gap e.x.first e.x.second + gap e.y.first e.y.second

  -- so many are they
  pub steps_count : length steps_in ≡ apart
  steps_count = omega (arith, steps_all steps_in, leads_apart hor, leads_apart ver)

  -- and are few
  pub steps_few : length steps_in ≤ 126
  steps_few =
      let few : (d : Dir) → gap (ends e d).first (ends e d).second ≤ 63
      = λ d. le_of_suc-le-suc (gap_lt 64 _ _ (on_lines d).0 (on_lines d).1) in
      omega (arith, steps_count, few hor, few ver)

  -- the run is laid by them
  pub laid_grown : (n : ℕ) (l : List Dir) (old new : List ℕ) (next : ℕ) → Longer old 0 n l new next → n ≡ apart → apart ≤ length old → l ≡ steps_in → Laid a e c M k new
  unfolding steps_of
  laid_grown n l old new next p h room q =
      let count : apart ≡ next = omega (arith, p.more) in
      record {
        held = omega (arith, p.same_size);
        goes = ap (λ m. map dir_of (take m new)) count ∙ p.goes ∙ q;
      }

-- a run that is laid by the first n of some steps is laid by them all
pub laid_more : (a e : Points) (c : ℕ) (M : List Move) (k n : ℕ) (l : List ℕ) → Laid a e c M k (take n l) → Laid a e c M k l
unfolding steps_of
laid_more a e c M k n l p =
    let few = length-take n l in
    let m = gap e.x.first e.x.second + gap e.y.first e.y.second in
    record { held = omega (arith, p.held, few); goes = ap (map dir_of) (sym (take-take m n l (omega (arith, p.held, few)))) ∙ p.goes }

-- ---- the centre

module _ (a : Points) (c : ℕ) (moves : Trace) (S : Layable a a c (moves_of moves) c) where
  -- its moves are few
  pub centre_few : moves.count ≤ 126
  centre_few =
      let few : length (dirs (moves_of moves)) ≤ 126 = rw (eq-eqb c c refl) at (steps_few a a c (moves_of moves) c S) in
      omega (arith, length-map (moves_of moves) (λ (x : Move). x.dir), moves_length moves.steps moves.shares moves.count)

  module _ (e : Points) (k : ℕ) (l : Layable a e c (moves_of moves) k) (h : k ≡ c) where
    -- they are as many as lead from one point to the other
    pub centre_count : moves.count ≡ apart a e c (moves_of moves) k l
    centre_count =
        let count : length (dirs (moves_of moves)) ≡ apart a e c (moves_of moves) k l = rw (eq-eqb k c h) at (steps_count a e c (moves_of moves) k l) in
        omega (arith, count, length-map (moves_of moves) (λ (x : Move). x.dir), moves_length moves.steps moves.shares moves.count)

    -- its steps are its moves
    pub laid_centre : length moves.steps ≡ 128 → (old new : List ℕ) (next : ℕ) → apart a e c (moves_of moves) k l ≤ length old
        → Longer old 0 (length (take moves.count moves.steps)) (map dir_of (take moves.count moves.steps)) new next → Laid a e c (moves_of moves) k new
    laid_centre full old new next room p =
        laid_grown a e c (moves_of moves) k l _ _ old new next p (omega (arith, centre_count, centre_few, length-take moves.count moves.steps)) room
        (rw (eq-eqb k c h) (sym (dirs_moves moves.steps moves.shares moves.count (omega (arith, centre_few)))))

-- ---- a leaf that shares nothing

-- a list of no length
no_moves : (l : List Move) → length l ≡ 0 → l ≡ []
no_moves [] e = refl
no_moves (x ∷ l) e = absurd (omega arith)

-- its steps are one leg
pub laid_plain : (a e : Points) (c : ℕ) (M : List Move) (k : ℕ) (s : Stretch) (S : Layable a e c M k) → (k ≡ c → ⊥) → Found k M s → s.size ≡ 0 → (i j : ℕ)
    → i ≡ gap e.x.first e.x.second → j ≡ gap e.y.first e.y.second → (old new : List ℕ) (next : ℕ) → apart a e c M k S ≤ length old
    → Longer old 0 (i + j) (leg_of i j) new next → Laid a e c M k new
unfolding via
laid_plain a e c M k s S other found none i j ei ej old new next room p =
    let far : (d : Dir) → gap (ends e d).first (ends e d).second ≡ gap ((box64 a e).first d) ((box64 a e).second d)
    = λ d. sym (leads_apart a e c M k S d) ∙ S.leads d in
    let q : leg_of i j ≡ steps_in a e c M k S
    = ap₂ leg_of (ei ∙ far hor) (ej ∙ far ver) ∙ rw (ne_eqb k c other, no_moves (stretch k M) (sym found.size_is ∙ none)) in
    laid_grown a e c M k S (i + j) (leg_of i j) old new next p (ap₂ ◌+◌ ei ej) room q

-- ---- a leaf that shares

module _ (a e : Points) (c : ℕ) (moves : Trace) (k : ℕ) (s : Stretch) (full : length moves.steps ≡ 128) (h : Stretched a e c (moves_of moves) k s) where
  -- its ways, and its stretch
  abbrev pub way_across : Way
  way_across = way_of (number_of a.x e.x.first) (number_of a.x e.x.second) (number_of a.x a.x.first + s.across) s.wide

  abbrev pub way_up : Way
  way_up = way_of (number_of a.y e.y.first) (number_of a.y e.y.second) (number_of a.y a.y.first + (s.from - s.across)) (s.size - s.wide)

  abbrev pub part : List Dir
  part = map dir_of (slice s.from (s.from + s.size) moves.steps)

  -- the centre's moves are in the table
  count_fits : moves.count ≤ length moves.steps
  count_fits = omega (arith, centre_few a c moves h.ready.centre_layable)

  -- its steps by its ways
  pub leaf_steps_lem : steps_by (box64 a a) (box64 a e) c (moves_of moves) k
      ≡ way_steps way_across way_up (passes_forth (get_or moves.steps s.from 0) way_across.forward way_up.forward) part
  leaf_steps_lem =
      let M = moves_of moves in
      let b = box64 a e in
      let near : Dir → ℕ = λ d. (box64 a a).first d + moved d (before k M) in
      let v = get_or moves.steps s.from 0 in
      let t = h.ready.layable.together h.other in
      let upto = s.from + s.size in
      let fits : upto ≤ length moves.steps = omega (arith, count_fits, stretch_fits moves k s count_fits t h.ready.found h.some) in
      let is-part : dirs (stretch k M) ≡ part = stretch_part moves k s count_fits t h.ready.found h.some in
      let begins : part ≡ dir_of v ∷ map dir_of (slice (suc s.from) upto moves.steps)
      = ap (map dir_of) (slice-cons s.from upto moves.steps 0 (omega (arith, h.some)) fits) in
      let steps_are : steps_by (box64 a a) b c M k ≡ via b near (dirs (stretch k M)) = rw (ne_eqb k c h.other) in
      let across = sym (h.ready.found.across_is h.some) in
      let wide = sym h.ready.found.wide_is in
      let up = before_high moves k s count_fits t h.ready.found h.some in
      let high = stretch_high moves k s count_fits t h.ready.found h.some in
      steps_are ∙ via_ways b near (dir_of v) (map dir_of (slice (suc s.from) upto moves.steps)) (dirs (stretch k M)) (is-part ∙ begins)
      ∙ λ i. way_steps
      (way_of (b.first hor) (b.second hor) (number_of a.x a.x.first + across i) (wide i))
      (way_of (b.first ver) (b.second ver) (number_of a.y a.y.first + up i) (high i))
      (way_forth b v i)
      (is-part i)

  -- the numbers that the code computes
  pub leaf_few : (s.across ≤ s.from) × (s.wide ≤ s.size) × (s.from + s.size ≤ 126)
  leaf_few =
      let t = h.ready.layable.together h.other in
      let (i, j) = across_few moves k s count_fits t h.ready.found h.some in
      (i, j, omega (arith, stretch_fits moves k s count_fits t h.ready.found h.some, centre_few a c moves h.ready.centre_layable))

  -- the steps of its stretch, as the code lends them
  abbrev pub walked : List ℕ
  walked = take (s.from + s.size - s.from) (drop s.from moves.steps)

  walked_is : walked ≡ slice s.from (s.from + s.size) moves.steps
  walked_is = let e : s.from + s.size - s.from ≡ s.size = omega arith in rw e (sym (drop-take s.from s.size moves.steps))

  pub walked_length : length walked ≡ s.size
  walked_length =
      omega (arith, full, leaf_few, length-take (s.from + s.size - s.from) (drop s.from moves.steps), length-drop s.from moves.steps)

  walked_first : get_or walked 0 0 ≡ get_or moves.steps s.from 0
  walked_first = ap (λ l. get_or l 0 0) (walked_is ∙ slice-cons s.from (s.from + s.size) moves.steps 0 (omega (arith, h.some)) (omega (arith, full, leaf_few)))

  module _ (x y : Way) (ex : x ≡ way_across) (ey : y ≡ way_up) where
    -- which way it passes the stretch, by the ways that the code has found
    abbrev pub forth_of : Bool
    forth_of = passes_forth (get_or moves.steps s.from 0) x.forward y.forward

    -- the steps by those ways are its steps
    found_steps : way_steps x y forth_of part ≡ steps_by (box64 a a) (box64 a e) c (moves_of moves) k
    found_steps =
        (λ i. way_steps (ex i) (ey i) (passes_forth (get_or moves.steps s.from 0) (ex i).forward (ey i).forward) part) ∙ sym leaf_steps_lem

    -- they are as many as lead from one point to the other
    pub leaf_count : x.before + y.before + s.size + (x.after + y.after) ≡ apart a e c (moves_of moves) k h.ready.layable
    leaf_count =
        let M = moves_of moves in
        let size : s.size ≡ length part
        = h.ready.found.size_is ∙ sym (length-map (stretch k M) (λ (x : Move). x.dir))
        ∙ ap length (stretch_part moves k s count_fits (h.ready.layable.together h.other) h.ready.found h.some) in
        omega (arith, ways_length x y forth_of part, ap length found_steps, steps_count a e c M k h.ready.layable)

    -- a leg, the stretch and a leg
    pub laid_leaf : (o p q r : List ℕ) (i j d : ℕ) → apart a e c (moves_of moves) k h.ready.layable ≤ length o
        → Longer o 0 (x.before + y.before) (leg_of x.before y.before) p i
        → Longer p i (length walked) (turn_if (passes_forth (get_or walked 0 0) x.forward y.forward) (map dir_of walked)) q j
        → Longer q j (x.after + y.after) (leg_of x.after y.after) r d → Laid a e c (moves_of moves) k r
    laid_leaf o p q r i j d room f g l =
        let turned = rw (walked_first, walked_is) at g in
        let all = longer_more o 0 _ _ q j _ _ r d (longer_more o 0 _ _ p i _ _ q j f turned) l in
        laid_grown a e c (moves_of moves) k h.ready.layable _ _ o r d all (omega (arith, leaf_count, ap length walked_is, walked_length)) room found_steps
