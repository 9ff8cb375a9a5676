-- The group of a centre and its leaves draws the star that `sharing` speaks of. An edge of the frame lies in a leaf's box exactly if the leaf is in the
-- edge's set; no two leaves meet, so the set has one member or none.
use mathlib.Core.Path.{◌≡◌, refl, sym, ap, ap₂, ◌∙◌}
use mathlib.Core.Logic.{◌⊎◌, inl, inr}
use mathlib.Core.Bool.{Bool, true, false, ◌&&◌, true≢false}
use mathlib.Core.List.{List}
use Prim.Native.Nat.{ℕ, zero, suc, ◌+◌, ◌-◌, ◌*◌, ◌^◌, ◌≤◌, ◌<◌}
use native.Mathlib.Omega.{arith}
use native.Mathlib.Nat.{lt_of_le_of_lt, eq-or-lt_of_le}
use lib.Bits.{bit_and, and_zero_r, and_le_l}
use lib.Count.{count_trailing_zeros, trailing_le}
use lib.Dec.{eqb, ltb}
use lib.ListN.{length}
use lib.Pow.{pow_pos, pow-lt}
use borrow.Author.Tests.{eq-eqb, ne_eqb}
use Rattle.network.specs.Plane.{Run, gap}
use Rattle.network.specs.Grid.{Grid}
use Rattle.network.specs.Graph.{meets}
use Rattle.network.specs.Steps.{Dir, hor, ver, other}
use Rattle.network.proofs.Tests.{and_split, outcome}
use Rattle.network.proofs.Meeting.{meets_listed}
use Rattle.sharing.specs.Box.{Box, lo, hi, passes, lies_in, falls}
use Rattle.sharing.specs.Instance.{Instance, owner_if, owner}
use Rattle.sharing.specs.Table.{arrival}
use Rattle.sharing.specs.View.{lines, View, numbered}
use Rattle.sharing.specs.Star.{star_of, Centred}
use Rattle.sharing.proofs.Owners.{Lies, EdgeIn, lies_in_lem, in_lies}
use Rattle.sharing.proofs.Centre.{lies_leaf, separate, leaf_owner_lem, no_owner}
use Rattle.intersection.specs.Sets.{has}
use Rattle.intersection.proofs.Digits.{has_and, has_power, has_pack, none_has, same_set, trailing_below, trailing_at}
use Rattle.grid.specs.Lines.{length_at}
use Rattle.table.specs.Side.{Side, Placed, covers, leaf_on, leaves_on}
use Rattle.table.specs.Frame.{Group, line_of, lower_of, frame_line, ahead, goes_down, crosses, Grouped}
use Rattle.table.specs.OnSides.{side_at, first_at, second_at, OnSides, view_by, box_by}
use Rattle.table.specs.Rule.{many, line_at, own_set, Fit}
use Rattle.table.proofs.Boxes.{leaves_lt}
use Rattle.table.proofs.Lines.{gap_lt, lower_lt}
use Rattle.table.proofs.Named.{Names, nobody, alike, unlike}
use Rattle.table.proofs.Axis.{axis_size, axis_lower, axis_covers, axis_ahead}
use Rattle.table.proofs.Drawn.{Drawn}

-- the set at a line of the frame
frame_on : (on len : ℕ → ℕ) (p q i : ℕ) → (frame_line on len p q i).on ≡ on (line_of p q i)
unfolding frame_line
frame_on on len p q zero = refl
frame_on on len p q (suc i) = refl

-- no edge ends on the first line
first_into : (on len : ℕ → ℕ) (p q : ℕ) → (frame_line on len p q 0).into ≡ 0
unfolding frame_line
first_into on len p q = refl

-- a set has a member, or it is empty
some_or_none : (n o : ℕ) → o < 2 ^ n → (o ≡ 0) ⊎ ((k : ℕ) × (k < n) × (has o k ≡ true))
some_or_none n o h = go (eq-or-lt_of_le (trailing_le n o))
  where
    go : (count_trailing_zeros n o ≡ n) ⊎ (count_trailing_zeros n o < n) → (o ≡ 0) ⊎ ((k : ℕ) × (k < n) × (has o k ≡ true))
    go (inl e) = inl (same_set n o 0 h (pow_pos n) (λ j l. trailing_below n o j (omega arith) ∙ sym (none_has j)))
    go (inr l) = inr (count_trailing_zeros n o, l, trailing_at n o l)

-- four answers out of one
all_true : (m a b d : Bool) → (m && a) && ((m && b) && (m && d)) ≡ true → (m ≡ true) × (a ≡ true) × (b ≡ true) × (d ≡ true)
all_true true a b d e =
    let (x, y) = and_split a (b && d) e in
    let (z, w) = and_split b d y in
    (refl, x, z, w)
all_true false a b d e = absurd (true≢false (sym e))

module _ (grid : Grid) (runs : List Run) (xs ys : Side) (c leaves : ℕ) (g : Group)
    (S : OnSides grid runs xs ys c leaves) (G : Grouped xs ys (length runs) c leaves g)
    (C : Centred (view_by grid xs ys c) runs (box_by grid xs ys c) c) where
  -- the centre's view
  abbrev v : View
  v = view_by grid xs ys c

  -- the boxes in it
  abbrev box : ℕ → Box
  box = box_by grid xs ys c

  -- the star
  abbrev I : Instance
  I = star_of v runs box c

  -- ---- one axis

  -- a run's first point is on a line of the grid
  first_lt : (d : Dir) (k : ℕ) → k < length runs → first_at xs ys k d < length (lines grid d)
  first_lt d k h = (S.first_at_lem k h).fits d

  -- and its second point
  second_lt : (d : Dir) (k : ℕ) → k < length runs → second_at xs ys k d < length (lines grid d)
  second_lt d k h = (S.second_at_lem k h).fits d

  -- the frame has the star's size
  size_is : (d : Dir) → I.size d ≡ gap (first_at xs ys c d) (second_at xs ys c d)
  size_is d = axis_size (length (lines grid d)) (first_at xs ys c d) (second_at xs ys c d) (first_lt d c C.listed) (second_lt d c C.listed)

  -- run k's box has line i of the frame
  covers_is : (d : Dir) (k i : ℕ) → k < length runs → i ≤ I.size d
      → covers (first_at xs ys k d) (second_at xs ys k d) (line_of (first_at xs ys c d) (second_at xs ys c d) i) ≡ passes (box k) d (I.start d + i)
  unfolding passes lo hi
  covers_is d k i h l =
      axis_covers (length (lines grid d)) (first_at xs ys c d) (second_at xs ys c d) (first_lt d c C.listed) (second_lt d c C.listed)
      i (first_at xs ys k d) (second_at xs ys k d) (omega (arith, size_is d)) (first_lt d k h) (second_lt d k h)

  -- the lines of the group
  frame_lines : (d : Dir) (i : ℕ) → i ≤ I.size d
      → line_at g d i ≡ frame_line (leaves_on (side_at xs ys d).first (side_at xs ys d).second (length runs) leaves) (length_at (side_at xs ys d).lines) (first_at xs ys c d) (second_at xs ys c d) i
  frame_lines hor i h = G.columns i (omega (arith, size_is hor))
  frame_lines ver i h = G.rows i (omega (arith, size_is ver))

  -- the leaves on a line
  on_is : (d : Dir) (i k : ℕ) → k < length runs → i ≤ I.size d
      → has (leaves_on (side_at xs ys d).first (side_at xs ys d).second (length runs) leaves (line_of (first_at xs ys c d) (second_at xs ys c d) i)) k
      ≡ meets grid runs c k && passes (box k) d (I.start d + i)
  unfolding leaves_on leaf_on
  on_is d i k h l =
      has_pack (leaf_on (side_at xs ys d).first (side_at xs ys d).second leaves (line_of (first_at xs ys c d) (second_at xs ys c d) i)) (length runs) k h
      ∙ ap₂ ◌&&◌ (S.is_leaf k h) (covers_is d k i h l)

  -- ---- the set of an edge

  -- the leaves on line i of the frame
  on_at : Dir → ℕ → ℕ
  on_at d i = leaves_on (side_at xs ys d).first (side_at xs ys d).second (length runs) leaves (line_of (first_at xs ys c d) (second_at xs ys c d) i)

  -- the group has them
  line_on : (d : Dir) (i : ℕ) → i ≤ I.size d → (line_at g d i).on ≡ on_at d i
  unfolding on_at
  line_on d i h = ap (λ l. l.on) (frame_lines d i h) ∙ frame_on _ _ (first_at xs ys c d) (second_at xs ys c d) i

  -- and those on the line before as well
  line_into : (d : Dir) (i : ℕ) → suc i ≤ I.size d → (line_at g d (suc i)).into ≡ bit_and (on_at d (suc i)) (on_at d i)
  unfolding on_at frame_line
  line_into d i h = ap (λ l. l.into) (frame_lines d (suc i) h)

  -- the set of an edge: the leaves that have its cross line and both its ends' lines
  own_is : (d : Dir) (s t : ℕ) → suc s ≤ I.size d → t ≤ I.size (other d)
      → own_set g d (suc s) t ≡ bit_and (on_at (other d) t) (bit_and (on_at d (suc s)) (on_at d s))
  own_is d s t h k = ap₂ bit_and (line_on (other d) t k) (line_into d s h)

  -- all of them are runs of the job
  own_lt : (d : Dir) (s t : ℕ) → suc s ≤ I.size d → t ≤ I.size (other d) → own_set g d (suc s) t < 2 ^ length runs
  unfolding on_at
  own_lt d s t h k = rw (own_is d s t h k) (lt_of_le_of_lt (and_le_l _ _) (leaves_lt (side_at xs ys (other d)).first (side_at xs ys (other d)).second (length runs) leaves _))

  -- run k's box has line i of the frame
  abbrev hits : Dir → ℕ → ℕ → Bool
  hits d k i = passes (box k) d (I.start d + i)

  -- asked of one run
  own_has : (d : Dir) (s t k : ℕ) → suc s ≤ I.size d → t ≤ I.size (other d) → k < length runs
      → has (own_set g d (suc s) t) k
      ≡ (meets grid runs c k && hits (other d) k t) && ((meets grid runs c k && hits d k (suc s)) && (meets grid runs c k && hits d k s))
  unfolding on_at
  own_has d s t k h j l =
      ap (λ o. has o k) (own_is d s t h j)
      ∙ has_and (on_at (other d) t) (bit_and (on_at d (suc s)) (on_at d s)) k
      ∙ ap₂ ◌&&◌ (on_is (other d) t k l j) (has_and (on_at d (suc s)) (on_at d s) k ∙ ap₂ ◌&&◌ (on_is d (suc s) k l h) (on_is d s k l (omega arith)))

  -- run k is in the set exactly if it is a leaf whose box has the edge
  own_lies : (d : Dir) (s t k : ℕ) → suc s ≤ I.size d → t ≤ I.size (other d) → k < length runs → has (own_set g d (suc s) t) k ≡ true
      → (meets grid runs c k ≡ true) × Lies (box k) d (I.start d + s) (I.start (other d) + t)
  unfolding lies_in
  own_lies d s t k h j l e =
      let (m, a, b, b') = all_true (meets grid runs c k) (hits (other d) k t) (hits d k (suc s)) (hits d k s) (sym (own_has d s t k h j l) ∙ e) in
      let n : I.start d + suc s ≡ suc (I.start d + s) = omega arith in
      (m, lies_in_lem (box k) d (I.start d + s) (I.start (other d) + t) (rw (b', rw n at b, a)))

  -- and the other way round
  lies_own : (d : Dir) (s t k : ℕ) → suc s ≤ I.size d → t ≤ I.size (other d) → k < length runs → meets grid runs c k ≡ true
      → Lies (box k) d (I.start d + s) (I.start (other d) + t) → has (own_set g d (suc s) t) k ≡ true
  unfolding lies_in
  lies_own d s t k h j l m i =
      let (x, a) = and_split (hits d k s && passes (box k) d (suc (I.start d + s))) (hits (other d) k t)
      (in_lies (box k) d (I.start d + s) (I.start (other d) + t) i) in
      let (b', b) = and_split (hits d k s) (passes (box k) d (suc (I.start d + s))) x in
      let n : I.start d + suc s ≡ suc (I.start d + s) = omega arith in
      own_has d s t k h j l ∙ rw (m, a, b', n, b)

  -- ---- owners

  -- a leaf is a cross leaf where its box falls in the view
  cross_is : (k : ℕ) → k < length runs → has g.cross k ≡ falls (box k)
  unfolding crosses goes_down falls
  cross_is k h =
      let x : (a b : ℕ) → a < length (lines grid hor) → b < length (lines grid hor)
      → ahead (v.flip hor) a b ≡ ltb (numbered v hor a) (numbered v hor b) = axis_ahead (v.flip hor) (length (lines grid hor)) in
      let y : (a b : ℕ) → a < length (lines grid ver) → b < length (lines grid ver)
      → ahead (v.flip ver) a b ≡ ltb (numbered v ver a) (numbered v ver b) = axis_ahead (v.flip ver) (length (lines grid ver)) in
      ap (λ m. has m k) G.crossing ∙ has_pack (crosses xs.first xs.second ys.first ys.second c) (length runs) k h
      ∙ rw (
        x (first_at xs ys k hor) (second_at xs ys k hor) (first_lt hor k h) (second_lt hor k h),
        x (second_at xs ys k hor) (first_at xs ys k hor) (second_lt hor k h) (first_lt hor k h),
        y (first_at xs ys k ver) (second_at xs ys k ver) (first_lt ver k h) (second_lt ver k h),
        y (second_at xs ys k ver) (first_at xs ys k ver) (second_lt ver k h) (first_lt ver k h),
      )

  -- a set with a member is that member alone
  own_one : (d : Dir) (s t k : ℕ) → suc s ≤ I.size d → t ≤ I.size (other d) → k < length runs
      → has (own_set g d (suc s) t) k ≡ true → own_set g d (suc s) t ≡ 2 ^ k
  own_one d s t k h j l e =
      same_set (length runs) (own_set g d (suc s) t) (2 ^ k) (own_lt d s t h j) (pow-lt l)
      (λ i b. one i b (outcome (has (own_set g d (suc s) t) i)) ∙ sym (has_power k i))
    where
      edge_in : (i : ℕ) → i < length runs → has (own_set g d (suc s) t) i ≡ true → EdgeIn I d i s t
      edge_in i b z = let (m, y) = own_lies d s t i h j b z in lies_leaf v runs box c C d i s t m y

      one : (i : ℕ) → i < length runs → (has (own_set g d (suc s) t) i ≡ true) ⊎ (has (own_set g d (suc s) t) i ≡ false) → has (own_set g d (suc s) t) i ≡ eqb i k
      one i b (inl z) = z ∙ sym (eq-eqb i k ((separate v runs box c C).one d i k s t (edge_in i b z) (edge_in k l e)))
      one i b (inr z) = z ∙ sym (ne_eqb i k (λ q. true≢false (sym e ∙ ap (has (own_set g d (suc s) t)) (sym q) ∙ z)))

  -- the set of an edge names its owner
  own_names : (d : Dir) (s t : ℕ) → suc s ≤ I.size d → t ≤ I.size (other d) → Names g.cross (own_set g d (suc s) t) (owner I d s t)
  own_names d s t h j = go (some_or_none (length runs) (own_set g d (suc s) t) (own_lt d s t h j))
    where
      named : (k : ℕ) (f : Bool) → k < 32 → has g.cross k ≡ f → Names g.cross (2 ^ k) (owner_if f k)
      named k true b e = unlike b e
      named k false b e = alike b e

      go : (own_set g d (suc s) t ≡ 0) ⊎ ((k : ℕ) × (k < length runs) × (has (own_set g d (suc s) t) k ≡ true))
          → Names g.cross (own_set g d (suc s) t) (owner I d s t)
      go (inl e) =
          rw (
            e,
            no_owner v runs box c C d s t
                (λ k m i. true≢false (sym (lies_own d s t k h j (meets_listed grid runs c k m) m i) ∙ ap (λ o. has o k) e ∙ none_has k)),
          )
          nobody
      go (inr (k, l, e)) =
          let (m, i) = own_lies d s t k h j l e in
          rw (own_one d s t k h j l e, leaf_owner_lem v runs box c C d k s t m i) (named k (falls (box k)) (omega (arith, S.few)) (cross_is k l))

  -- ---- the group draws the star

  -- an edge is as long as the star's
  length_is : (d : Dir) (s : ℕ) → s < I.size d → (line_at g d (suc s)).len ≡ I.len d s
  unfolding frame_line
  length_is d s h =
      let n = length (lines grid d) in
      let p = first_lt d c C.listed in
      let q = second_lt d c C.listed in
      let l = axis_lower n (first_at xs ys c d) (second_at xs ys c d) p q s (omega (arith, size_is d)) in
      let low = lower_of (first_at xs ys c d) (second_at xs ys c d) s in
      let within : suc low < n = lower_lt n (first_at xs ys c d) (second_at xs ys c d) s p q (omega (arith, size_is d)) in
      ap (λ l. l.len) (frame_lines d (suc s) h)
      ∙ ap₂ (λ x y. x - y) (S.same_lines d (suc low) within) (S.same_lines d low (omega arith))
      ∙ ap (length_at (lines grid d)) l

  -- THEOREM: the group draws the star
  pub group_drawn : Drawn g I
  group_drawn =
      record {
        wide = G.wide ∙ ap suc (sym (size_is hor));
        high = G.high ∙ ap suc (sym (size_is ver));
        lengths = length_is;
        owners = owners;
      }
    where
      owners : (d : Dir) (s t : ℕ) → s ≤ I.size d → t ≤ I.size (other d) → Names g.cross (own_set g d s t) (arrival I d s t)
      owners d zero t h j =
          let e = ap (λ l. l.into) (frame_lines d 0 h) ∙ first_into _ _ (first_at xs ys c d) (second_at xs ys c d) in
          rw (e, and_zero_r (line_at g (other d) t).on) nobody
      owners d (suc s) t h j = own_names d s t h j

-- ---- the sizes suit

-- how many lines a direction has
many_of : (g : Group) (xs ys : Side) (n c leaves : ℕ) → Grouped xs ys n c leaves g → (d : Dir) → many g d ≡ suc (gap (first_at xs ys c d) (second_at xs ys c d))
many_of g xs ys n c leaves G hor = G.wide
many_of g xs ys n c leaves G ver = G.high

-- no edge of the frame is longer than those of the axis
line_short : (on len : ℕ → ℕ) (p q i : ℕ) → ((j : ℕ) → len j ≤ 2000000) → (frame_line on len p q i).len ≤ 2000000
unfolding frame_line
line_short on len p q zero h = omega arith
line_short on len p q (suc i) h = h (lower_of p q i)

-- the group of runs whose edges are no longer than 2,000,000 suits work words in which its table has room
pub group_fit : (g : Group) (xs ys : Side) (n c leaves : ℕ) (words : List ℕ) → Grouped xs ys n c leaves g → Placed xs.first xs.second n → Placed ys.first ys.second n → c < n
    → ((d : Dir) (i : ℕ) → length_at (side_at xs ys d).lines i ≤ 2000000) → g.h * g.w * 4 ≤ length words → Fit g words
group_fit g xs ys n c leaves words G X Y h short room =
    let x = gap_lt 64 (first_at xs ys c hor) (second_at xs ys c hor) (X c h).0 (X c h).1 in
    let y = gap_lt 64 (first_at xs ys c ver) (second_at xs ys c ver) (Y c h).0 (Y c h).1 in
    record {
      some_columns = omega (arith, G.wide);
      columns = omega (arith, G.wide);
      some_rows = omega (arith, G.high);
      rows = omega (arith, G.high);
      room = room;
      short = λ d s l. rw (lines_at_lem d s (omega (arith, many_of g xs ys n c leaves G d))) (line_short _ _ (first_at xs ys c d) (second_at xs ys c d) s (short d));
    }
  where
    lines_at_lem : (d : Dir) (i : ℕ) → i ≤ gap (first_at xs ys c d) (second_at xs ys c d)
        → line_at g d i ≡ frame_line (leaves_on (side_at xs ys d).first (side_at xs ys d).second n leaves) (length_at (side_at xs ys d).lines) (first_at xs ys c d) (second_at xs ys c d) i
    lines_at_lem hor i b = G.columns i b
    lines_at_lem ver i b = G.rows i b
