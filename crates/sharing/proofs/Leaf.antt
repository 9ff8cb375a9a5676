-- A leaf's steps lead from its first point to its second, and pass every edge that the centre shares with it.
--
-- The stretch lies in the leaf's box, and the leaf goes one way through it: with the centre or against it along every direction in which the stretch
-- goes. Along a direction in which it does not go, where it begins and where it ends are on one line, and the way through the box does not matter.
-- So the steps before the stretch, the stretch taken forth or back, and the steps after it add up to the leaf's own distance.
use mathlib.Core.Path.{◌≡◌, refl, sym, ap, ap₂, ◌∙◌}
use mathlib.Core.Logic.{◌⊎◌, inl, inr}
use mathlib.Core.Bool.{Bool, true, false, cond, true≢false}
use mathlib.Core.List.{List, [], ◌∷◌, ◌++◌, map-append, append_assoc, reverse, reverse_aux, reverse-cons, reverse-append}
use Prim.Native.Nat.{ℕ, zero, suc, ◌+◌, ◌-◌, ◌≤◌, ◌<◌}
use native.Mathlib.Omega.{arith}
use lib.ListN.{length, length-reverse, replicate}
use borrow.Author.Tests.{eq-eqb, ne_eqb}
use Rattle.network.specs.Lists.{select, All}
use Rattle.network.specs.Plane.{gap}
use Rattle.network.specs.Steps.{Dir, hor, ver, other, steps}
use Rattle.network.proofs.Numbers.{gap_rise, gap_fall}
use Rattle.sharing.specs.Box.{Box, lo, hi}
use Rattle.sharing.specs.Instance.{Instance}
use Rattle.sharing.specs.Trace.{Share, alone, with, Move}
use Rattle.sharing.specs.Walk.{dirs, moved, Kept}
use Rattle.sharing.specs.Leaf.{is_with, before, stretch, leg, forward, enter, leave, turn_if, via, leaf_steps}
use Rattle.sharing.proofs.Steps.{moved_reverse}
use Rattle.network.proofs.StepCounts.{steps_same, steps_other, steps_append, steps_reverse}
use Rattle.sharing.proofs.Owners.{Separate}
use Rattle.sharing.proofs.Stretch.{forth_ends, back_ends, Mine, Other, Placed, Stretch, never, once, placed_from, placed_upto, placed_mine, placed_way, stretch_of_lem}

-- ---- steps in a box

-- the line along e after i steps, and the lower of the lines after i and i + 1 steps
abbrev pub line_after : Box → Dir → ℕ → ℕ
line_after b e i = cond (forward b e) (b.first e + i) (b.first e - i)

abbrev pub low_after : Box → Dir → ℕ → ℕ
low_after b e i = cond (forward b e) (b.first e + i) (b.first e - suc i)

-- the steps s from the run's first point pass the edge along d from line a to line a + 1, on line c
pub record Passes (b : Box) (s : List Dir) (d : Dir) (a c : ℕ) : Type 0 where
  pub pre : List Dir
  pub post : List Dir
  pub whole : s ≡ pre ++ d ∷ post
  pub along : low_after b d (steps d pre) ≡ a
  pub across : line_after b (other d) (steps (other d) pre) ≡ c

-- how many steps go along each direction of a straight way
replicate_steps : (n : ℕ) → (steps hor (replicate n hor) ≡ n) × (steps ver (replicate n hor) ≡ 0) × (steps hor (replicate n ver) ≡ 0) × (steps ver (replicate n ver) ≡ n)
unfolding steps
replicate_steps zero = omega arith
replicate_steps (suc n) = omega (arith, replicate_steps n)

-- a leg leads as far as its ends are apart
steps_leg : (e : Dir) (p q : Dir → ℕ) → steps e (leg p q) ≡ gap (p e) (q e)
steps_leg hor p q =
    omega (
      arith,
      steps_append hor (replicate (gap (p hor) (q hor)) hor) (replicate (gap (p ver) (q ver)) ver),
      replicate_steps (gap (p hor) (q hor)),
      replicate_steps (gap (p ver) (q ver)),
    )
steps_leg ver p q =
    omega (
      arith,
      steps_append ver (replicate (gap (p hor) (q hor)) hor) (replicate (gap (p ver) (q ver)) ver),
      replicate_steps (gap (p hor) (q hor)),
      replicate_steps (gap (p ver) (q ver)),
    )

-- ---- by way of a stretch

-- the stretch of steps m from `near` lies in the box, and the run goes the way f along each direction in which it goes
record Held (b : Box) (near : Dir → ℕ) (m : List Dir) (f : Bool) : Type 0 where
  begins : (e : Dir) → lo b e ≤ near e
  stops : (e : Dir) → near e + steps e m ≤ hi b e
  way : (e : Dir) → (steps e m ≡ 0) ⊎ (forward b e ≡ f)

-- a stretch taken forth or back, cut at a step
record Cut (f : Bool) (m₁ : List Dir) (d : Dir) (m₂ : List Dir) : Type 0 where
  pre : List Dir
  post : List Dir
  whole : turn_if f (m₁ ++ d ∷ m₂) ≡ pre ++ d ∷ post
  count : (e : Dir) → steps e pre ≡ cond f (steps e m₁) (steps e m₂)

-- so it can be cut
cut : (f : Bool) (m₁ : List Dir) (d : Dir) (m₂ : List Dir) → Cut f m₁ d m₂
cut true m₁ d m₂ = record { pre = m₁; post = m₂; whole = refl; count = λ e. refl }
cut false m₁ d m₂ =
    record {
      pre = reverse m₂;
      post = reverse m₁;
      whole = reverse-append m₁ (d ∷ m₂) ∙ ap (λ l. l ++ reverse m₁) (reverse-cons d m₂) ∙ append_assoc (reverse m₂) (d ∷ []) (reverse m₁);
      count = λ e. steps_reverse e m₂;
    }

-- turned or not, it has the same steps
steps_turn : (f : Bool) (e : Dir) (m : List Dir) → steps e (turn_if f m) ≡ steps e m
steps_turn true e m = refl
steps_turn false e m = steps_reverse e m

-- the run's steps, if it goes the way f
way_by : Box → (Dir → ℕ) → List Dir → Bool → List Dir
way_by b near m f = leg b.first (enter b near m) ++ turn_if f m ++ leg (leave b near m) b.second

module _ (b : Box) (near : Dir → ℕ) (m : List Dir) (f : Bool) (h : Held b near m f) where
  -- they lead from its first point to its second
  leads_by : (e : Dir) → steps e (way_by b near m f) ≡ gap (b.first e) (b.second e)
  unfolding way_by
  leads_by e =
      steps_append e (leg b.first (enter b near m) ++ turn_if f m) (leg (leave b near m) b.second)
      ∙ ap₂ ◌+◌
      (steps_append e (leg b.first (enter b near m)) (turn_if f m) ∙ ap₂ ◌+◌ (steps_leg e b.first (enter b near m)) (steps_turn f e m))
      (steps_leg e (leave b near m) b.second)
      ∙ go (forward b e) refl
    where
      go : (F : Bool) → forward b e ≡ F
          → gap (b.first e) (cond F (near e) (near e + steps e m)) + steps e m + gap (cond F (near e + steps e m) (near e)) (b.second e)
          ≡ gap (b.first e) (b.second e)
      go true q =
          let j = forth_ends b e q in
          let x : b.first e ≤ near e = omega (arith, j, h.begins e) in
          let y : near e + steps e m ≤ b.second e = omega (arith, j, h.stops e) in
          omega (
            arith,
            gap_rise (b.first e) (near e) x,
            gap_rise (near e + steps e m) (b.second e) y,
            gap_rise (b.first e) (b.second e) (omega arith),
          )
      go false q =
          let j = back_ends b e q in
          let x : b.second e ≤ near e = omega (arith, j, h.begins e) in
          let y : near e + steps e m ≤ b.first e = omega (arith, j, h.stops e) in
          omega (
            arith,
            gap_fall (b.first e) (near e + steps e m) y,
            gap_fall (near e) (b.second e) x,
            gap_fall (b.first e) (b.second e) (omega arith),
          )

  module _ (m₁ : List Dir) (d : Dir) (m₂ : List Dir) (parts : m ≡ m₁ ++ d ∷ m₂) (fd : forward b d ≡ f) where
    -- along the direction of the step
    along_by : low_after b d (gap (b.first d) (enter b near m d) + cond f (steps d m₁) (steps d m₂)) ≡ near d + steps d m₁
    along_by = go f fd
      where
        count : steps d m ≡ suc (steps d m₁ + steps d m₂)
        count = ap (steps d) parts ∙ omega (arith, steps_append d m₁ (d ∷ m₂), steps_same d m₂)

        go : (f : Bool) → forward b d ≡ f → low_after b d (gap (b.first d) (enter b near m d) + cond f (steps d m₁) (steps d m₂)) ≡ near d + steps d m₁
        go true q = rw q (omega (arith, gap_rise (b.first d) (near d) (omega (arith, forth_ends b d q, h.begins d))))
        go false q =
            rw q (omega (arith, count, gap_fall (b.first d) (near d + steps d m) (omega (arith, back_ends b d q, h.stops d))))

    -- and across it
    across_by : line_after b (other d) (gap (b.first (other d)) (enter b near m (other d)) + cond f (steps (other d) m₁) (steps (other d) m₂))
        ≡ near (other d) + steps (other d) m₁
    across_by = go (forward b e) refl f (h.way e)
      where
        e : Dir
        e = other d

        count : steps e m ≡ steps e m₁ + steps e m₂
        count = ap (steps e) parts ∙ omega (arith, steps_append e m₁ (d ∷ m₂), steps_other d m₂)

        go : (F : Bool) → forward b e ≡ F → (f : Bool) → (steps e m ≡ 0) ⊎ (forward b e ≡ f)
            → line_after b e (gap (b.first e) (enter b near m e) + cond f (steps e m₁) (steps e m₂)) ≡ near e + steps e m₁
        go true q true w = rw q (omega (arith, gap_rise (b.first e) (near e) (omega (arith, forth_ends b e q, h.begins e))))
        go false q false w =
            rw q (omega (arith, count, gap_fall (b.first e) (near e + steps e m) (omega (arith, back_ends b e q, h.stops e))))
        go true q false (inl w) = rw q (omega (arith, count, gap_rise (b.first e) (near e) (omega (arith, forth_ends b e q, h.begins e))))
        go true q false (inr w) = absurd (true≢false (sym q ∙ w))
        go false q true (inl w) =
            rw q (omega (arith, count, gap_fall (b.first e) (near e + steps e m) (omega (arith, back_ends b e q, h.stops e))))
        go false q true (inr w) = absurd (true≢false (sym w ∙ q))

    -- and pass each edge of the stretch
    passes_by : Passes b (way_by b near m f) d (near d + steps d m₁) (near (other d) + steps (other d) m₁)
    unfolding way_by
    passes_by =
        let c = cut f m₁ d m₂ in
        let i = leg b.first (enter b near m) in
        let o = leg (leave b near m) b.second in
        let n : (e : Dir) → steps e (i ++ c.pre) ≡ gap (b.first e) (enter b near m e) + cond f (steps e m₁) (steps e m₂)
        = λ e. steps_append e i c.pre ∙ ap₂ ◌+◌ (steps_leg e b.first (enter b near m)) (c.count e) in
        record {
          pre = i ++ c.pre;
          post = c.post ++ o;
          whole = ap (λ l. (i ++ l) ++ o) (ap (turn_if f) parts ∙ c.whole) ∙ simp append_assoc;
          along = ap (low_after b d) (n d) ∙ along_by;
          across = ap (line_after b (other d)) (n (other d)) ∙ across_by;
        }

-- ---- the moves of a walk that are shared with a leaf

-- a move that is shared with k passes the test
is_mine : (k : ℕ) (x : Move) → Mine k x → is_with k x.share ≡ true
unfolding is_with
is_mine k x e = rw (e, eq-eqb k k refl)

-- and any other does not
pub is_other : (k : ℕ) (s : Share) → ¬ (s ≡ with k) → is_with k s ≡ false
unfolding is_with
is_other k alone n = refl
is_other k (with j) n = ne_eqb j k (λ e. n (ap with e))

-- what holds of all elements holds of them in the other order
pub all_reverse : {A : Type 0} (P : A → Type 0) (l : List A) → All P l → All P (reverse l)
all_reverse {A} P l a = onto l [] a tt
  where
    onto : (l m : List A) → All P l → All P m → All P (reverse_aux l m)
    onto [] m a b = b
    onto (x ∷ l) m a b = onto l (x ∷ m) a.1 (a.0, b)

module _ (k : ℕ) where
  -- of moves that are not shared with k no stretch is left
  pub stretch_none : (l : List Move) → All (Other k) l → stretch k l ≡ []
  unfolding stretch
  stretch_none [] a = refl
  stretch_none (x ∷ l) a = rw (is_other k x.share a.0, select) (stretch_none l a.1)

  -- the stretch of moves that are shared with k between others
  pub stretch_parts : (u m z : List Move) → All (Other k) u → All (Mine k) m → All (Other k) z → stretch k (u ++ m ++ z) ≡ m
  unfolding stretch
  stretch_parts (x ∷ u) m z a b c = rw (is_other k x.share a.0, select) (stretch_parts u m z a.1 b c)
  stretch_parts [] (x ∷ m) z a b c = rw (is_mine k x b.0, select) (ap (λ l. x ∷ l) (stretch_parts [] m z tt b.1 c))
  stretch_parts [] [] z a b c = stretch_none z c

  -- and what is before it
  pub before_parts : (u m z : List Move) → All (Other k) u → All (Mine k) m → 0 < length m → before k (u ++ m ++ z) ≡ u
  unfolding before
  before_parts (x ∷ u) m z a b h = rw (is_other k x.share a.0, before) (ap (λ l. x ∷ l) (before_parts u m z a.1 b h))
  before_parts [] (x ∷ m) z a b h = rw (is_mine k x b.0, before)
  before_parts [] [] z a b h = absurd (omega arith)

-- x is a move of the walk p, and q are the moves before it
pub data At (x : Move) (q : List Move) : List Move → Type 0 where
  here : At x q (x ∷ q)
  past : {y : Move} {p : List Move} → At x q p → At x q (y ∷ p)

-- so the walk is some moves, x, and q
at_parts : {x : Move} {q p : List Move} → At x q p → (l : List Move) × (p ≡ l ++ x ∷ q)
at_parts here = ([], refl)
at_parts (past {y} i) = let (l, e) = at_parts i in (y ∷ l, ap (λ p. y ∷ p) e)

-- what holds of all moves holds of x
at_all : (P : Move → Type 0) {x : Move} {q p : List Move} → At x q p → All P p → P x
at_all P here a = a.0
at_all P (past i) a = at_all P i a.1

-- a move that is shared with k is one of the stretch
at_stretch : (k : ℕ) (u m z : List Move) {x : Move} {q : List Move} → All (Other k) u → All (Other k) z → Mine k x → At x q (u ++ (m ++ z))
    → (r : List Move) × At x r m × (q ≡ r ++ z)
at_stretch k (y ∷ u) m z a c e here = absurd (a.0 e)
at_stretch k (y ∷ u) m z a c e (past i) = at_stretch k u m z a.1 c e i
at_stretch k [] (y ∷ m) z a c e here = (m, here, refl)
at_stretch k [] (y ∷ m) z a c e (past i) = let (r, j, f) = at_stretch k [] m z tt c e i in (r, past j, f)
at_stretch k [] [] z a c e i = absurd (at_all (Other k) i c e)

-- the moves of two walks add up
pub moved_append : (e : Dir) (p q : List Move) → moved e (p ++ q) ≡ moved e p + moved e q
moved_append e p q = ap (steps e) (map-append (λ (x : Move). x.dir) p q) ∙ steps_append e (dirs p) (dirs q)

-- a run that goes the way f along the direction of every move goes that way along each direction in which they go
one_way : (b : Box) (f : Bool) (e : Dir) (l : List Move) → All (λ x. forward b x.dir ≡ f) l → (moved e l ≡ 0) ⊎ (forward b e ≡ f)
unfolding steps
one_way b f e [] a = inl refl
one_way b f e (y ∷ l) a = go e y.dir a.0 (one_way b f e l a.1)
  where
    go : (e d : Dir) → forward b d ≡ f → (moved e l ≡ 0) ⊎ (forward b e ≡ f) → (steps e (d ∷ dirs l) ≡ 0) ⊎ (forward b e ≡ f)
    go hor hor g w = inr g
    go hor ver g w = w
    go ver hor g w = w
    go ver ver g w = inr g

-- so it takes the stretch that way
via_is : (b : Box) (near : Dir → ℕ) (f : Bool) (l : List Move) → 0 < length l → All (λ x. forward b x.dir ≡ f) l
    → via b near (dirs l) ≡ way_by b near (dirs l) f
unfolding via way_by
via_is b near f [] h a = absurd (omega arith)
via_is b near f (y ∷ l) h a = ap (λ g. leg b.first (enter b near (dirs (y ∷ l))) ++ turn_if g (dirs (y ∷ l)) ++ leg (leave b near (dirs (y ∷ l))) b.second) a.0

module _ (I : Instance) (S : Separate I) (k : ℕ) where
  -- the place where the stretch begins, after the moves p
  near : List Move → Dir → ℕ
  near p d = I.start d + moved d p

  -- a stretch after the walk p is held in the leaf's box
  held : (f : Bool) (x : Move) (m p : List Move) → Placed I k f (x ∷ m) p → Held (I.leaf k) (near (reverse p)) (dirs (reverse (x ∷ m))) f
  unfolding near
  held f x m p a =
      record {
        begins = λ e. omega (arith, placed_from I k f x m p a e, moved_reverse e p);
        stops = λ e. omega (arith, placed_upto I k f x m p a e, moved_append e (x ∷ m) p, moved_reverse e (x ∷ m), moved_reverse e p);
        way = λ e. one_way (I.leaf k) f e (reverse (x ∷ m)) (all_reverse _ (x ∷ m) (placed_way I k f (x ∷ m) p a));
      }

  -- the leaf's steps by the way through its box
  steps_are : (u : List Move) (x : Move) (m p : List Move) (f : Bool) → All (Other k) u → Placed I k f (x ∷ m) p → All (Other k) p
      → leaf_steps I k (reverse (u ++ ((x ∷ m) ++ p))) ≡ way_by (I.leaf k) (near (reverse p)) (dirs (reverse (x ∷ m))) f
  unfolding near
  steps_are u x m p f a l c =
      let some : 0 < length (reverse (x ∷ m)) = omega (arith, length-reverse (x ∷ m)) in
      let mine = all_reverse _ (x ∷ m) (placed_mine I k f (x ∷ m) p l) in
      let order : reverse (u ++ ((x ∷ m) ++ p)) ≡ reverse p ++ reverse (x ∷ m) ++ reverse u
      = reverse-append u ((x ∷ m) ++ p) ∙ ap (λ r. r ++ reverse u) (reverse-append (x ∷ m) p) in
      rw (
        order,
        stretch_parts k (reverse p) (reverse (x ∷ m)) (reverse u) (all_reverse _ p c) mine (all_reverse _ u a),
        before_parts k (reverse p) (reverse (x ∷ m)) (reverse u) (all_reverse _ p c) mine some,
      )
      (via_is (I.leaf k) (near (reverse p)) f (reverse (x ∷ m)) some (all_reverse _ (x ∷ m) (placed_way I k f (x ∷ m) p l)))

  -- T5, a leaf: its steps lead from its first point to its second
  pub leaf_leads : (p : List Move) → Kept I p → (e : Dir) → steps e (leaf_steps I k (reverse p)) ≡ gap ((I.leaf k).first e) ((I.leaf k).second e)
  unfolding via
  leaf_leads p q e = go (stretch_of_lem I k S p q)
    where
      go : Stretch I k p → steps e (leaf_steps I k (reverse p)) ≡ gap ((I.leaf k).first e) ((I.leaf k).second e)
      go (never c) = rw (stretch_none k (reverse p) (all_reverse _ p c)) (steps_leg e (I.leaf k).first (I.leaf k).second)
      go (once u x m z f h a l c) =
          rw (h, steps_are u x m z f a l c) (leads_by (I.leaf k) (near (reverse z)) (dirs (reverse (x ∷ m))) f (held f x m z l) e)

  -- and pass each edge that the centre shares with it
  pub leaf_passes : (p : List Move) → Kept I p → (x : Move) (q : List Move) → At x q p → Mine k x
      → Passes (I.leaf k) (leaf_steps I k (reverse p)) x.dir (I.start x.dir + moved x.dir q) (I.start (other x.dir) + moved (other x.dir) q)
  unfolding near
  leaf_passes p t x q i e = go (stretch_of_lem I k S p t)
    where
      go : Stretch I k p
          → Passes (I.leaf k) (leaf_steps I k (reverse p)) x.dir (I.start x.dir + moved x.dir q) (I.start (other x.dir) + moved (other x.dir) q)
      go (never c) = absurd (at_all (Other k) i c e)
      go (once u y m z f h a l c) =
          let (r, j, g) = at_stretch k u (y ∷ m) z a c e (rw h at i) in
          let (late, w) = at_parts j in
          let parts : dirs (reverse (y ∷ m)) ≡ dirs (reverse r) ++ x.dir ∷ dirs (reverse late)
          = ap (λ n. dirs (reverse n)) w ∙ ap dirs (reverse-append late (x ∷ r) ∙ ap (λ n. n ++ reverse late) (reverse-cons x r) ∙ append_assoc (reverse r) (x ∷ []) (reverse late))
          ∙ map-append (λ (n : Move). n.dir) (reverse r) (x ∷ reverse late) in
          let place : (d : Dir) → near (reverse z) d + moved d (reverse r) ≡ I.start d + moved d q
          = λ d. omega (arith, moved_reverse d z, moved_reverse d r, ap (moved d) g, moved_append d r z) in
          rw (h, steps_are u y m z f a l c, ← (place x.dir), ← (place (other x.dir)))
          (passes_by (I.leaf k) (near (reverse z)) (dirs (reverse (y ∷ m))) f (held f y m z l) (dirs (reverse r)) x.dir (dirs (reverse late)) parts
          (at_all (λ n. forward (I.leaf k) n.dir ≡ f) j (placed_way I k f (y ∷ m) z l)))
