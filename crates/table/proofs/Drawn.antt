-- A group that draws an instance: its sets name the owners, and its lengths are the edges'. Then a table with the local rule is exact, and the walk
-- back is the instance's trace: at each edge both ask the same questions, once of sets and once of owners.
use mathlib.Core.Path.{◌≡◌, refl, sym, ap, ap₂, ◌∙◌}
use mathlib.Core.Bool.{Bool, true, false, cond, not, ◌&&◌, ◌||◌}
use mathlib.Core.List.{List, [], ◌∷◌, reverse}
use Prim.Native.Nat.{ℕ, zero, suc, pred, ◌+◌, ◌-◌, ◌*◌, ◌≤◌, ◌<◌, max}
use native.Mathlib.Omega.{arith}
use native.Mathlib.Nat.{suc-mul}
use lib.Dec.{eqb, leb, ltb}
use borrow.Author.Tests.{eq-eqb, ne_eqb, lt-ltb}
use Rattle.network.specs.Steps.{Dir, hor, ver, other}
use Rattle.sharing.specs.Instance.{Instance, Inside, Owner, none, same, cross, owner}
use Rattle.sharing.specs.Table.{Flag, best, run, Table, at_start, all, unless, only, arrival, from, best_of, run_word, Exact, figure}
use Rattle.sharing.specs.Trace.{Move, State, settled, come, come_best, come_from, begins, next_run, next_by, owner_of, next, here, back, trace}
use Rattle.sharing.proofs.Steps.{coord}
use Rattle.sharing.proofs.Table.{from_far}
use Rattle.sharing.proofs.Trace.{Ready, last_ready, next_ready}
use Rattle.table.specs.Frame.{Group}
use Rattle.table.specs.declared.trace.Taken.{Taken}
use Rattle.table.specs.Rule.{many, line_at, position, spot, dir_no, table_of, own_set, edge_at, pair, unless_own, start_of, entered, pair_at, Ruled, figure_of}
use Rattle.table.specs.Walk.{taken_by, chosen, begins_with, before_of, arrive_at, up_no, share_no, dir_by, move_by, walk, begin, walked}
use Rattle.table.proofs.Walking.{arrive_up, arrive_right}
use Rattle.table.proofs.Named.{Names, is_run, unless_named, named_rule, cross_named, share_named}

pub record Drawn (g : Group) (I : Instance) : Type 0 where
  pub wide : g.w ≡ suc (I.size hor)
  pub high : g.h ≡ suc (I.size ver)
  pub lengths : (d : Dir) (s : ℕ) → s < I.size d → (line_at g d (suc s)).len ≡ I.len d s
  pub owners : (d : Dir) (s t : ℕ) → s ≤ I.size d → t ≤ I.size (other d) → Names g.cross (own_set g d s t) (arrival I d s t)

-- ---- the table

-- the walk starts at the first position
start_spot : (w : ℕ) (d : Dir) (s t : ℕ) → 1 ≤ w → start_of (spot w d s t) ≡ at_start s t
unfolding position
start_spot w hor zero zero h = rw (eq-eqb (0 * w + 0) 0 (omega arith))
start_spot w ver zero zero h = rw (eq-eqb (0 * w + 0) 0 (omega arith))
start_spot w hor zero (suc t) h = rw (ne_eqb (suc t * w + 0) 0 (λ e. omega (arith, suc-mul t w)))
start_spot w ver zero (suc t) h = rw (ne_eqb (0 * w + suc t) 0 (λ e. omega arith))
start_spot w hor (suc s) t h = rw (ne_eqb (t * w + suc s) 0 (λ e. omega arith))
start_spot w ver (suc s) t h = rw (ne_eqb (suc s * w + t) 0 (λ e. omega (arith, suc-mul s w)))

module _ (g : Group) (I : Instance) (D : Drawn g I) where
  -- the frame has one line more than steps
  many_is : (d : Dir) → many g d ≡ suc (I.size d)
  many_is hor = D.wide
  many_is ver = D.high

  -- the words of the edge along d from (s, t)
  entered_is : (words : List ℕ) (d : Dir) (s t : ℕ) → Inside I d s t
      → entered g words d s t
      ≡ pair (best_of (owner I d s t) (all (table_of g.w words) d s t) (entered g words d s t).run (I.len d s))
      (run_word (owner I d s t) (λ k. from I (table_of g.w words) k d s t) (λ k. only (arrival I d s t) k (table_of g.w words d run s t)) (I.len d s))
  unfolding entered all from
  entered_is words d s t i =
      rw (start_spot g.w d s t (omega (arith, D.wide)), D.lengths d s i.along)
      (named_rule g.cross (edge_at g words d s t) (edge_at g words (other d) t s) (arrival I d s t) (arrival I (other d) t s)
      (D.owners d s t (omega (arith, i.along)) i.across) (across d i) (at_start s t) (I.len d s)
      (own_set g d (suc s) t) (owner I d s t) (D.owners d (suc s) t i.along i.across))
    where
      across : (d : Dir) → Inside I d s t → Names g.cross (own_set g (other d) t s) (arrival I (other d) t s)
      across hor i = D.owners ver t s i.across (omega (arith, i.along))
      across ver i = D.owners hor t s i.across (omega (arith, i.along))

  -- a table with the local rule is exact
  pub ruled_exact : (words : List ℕ) → Ruled g words → Exact I (table_of g.w words)
  ruled_exact words R =
      record {
        no_edge = λ d f t h. none_at d f t (R d 0 t (omega (arith, many_is d)) (omega (arith, many_is (other d))));
        best_is = λ d s t i. ap (λ p. p.best) (at_edge d s t i ∙ entered_is words d s t i)
            ∙ ap (λ r. best_of (owner I d s t) (all (table_of g.w words) d s t) r (I.len d s)) (sym (ap (λ p. p.run) (at_edge d s t i)));
        run_is = λ d s t i. ap (λ p. p.run) (at_edge d s t i ∙ entered_is words d s t i);
      }
    where
      none_at : (d : Dir) (f : Flag) (t : ℕ) → pair_at g.w words d 0 t ≡ pair 0 0 → table_of g.w words d f 0 t ≡ 0
      none_at d best t e = ap (λ p. p.best) e
      none_at d run t e = ap (λ p. p.run) e

      at_edge : (d : Dir) (s t : ℕ) → Inside I d s t → pair_at g.w words d (suc s) t ≡ entered g words d s t
      at_edge d s t i = R d (suc s) t (omega (arith, many_is d, i.along)) (omega (arith, many_is (other d), i.across))

  -- and the figure is the instance's
  pub figure_drawn : (words : List ℕ) → figure_of g.w g.h words ≡ figure I (table_of g.w words)
  unfolding figure_of figure all
  figure_drawn words =
      let x : pred g.w ≡ I.size hor = ap pred D.wide in
      let y : pred g.h ≡ I.size ver = ap pred D.high in
      rw (x, y, start_spot g.w hor (I.size hor) (I.size ver) (omega (arith, D.wide)))

-- ---- the walk

-- a direction as the code keeps it
abbrev pub is_ver : Dir → Bool
is_ver hor = false
is_ver ver = true

-- what the code knows of an edge of the walk
abbrev taken_of : Group → List ℕ → State → Taken
taken_of g words q = record { ver = is_ver q.dir; run = is_run q.flag; edge = edge_at g words q.dir (suc q.along) q.across }

-- the other direction is the other answer
ver_other : (d : Dir) → not (is_ver d) ≡ is_ver (other d)
ver_other hor = refl
ver_other ver = refl

-- the edges along and across at the vertex (s, t), read along d
arrive_along : (g : Group) (words : List ℕ) (t : Taken) (d : Dir) (m n : ℕ) → t.ver ≡ is_ver d
    → arrive_at g words t (coord hor d m n) (coord ver d m n) ≡ before_of t (edge_at g words d m n) (edge_at g words (other d) n m) g.cross
arrive_along g words t hor m n h = arrive_right words (position g.w m n) (line_at g hor m) (line_at g ver n) t g.cross h
arrive_along g words t ver m n h = arrive_up words (position g.w n m) (line_at g hor n) (line_at g ver m) t g.cross h

-- two ways to ask if a word is there
some_test : (f : ℕ) → not (eqb f 0) ≡ ltb 0 f
some_test zero = refl
some_test (suc f) = rw (ne_eqb (suc f) 0 (λ e. omega arith), lt-ltb 0 (suc f) (omega arith))

module _ (g : Group) (I : Instance) (D : Drawn g I) (words : List ℕ) where
  -- the table in the words
  abbrev T : Table
  T = table_of g.w words

  -- an edge after its best word
  taken_settled : (d : Dir) (s t : ℕ) → s < I.size d → t ≤ I.size (other d)
      → taken_by (is_ver d) (edge_at g words d (suc s) t) g.cross ≡ taken_of g words (settled I T d s t)
  unfolding taken_by settled
  taken_settled d s t h k =
      rw (cross_named g.cross (edge_at g words d (suc s) t) (owner I d s t) (D.owners d (suc s) t h k) (eqb (T d run (suc s) t) (T d best (suc s) t)))

  -- the edge by which a walk comes to the vertex (s, t), which is not the first
  taken_come : (b : Bool) (d : Dir) (s t n : ℕ) → s + t ≡ suc n → s ≤ I.size d → t ≤ I.size (other d) → Ready I T n (come I T b d s t)
      → chosen b (is_ver d) (edge_at g words d s t) (edge_at g words (other d) t s) g.cross ≡ taken_of g words (come I T b d s t)
  unfolding chosen come settled
  taken_come true d zero t n e h k r = absurd (omega (arith, r.left))
  taken_come true d (suc s) t n e h k r = taken_settled d s t h k
  taken_come false d s zero n e h k r = absurd (omega (arith, r.left))
  taken_come false d s (suc t) n e h k r = rw (ver_other d) (taken_settled (other d) t s k (across d h))
    where
      across : (d : Dir) → s ≤ I.size d → s ≤ I.size (other (other d))
      across hor h = h
      across ver h = h

  -- where no stretch is on: the edge with the larger best word
  before_free : (t : Taken) (d : Dir) (m n i : ℕ) → m + n ≡ suc i → m ≤ I.size d → n ≤ I.size (other d) → t.ver ≡ is_ver d → t.run ≡ false
      → Ready I T i (come_best I T d m n)
      → before_of t (edge_at g words d m n) (edge_at g words (other d) n m) g.cross ≡ taken_of g words (come_best I T d m n)
  unfolding before_of come_best
  before_free t d m n i e h k v r R = rw (r, v) (taken_come _ d m n i e h k R)

  -- where the edge from (s, t) along d is part of a stretch with k: the stretch begins there, or goes on
  module _ (d : Dir) (s t n k : ℕ) (e : s + t ≡ suc n) (i : Inside I d s t) (o : owner I d s t ≡ cross k) where
    -- the edge as a state of the trace
    abbrev q : State
    q = record { dir = d; flag = run; along = s; across = t }

    -- its set names k
    own_is : Names g.cross (own_set g d (suc s) t) (cross k)
    own_is = rw o at (D.owners d (suc s) t i.along i.across)

    -- the word along d that counts where k is left out
    along_is : unless_own (edge_at g words d s t) (own_set g d (suc s) t) ≡ unless (arrival I d s t) k (T d best s t)
    along_is =
        unless_named g.cross (edge_at g words d s t) (arrival I d s t) (D.owners d s t (omega (arith, i.along)) i.across) (own_set g d (suc s) t) k own_is

    -- and the word across
    across_is : unless_own (edge_at g words (other d) t s) (own_set g d (suc s) t) ≡ unless (arrival I (other d) t s) k (T (other d) best t s)
    across_is =
        unless_named g.cross (edge_at g words (other d) t s) (arrival I (other d) t s) (turned d i) (own_set g d (suc s) t) k own_is
      where
        turned : (d : Dir) → Inside I d s t → Names g.cross (own_set g (other d) t s) (arrival I (other d) t s)
        turned hor i = D.owners ver t s i.across (omega (arith, i.along))
        turned ver i = D.owners hor t s i.across (omega (arith, i.along))

    -- the code and the trace agree on whether the stretch begins
    begins_is : begins_with (edge_at g words d (suc s) t) (edge_at g words d s t) (edge_at g words (other d) t s) ≡ begins I T k q
    unfolding begins_with begins
    begins_is =
        rw (
          along_is,
          across_is,
          from_far I T k d s t n e,
          D.lengths d s i.along,
          some_test (max (unless (arrival I d s t) k (T d best s t)) (unless (arrival I (other d) t s) k (T (other d) best t s))),
        )

    -- and so on the edge before
    before_run : Ready I T n (next_run I T (begins I T k q) k q)
        → before_of (taken_of g words q) (edge_at g words d s t) (edge_at g words (other d) t s) g.cross ≡ taken_of g words (next_run I T (begins I T k q) k q)
    unfolding before_of next_run come_from
    before_run r = rw begins_is (go (begins I T k q) r)
      where
        go : (b : Bool) → Ready I T n (next_run I T b k q)
            → cond b (chosen (leb (unless_own (edge_at g words (other d) t s) (own_set g d (suc s) t)) (unless_own (edge_at g words d s t) (own_set g d (suc s) t)))
            (is_ver d) (edge_at g words d s t) (edge_at g words (other d) t s) g.cross)
            (record { ver = is_ver d; run = true; edge = edge_at g words d s t })
            ≡ taken_of g words (next_run I T b k q)
        go true r = rw (along_is, across_is) (taken_come _ d s t n e (omega (arith, i.along)) i.across r)
        go false r = let z : suc (pred s) ≡ s = omega (arith, r.left) in rw z

-- the vertex where an edge of the walk begins, and the one where it ends
abbrev tail_at : Dir → State → ℕ
tail_at e q = coord e q.dir q.along q.across

-- where an edge of the walk ends
abbrev head_at : Dir → State → ℕ
head_at e q = coord e q.dir (suc q.along) q.across

module _ (g : Group) (I : Instance) (D : Drawn g I) (words : List ℕ) (E : Exact I (table_of g.w words)) where
  -- an edge that is taken as part of a stretch has a cross owner
  run_cross : (n : ℕ) (q : State) → Ready I (table_of g.w words) n q → q.flag ≡ run → (k : ℕ) × (owner_of I (table_of g.w words) q ≡ cross k)
  run_cross n q r f = go (owner_of I (table_of g.w words) q) refl
    where
      word : 0 < table_of g.w words q.dir run (suc q.along) q.across
      word = rw f at r.some

      go : (o : Owner) → owner_of I (table_of g.w words) q ≡ o → (k : ℕ) × (owner_of I (table_of g.w words) q ≡ cross k)
      go none e = absurd (omega (arith, word, rw e at (E.run_is q.dir q.along q.across r.inside)))
      go (same j) e = absurd (omega (arith, word, rw e at (E.run_is q.dir q.along q.across r.inside)))
      go (cross k) e = (k, e)

  -- one edge back
  before_is : (n : ℕ) (q : State) → Ready I (table_of g.w words) (suc n) q
      → arrive_at g words (taken_of g words q) (tail_at hor q) (tail_at ver q) ≡ taken_of g words (next I (table_of g.w words) q)
  unfolding next next_by
  before_is n q r = at q.flag r
    where
      d : Dir
      d = q.dir

      s : ℕ
      s = q.along

      t : ℕ
      t = q.across

      after : Flag → State
      after f = record { dir = q.dir; flag = f; along = q.along; across = q.across }

      best_next : (o : Owner) → next_by I (table_of g.w words) o best (after best) ≡ come_best I (table_of g.w words) d s t
      best_next none = refl
      best_next (same k) = refl
      best_next (cross k) = refl

      at : (f : Flag) → Ready I (table_of g.w words) (suc n) (after f)
          → arrive_at g words (taken_of g words (after f)) (coord hor d s t) (coord ver d s t) ≡ taken_of g words (next I (table_of g.w words) (after f))
      at best r =
          let b = best_next (owner I d s t) in
          arrive_along g words (taken_of g words (after best)) d s t refl
          ∙ before_free g I D words (taken_of g words (after best)) d s t n r.left (omega (arith, r.inside.along)) r.inside.across refl refl
          (rw b at (next_ready I (table_of g.w words) E n (after best) r))
          ∙ ap (taken_of g words) (sym b)
      at run r =
          let o = run_cross (suc n) (after run) r refl in
          let b : next I (table_of g.w words) (after run)
          ≡ next_run I (table_of g.w words) (begins I (table_of g.w words) o.0 (after run)) o.0 (after run) = rw o.1 in
          arrive_along g words (taken_of g words (after run)) d s t refl
          ∙ before_run g I D words d s t n o.0 r.left r.inside o.1 (rw b at (next_ready I (table_of g.w words) E n (after run) r))
          ∙ ap (taken_of g words) (sym b)

  -- it ends where the edge behind it begins
  come_head : (b : Bool) (d : Dir) (s t n : ℕ) → s + t ≡ suc n → Ready I (table_of g.w words) n (come I (table_of g.w words) b d s t)
      → (e : Dir) → head_at e (come I (table_of g.w words) b d s t) ≡ coord e d s t
  unfolding come settled
  come_head true d s t n h r e = let z : suc (pred s) ≡ s = omega (arith, r.left) in rw z
  come_head false d s t n h r e = let z : suc (pred t) ≡ t = omega (arith, r.left) in rw z (turn e d)
    where
      turn : (e d : Dir) → coord e (other d) t s ≡ coord e d s t
      turn hor hor = refl
      turn hor ver = refl
      turn ver hor = refl
      turn ver ver = refl

  -- the edge before a given one ends where that one begins
  next_head : (n : ℕ) (q : State) → Ready I (table_of g.w words) (suc n) q → (e : Dir) → head_at e (next I (table_of g.w words) q) ≡ tail_at e q
  unfolding next next_by next_run come_best come_from
  next_head n q r e = by (owner_of I (table_of g.w words) q) q.flag (next_ready I (table_of g.w words) E n q r)
    where
      on : (k : ℕ) (b : Bool) → Ready I (table_of g.w words) n (next_run I (table_of g.w words) b k q)
          → head_at e (next_run I (table_of g.w words) b k q) ≡ tail_at e q
      on k true z = come_head _ q.dir q.along q.across n r.left z e
      on k false z = let p : suc (pred q.along) ≡ q.along = omega (arith, z.left, r.left) in rw p

      by : (o : Owner) (f : Flag) → Ready I (table_of g.w words) n (next_by I (table_of g.w words) o f q)
          → head_at e (next_by I (table_of g.w words) o f q) ≡ tail_at e q
      by none f z = come_head _ q.dir q.along q.across n r.left z e
      by (same k) f z = come_head _ q.dir q.along q.across n r.left z e
      by (cross k) best z = come_head _ q.dir q.along q.across n r.left z e
      by (cross k) run z = on k (begins I (table_of g.w words) k q) z

  -- a direction where there is a choice, and where there is none, is the edge's own
  up_is : (q : State) → up_no (is_ver q.dir) (head_at hor q) (head_at ver q) ≡ dir_no q.dir
  unfolding up_no
  up_is q = go q.dir
    where
      go : (d : Dir) → cond (is_ver d && ltb 0 (coord ver d (suc q.along) q.across) || eqb (coord hor d (suc q.along) q.across) 0) 1 0 ≡ dir_no d
      go hor = rw (ne_eqb (suc q.along) 0 (λ e. omega arith))
      go ver = rw (lt-ltb 0 (suc q.along) (omega arith))

  -- a step back along the direction leads from the head to the tail
  tail_is : (q : State) → (head_at hor q - (1 - dir_no q.dir) ≡ tail_at hor q) × (head_at ver q - dir_no q.dir ≡ tail_at ver q)
  tail_is q = go q.dir
    where
      go : (d : Dir) → (coord hor d (suc q.along) q.across - (1 - dir_no d) ≡ coord hor d q.along q.across)
          × (coord ver d (suc q.along) q.across - dir_no d ≡ coord ver d q.along q.across)
      go hor = (omega arith, omega arith)
      go ver = (omega arith, omega arith)

  -- the move that the code stores is the instance's
  move_is : (n : ℕ) (q : State) → Ready I (table_of g.w words) n q
      → move_by (dir_no q.dir) (share_no (taken_of g words q) g.cross) ≡ here I (table_of g.w words) q
  move_is n q r =
      ap₂ (λ d s. record { dir = d; share = s }) (dir_is q.dir)
      (share_named g.cross (taken_of g words q) (owner_of I (table_of g.w words) q) q.flag
      (D.owners q.dir (suc q.along) q.across r.inside.along r.inside.across) refl)
    where
      dir_is : (d : Dir) → dir_by (dir_no d) ≡ d
      dir_is hor = refl
      dir_is ver = refl

  -- the walk from an edge on is the trace from there on
  walk_back : (n : ℕ) (q : State) (t : Taken) (a b : ℕ) → Ready I (table_of g.w words) n q → a ≡ head_at hor q → b ≡ head_at ver q
      → arrive_at g words t a b ≡ taken_of g words q → walk g words (suc n) t a b ≡ back I (table_of g.w words) (suc n) q
  unfolding walk back
  walk_back zero q t a b r ea eb e = rw (e, ea, eb, up_is q) (ap (λ m. m ∷ []) (move_is 0 q r))
  walk_back (suc n) q t a b r ea eb e =
      rw (e, ea, eb, up_is q)
      (ap₂ (λ (m : Move) (l : List Move). m ∷ l) (move_is (suc n) q r)
      (walk_back n (next I (table_of g.w words) q) (taken_of g words q) _ _ (next_ready I (table_of g.w words) E n q r)
      ((tail_is q).0 ∙ sym (next_head n q r hor)) ((tail_is q).1 ∙ sym (next_head n q r ver)) (rw ((tail_is q).0, (tail_is q).1) (before_is n q r))))

  -- the last edge ends at the last vertex
  last_head : (n : ℕ) → I.size hor + I.size ver ≡ suc n → Ready I (table_of g.w words) n (come_best I (table_of g.w words) hor (I.size hor) (I.size ver))
      → (e : Dir) → head_at e (come_best I (table_of g.w words) hor (I.size hor) (I.size ver)) ≡ coord e hor (I.size hor) (I.size ver)
  unfolding come_best
  last_head n h r e = come_head _ hor (I.size hor) (I.size ver) n h r e

  -- nothing is left to walk at the first point
  none_left : (q : State) (t : Taken) (a b : ℕ) → walk g words 0 t a b ≡ back I (table_of g.w words) 0 q
  unfolding walk back
  none_left q t a b = refl

  -- the moves of the whole walk are the instance's trace
  pub walked_trace : walked g words ≡ trace I (table_of g.w words)
  unfolding trace
  walked_trace =
      let x : pred g.w ≡ I.size hor = ap pred D.wide in
      let y : pred g.h ≡ I.size ver = ap pred D.high in
      rw (x, y) (ap reverse (go (I.size hor + I.size ver) refl))
    where
      q : State
      q = come_best I (table_of g.w words) hor (I.size hor) (I.size ver)

      some : (n : ℕ) → I.size hor + I.size ver ≡ suc n → walk g words (suc n) begin (I.size hor) (I.size ver) ≡ back I (table_of g.w words) (suc n) q
      some n e =
          let r = last_ready I (table_of g.w words) E n e in
          let h = last_head n e r in
          walk_back n q begin (I.size hor) (I.size ver) r (sym (h hor)) (sym (h ver))
          (arrive_along g words begin hor (I.size hor) (I.size ver) refl
          ∙ before_free g I D words begin hor (I.size hor) (I.size ver) n e (omega arith) (omega arith) refl refl r)

      go : (n : ℕ) → I.size hor + I.size ver ≡ n → walk g words n begin (I.size hor) (I.size ver) ≡ back I (table_of g.w words) n q
      go zero e = none_left q begin (I.size hor) (I.size ver)
      go (suc n) e = some n e
