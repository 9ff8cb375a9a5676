-- The trace leads from the centre's first point to its second, and shares what the table says.
--
-- At each edge the walk is after one of the edge's two words, and that word is not 0. By the table's rules it is the length that the edge shares and
-- one of three words (`Source`): the best word where the edge begins, the best word there without the edges of its cross owner, or the run word of the
-- edge before. `next` finds an edge with that word. At the first point each of them is 1, so the lengths that are shared add up to the last word, less
-- one.
use mathlib.Core.Path.{◌≡◌, refl, sym, ap, ◌∙◌}
use mathlib.Core.Bool.{Bool, true, false, ◌&&◌}
use mathlib.Core.List.{List, [], ◌∷◌, reverse, reverse-reverse}
use Prim.Native.Nat.{ℕ, zero, suc, pred, ◌+◌, ◌≤◌, ◌<◌}
use native.Mathlib.Omega.{arith}
use lib.Dec.{eqb, leb, ltb}
use borrow.Author.Tests.{eqb-true, eqb-false, ltb-true, lt-ltb, eq-eqb}
use Rattle.network.specs.Steps.{Dir, hor, ver, other, steps}
use Rattle.network.proofs.Tests.{and_split}
use Rattle.sharing.specs.Instance.{Instance, Inside, Owner, none, same, cross, owner}
use Rattle.sharing.specs.Table.{Flag, best, run, Table, all, unless, only, arrival, from, plus, best_of, run_word, Exact}
use Rattle.sharing.specs.Trace.{with, Move, State, settle, share_of, settled, come, come_best, come_from, begins, next_run, next_by, owner_of, next, here, back, trace}
use Rattle.sharing.specs.Walk.{dirs, moved, length_if, owned, sharing, Suits, free, joined, ran, Before, goes_on, begun, Linked, Kept, Traced}
use Rattle.sharing.proofs.Steps.{coord, moved_reverse}
use Rattle.sharing.proofs.Table.{unless_is, only_is, plus_is, best_of_pos, left_max, right_max, all_turn, all_far, from_far}

-- ---- vertices, shares and words

-- a vertex, read along the other direction
coord_turn : (e d : Dir) (s t : ℕ) → coord e (other d) t s ≡ coord e d s t
coord_turn hor hor s t = refl
coord_turn hor ver s t = refl
coord_turn ver hor s t = refl
coord_turn ver ver s t = refl

-- its lines along and across
coord_along : (d : Dir) (s t : ℕ) → (coord d d s t ≡ s) × (coord (other d) d s t ≡ t)
coord_along hor s t = (refl, refl)
coord_along ver s t = (refl, refl)

-- those of the first point are 0
coord_zero : (e d : Dir) (s t : ℕ) → s + t ≡ 0 → 0 ≡ coord e d s t
coord_zero hor hor s t h = omega arith
coord_zero hor ver s t h = omega arith
coord_zero ver hor s t h = omega arith
coord_zero ver ver s t h = omega arith

-- an edge of k that is not taken as run is not shared with k
not_best : (o : Owner) (k : ℕ) → o ≡ cross k → share_of o best ≡ with k → ⊥
not_best none k o h = let y : ◌≡◌ {A = ℕ} 0 1 = cc in omega arith
not_best (same j) k o h = let y : ◌≡◌ {A = ℕ} 0 1 = cc in omega arith
not_best (cross j) k o h = let y : ◌≡◌ {A = ℕ} 0 1 = cc in omega arith

-- where the stretch does not begin, its word does not come from there
not_begun : (f l r : ℕ) → ltb 0 f && eqb (f + l) r ≡ false → 0 < f → ¬ (f + l ≡ r)
not_begun f l r h z e =
    let x : true ≡ false = rw (lt-ltb 0 f z, eq-eqb (f + l) r e) at h in
    let y : ◌≡◌ {A = ℕ} 0 1 = cc in
    omega arith

-- an edge of k along d ends at (s, t): it begins one line before
arrival_after : (I : Instance) (d : Dir) (s t k : ℕ) → arrival I d s t ≡ cross k → (suc (pred s) ≡ s) × (owner I d (pred s) t ≡ cross k)
arrival_after I d zero t k e = absurd (let y : ◌≡◌ {A = ℕ} 0 1 = cc in omega arith)
arrival_after I d (suc s) t k e = (refl, e)

module _ (I : Instance) (T : Table) where
  -- the word that a state is after, and what its edge shares
  abbrev word : State → ℕ
  word q = T q.dir q.flag (suc q.along) q.across

  abbrev takes : State → ℕ
  takes q = length_if (share_of (owner_of I T q) q.flag) (I.len q.dir q.along)

  -- n moves lead to q's edge; its word is not 0; and where it is the best word of a cross edge, no run gives it
  pub record Ready (n : ℕ) (q : State) : Type 0 where
    pub left : q.along + q.across ≡ n
    pub inside : Inside I q.dir q.along q.across
    pub some : 0 < word q
    pub slack : (k : ℕ) → owner_of I T q ≡ cross k → q.flag ≡ best
        → ¬ (T q.dir run (suc q.along) q.across ≡ T q.dir best (suc q.along) q.across)

  -- its edge leads to the vertex (s, t), read along d, and its word is w
  record Reached (n : ℕ) (d : Dir) (s t : ℕ) (q : State) (w : ℕ) : Type 0 where
    ready : Ready n q
    gives : word q ≡ w
    to : (e : Dir) → coord e q.dir (suc q.along) q.across ≡ coord e d s t

  -- a settled edge is after its best word, and as run where that gives it
  settle_word : (o : Owner) (d : Dir) (s t : ℕ) (b : Bool) → eqb (T d run (suc s) t) (T d best (suc s) t) ≡ b
      → T d (settle o b) (suc s) t ≡ T d best (suc s) t
  settle_word none d s t b e = refl
  settle_word (same k) d s t b e = refl
  settle_word (cross k) d s t true e = eqb-true _ _ e
  settle_word (cross k) d s t false e = refl

  -- so where it is after its best word that does not give it
  settle_best : (o : Owner) (k : ℕ) (b : Bool) → o ≡ cross k → settle o b ≡ best → b ≡ false
  settle_best none k b e h = cc
  settle_best (same j) k b e h = cc
  settle_best (cross j) k true e h = cc
  settle_best (cross j) k false e h = refl

  module _ (E : Exact I T) where
    -- ---- the edge before

    -- the vertex (s, t) is not the first point, and w is the best word of the edge along d that leads to it
    reached : (n : ℕ) (d : Dir) (s t w : ℕ) → s + t ≡ suc n → s ≤ I.size d → t ≤ I.size (other d) → 0 < w → T d best s t ≡ w
        → Reached n d s t (settled I T d (pred s) t) w
    unfolding settled
    reached n d zero t w h x y z e = absurd (omega (arith, E.no_edge d best t y))
    reached n d (suc s) t w h x y z e =
        record {
          ready = record {
            left = omega arith;
            inside = omega arith;
            some = omega (arith, settle_word (owner I d s t) d s t _ refl);
            slack = λ k o f. eqb-false _ _ (settle_best (owner I d s t) k _ o f);
          };
          gives = settle_word (owner I d s t) d s t _ refl ∙ e;
          to = λ c. refl;
        }

    -- the same, read along the other direction
    turned : (n : ℕ) (d : Dir) (s t : ℕ) (q : State) (w : ℕ) → Reached n (other d) t s q w → Reached n d s t q w
    turned n d s t q w r = record { ready = r.ready; gives = r.gives; to = λ e. r.to e ∙ coord_turn e d s t }

    -- an edge that comes to (s, t) with the best word w, along d or across
    come_reached : (b : Bool) (n : ℕ) (d : Dir) (s t w : ℕ) → s + t ≡ suc n → s ≤ I.size d → t ≤ I.size (other d) → 0 < w
        → (b ≡ true → T d best s t ≡ w) → (b ≡ false → T (other d) best t s ≡ w) → Reached n d s t (come I T b d s t) w
    unfolding come
    come_reached true n d s t w h x y z e f = reached n d s t w h x y z (e refl)
    come_reached false n hor s t w h x y z e f = turned n hor s t _ w (reached n ver t s w (omega arith) y x z (f refl))
    come_reached false n ver s t w h x y z e f = turned n ver s t _ w (reached n hor t s w (omega arith) y x z (f refl))

    -- the edge with the larger best word has the vertex's best word
    best_reached : (n : ℕ) (d : Dir) (s t : ℕ) → s + t ≡ suc n → s ≤ I.size d → t ≤ I.size (other d) → 0 < all T d s t
        → Reached n d s t (come_best I T d s t) (all T d s t)
    unfolding come_best
    best_reached n d s t h x y z =
        let m = all_far I T d s t n h in
        come_reached _ n d s t _ h x y z (left_max _ _ _ m) (right_max _ _ _ m)

    -- and without the edges of k, its word without those, and it is no edge of k
    come_apart : (b : Bool) (k n : ℕ) (d : Dir) (s t w : ℕ) → s + t ≡ suc n → Reached n d s t (come I T b d s t) w
        → (b ≡ true → ¬ (arrival I d s t ≡ cross k)) → (b ≡ false → ¬ (arrival I (other d) t s ≡ cross k))
        → ¬ (owner_of I T (come I T b d s t) ≡ cross k)
    unfolding come settled
    come_apart true k n d zero t w h r e f o = omega (arith, r.ready.left)
    come_apart true k n d (suc s) t w h r e f o = e refl o
    come_apart false k n d s zero w h r e f o = omega (arith, r.ready.left)
    come_apart false k n d s (suc t) w h r e f o = f refl o

    -- so it is reached
    from_reached : (k n : ℕ) (d : Dir) (s t : ℕ) → s + t ≡ suc n → s ≤ I.size d → t ≤ I.size (other d) → 0 < from I T k d s t
        → Reached n d s t (come_from I T k d s t) (from I T k d s t) × ¬ (owner_of I T (come_from I T k d s t) ≡ cross k)
    unfolding come_from
    from_reached k n d s t h x y z =
        let m = from_far I T k d s t n h in
        let l : (leb (unless (arrival I (other d) t s) k (T (other d) best t s)) (unless (arrival I d s t) k (T d best s t)) ≡ true)
        → (T d best s t ≡ from I T k d s t) × ¬ (arrival I d s t ≡ cross k)
        = λ e. unless_is _ k _ _ z (left_max _ _ _ m e) in
        let r : (leb (unless (arrival I (other d) t s) k (T (other d) best t s)) (unless (arrival I d s t) k (T d best s t)) ≡ false)
        → (T (other d) best t s ≡ from I T k d s t) × ¬ (arrival I (other d) t s ≡ cross k)
        = λ e. unless_is _ k _ _ z (right_max _ _ _ m e) in
        let c = come_reached _ n d s t _ h x y z (λ e. (l e).0) (λ e. (r e).0) in
        (c, come_apart _ k n d s t _ h c (λ e. (l e).1) (λ e. (r e).1))

    -- where a state's word comes from: the state before, and the length g that its edge shares
    data Source (q : State) : State → ℕ → Type 0 where
      whole : {g : ℕ} → 0 < all T q.dir q.along q.across → word q ≡ all T q.dir q.along q.across + g → q.flag ≡ best
          → Source q (come_best I T q.dir q.along q.across) g
      starts : {g k : ℕ} → owner_of I T q ≡ cross k → 0 < from I T k q.dir q.along q.across
          → word q ≡ from I T k q.dir q.along q.across + g → Source q (come_from I T k q.dir q.along q.across) g
      goes : {g k : ℕ} → owner_of I T q ≡ cross k → arrival I q.dir q.along q.across ≡ cross k → 0 < T q.dir run q.along q.across
          → word q ≡ T q.dir run q.along q.across + g
          → Source q (record { dir = q.dir; flag = run; along = pred q.along; across = q.across }) g

    -- every word comes from one of these, by the rule for its edge's owner
    source : (n : ℕ) (q : State) → Ready n q → Source q (next I T q) (takes q)
    unfolding next next_by next_run begins
    source n q r = go (owner_of I T q) q.flag refl refl
      where
        d : Dir
        d = q.dir

        s : ℕ
        s = q.along

        t : ℕ
        t = q.across

        l : ℕ
        l = I.len d s

        w : (f : Flag) → q.flag ≡ f → word q ≡ T d f (suc s) t
        w f e = rw e

        top : (o : Owner) → owner_of I T q ≡ o → T d best (suc s) t ≡ best_of o (all T d s t) (T d run (suc s) t) l
        top o e = rw e at (E.best_is d s t r.inside)

        runs : (o : Owner) → owner_of I T q ≡ o → T d run (suc s) t ≡ run_word o (λ k. from I T k d s t) (λ k. only (arrival I d s t) k (T d run s t)) l
        runs o e = rw e at (E.run_is d s t r.inside)

        stretch : (k : ℕ) → owner_of I T q ≡ cross k → q.flag ≡ run → (b : Bool) → begins I T k q ≡ b → Source q (next_run I T b k q) l
        stretch k o f true b =
            let x = and_split _ _ b in
            starts o (ltb-true 0 (from I T k d s t) x.0) (w run f ∙ sym (eqb-true _ _ x.1))
        stretch k o f false b =
            let no : ¬ (plus (from I T k d s t) l ≡ T d run (suc s) t)
            = λ e. let x = plus_is (from I T k d s t) l (omega (arith, r.some, w run f)) in not_begun _ l _ b x.0 (sym x.1 ∙ e) in
            let p = plus_is (only (arrival I d s t) k (T d run s t)) l (omega (arith, runs (cross k) o, no, r.some, w run f)) in
            let u = only_is (arrival I d s t) k (T d run s t) p.0 in
            let e : word q ≡ T d run s t + l = omega (arith, w run f, runs (cross k) o, no, p.1, u.0) in
            goes o u.1 (omega (arith, p.0, u.0)) e

        go : (o : Owner) (f : Flag) → owner_of I T q ≡ o → q.flag ≡ f → Source q (next_by I T o f q) (length_if (share_of o f) l)
        go none best o f = whole {g = 0} (omega (arith, r.some, w best f, top none o)) (omega (arith, w best f, top none o)) f
        go none run o f = absurd (omega (arith, r.some, w run f, runs none o))
        go (same k) best o f =
            let p = plus_is (all T d s t) l (omega (arith, r.some, w best f, top (same k) o)) in
            whole {g = l} p.0 (omega (arith, w best f, top (same k) o, p.1)) f
        go (same k) run o f = absurd (omega (arith, r.some, w run f, runs (same k) o))
        go (cross k) best o f =
            let e : word q ≡ all T d s t = omega (arith, w best f, top (cross k) o, r.slack k o f) in
            whole {g = 0} (omega (arith, r.some)) (omega arith) f
        go (cross k) run o f = stretch k o f (begins I T k q) refl

    -- One move back: the word is that of the state before, and what this edge shares.
    record Advance (n : ℕ) (q r : State) (g : ℕ) : Type 0 where
      reach : Reached n q.dir q.along q.across r (word r)
      gain : word q ≡ word r + g
      before : (k : ℕ) → owner_of I T q ≡ cross k → share_of (owner_of I T q) q.flag ≡ with k → Before k (here I T q) (here I T r) (owner_of I T r)

    -- by the three cases of its source
    advance : (n : ℕ) (q r : State) (g : ℕ) → Ready (suc n) q → Source q r g → Advance n q r g
    advance n q r g y (whole z e f) =
        let c = best_reached n q.dir q.along q.across y.left (omega (arith, y.inside)) y.inside.across z in
        record {
          reach = record { ready = c.ready; gives = refl; to = c.to };
          gain = omega (arith, c.gives);
          before = λ k o h. absurd (not_best (owner_of I T q) k o (rw f at h));
        }
    advance n q r g y (starts {k = k} o z e) =
        let c = from_reached k n q.dir q.along q.across y.left (omega (arith, y.inside)) y.inside.across z in
        record {
          reach = record { ready = c.0.ready; gives = refl; to = c.0.to };
          gain = omega (arith, c.0.gives);
          before = λ j o' h. begun (let x : j ≡ k = cc in rw x c.1);
        }
    advance n q r g y (goes {k = k} o a z e) =
        let p = arrival_after I q.dir q.along q.across k a in
        let w : T q.dir run (suc (pred q.along)) q.across ≡ T q.dir run q.along q.across = rw p.0 in
        record {
          reach = record {
            ready = record {
              left = omega (arith, y.left, p.0);
              inside = omega (arith, y.inside, p.0);
              some = omega arith;
              slack = λ j o' h. absurd (let x : ◌≡◌ {A = ℕ} 0 1 = cc in omega arith);
            };
            gives = refl;
            to = λ c. ap (λ x. coord c q.dir x q.across) p.0;
          };
          gain = omega arith;
          before = λ j o' h. goes_on refl (let x : j ≡ k = cc in rw (p.1, x));
        }

    -- ---- the first point

    -- the words at the first point are 1
    all_start : (d : Dir) (s t : ℕ) → s + t ≡ 0 → all T d s t ≡ 1
    unfolding all
    all_start d zero zero h = omega (arith, E.no_edge d best 0 (omega arith), E.no_edge (other d) best 0 (omega arith))
    all_start d zero (suc t) h = absurd (omega arith)
    all_start d (suc s) t h = absurd (omega arith)

    -- without the edges of k
    from_start : (k : ℕ) (d : Dir) (s t : ℕ) → s + t ≡ 0 → from I T k d s t ≡ 1
    unfolding from unless
    from_start k d zero zero h = omega (arith, E.no_edge d best 0 (omega arith), E.no_edge (other d) best 0 (omega arith))
    from_start k d zero (suc t) h = absurd (omega arith)
    from_start k d (suc s) t h = absurd (omega arith)

    -- an edge from the first point has the word 1 and what it shares
    first : (q r : State) (g : ℕ) → Ready 0 q → Source q r g → 1 + g ≡ word q
    first q r g y (whole z e f) = omega (arith, all_start q.dir q.along q.across y.left)
    first q r g y (starts {k = k} o z e) = omega (arith, from_start k q.dir q.along q.across y.left)
    first q r g y (goes {k = k} o a z e) = absurd (omega (arith, y.left, arrival_after I q.dir q.along q.across k a))

    -- ---- the walk

    -- it leads to the vertex (s, t), read along d, and shares w less one
    record Good (d : Dir) (s t w : ℕ) (p : List Move) : Type 0 where
      leads : (e : Dir) → moved e p ≡ coord e d s t
      shares : sharing I p + 1 ≡ w
      kept : Kept I p

    -- the moves p before the edge of q
    record Rest (q : State) (p : List Move) : Type 0 where
      leads : (e : Dir) → moved e p ≡ coord e q.dir q.along q.across
      shares : sharing I p + 1 + takes q ≡ word q
      kept : Kept I p
      link : Linked I (here I T q) p

    -- one more step leads one line further
    steps_coord : (e d : Dir) (p : List Dir) (s t : ℕ) → ((c : Dir) → steps c p ≡ coord c d s t) → steps e (d ∷ p) ≡ coord e d (suc s) t
    unfolding steps
    steps_coord hor hor p s t h = ap suc (h hor)
    steps_coord hor ver p s t h = h hor
    steps_coord ver hor p s t h = h ver
    steps_coord ver ver p s t h = ap suc (h ver)

    -- a state's share suits its edge's owner
    suits : (o : Owner) (f : Flag) → Suits o (share_of o f)
    suits none f = free
    suits (same k) f = joined
    suits (cross k) best = Suits.left
    suits (cross k) run = ran

    -- so their owner is the state's
    rest_owned : (q : State) (p : List Move) → ((e : Dir) → moved e p ≡ coord e q.dir q.along q.across) → owned I (here I T q) p ≡ owner_of I T q
    rest_owned q p h =
        let c = coord_along q.dir q.along q.across in
        rw (h q.dir, h (other q.dir), c.0, c.1) refl

    -- the moves before an edge, and the edge
    cover : (q : State) (p : List Move) → Rest q p → Good q.dir (suc q.along) q.across (word q) (here I T q ∷ p)
    unfolding sharing
    cover q p r =
        record {
          leads = λ e. steps_coord e q.dir (dirs p) q.along q.across r.leads;
          shares = omega (
            arith,
            r.shares,
            ap (λ n. length_if (here I T q).share (I.len q.dir n)) (r.leads q.dir ∙ (coord_along q.dir q.along q.across).0),
          );
          kept = (rw (rest_owned q p r.leads) (suits (owner_of I T q) q.flag), r.link, r.kept);
        }

    -- the moves that the trace finds before the edge of q
    rest : (n : ℕ) (q : State) → Ready n q → Rest q (back I T n (next I T q))
    unfolding back sharing steps
    rest zero q r =
        record {
          leads = λ e. coord_zero e q.dir q.along q.across r.left;
          shares = omega (arith, first q (next I T q) (takes q) r (source 0 q r));
          kept = tt;
          link = tt;
        }
    rest (suc n) q r =
        let a = advance n q (next I T q) (takes q) r (source (suc n) q r) in
        let p = back I T n (next I T (next I T q)) in
        let i = rest n (next I T q) a.reach.ready in
        let c = cover (next I T q) p i in
        let l : (e : Dir) → moved e (here I T (next I T q) ∷ p) ≡ coord e q.dir q.along q.across = λ e. c.leads e ∙ a.reach.to e in
        record {
          leads = l;
          shares = omega (arith, c.shares, a.gain);
          kept = c.kept;
          link = λ k o h.
              rw (rest_owned (next I T q) p i.leads)
              (a.before k (sym (rest_owned q (here I T (next I T q) ∷ p) l) ∙ o) h);
        }

    -- every vertex is reached
    pub all_pos : (a b : ℕ) → a ≤ I.size hor → b ≤ I.size ver → 0 < all T hor a b
    unfolding all
    all_pos zero zero x y = omega arith
    all_pos zero (suc b) x y =
        let i : Inside I ver b 0 = omega arith in
        let z : all T ver b 0 ≡ all T hor 0 b = all_turn I T ver b 0 in
        omega (arith, E.best_is ver b 0 i, best_of_pos (owner I ver b 0) (all T ver b 0) (T ver run (suc b) 0) (I.len ver b) (omega (arith, all_pos zero b x (omega arith))))
    all_pos (suc a) b x y =
        let i : Inside I hor a b = omega arith in
        omega (arith, E.best_is hor a b i, best_of_pos (owner I hor a b) (all T hor a b) (T hor run (suc a) b) (I.len hor a) (all_pos a b (omega arith) y))

    -- the edge of the last move
    last : (n : ℕ) → I.size hor + I.size ver ≡ suc n
        → Reached n hor (I.size hor) (I.size ver) (come_best I T hor (I.size hor) (I.size ver)) (all T hor (I.size hor) (I.size ver))
    last n e =
        best_reached n hor (I.size hor) (I.size ver) e (omega arith) (omega arith) (all_pos (I.size hor) (I.size ver) (omega arith) (omega arith))

    -- T5, the centre: the traced moves lead from its first point to its second, and share what the table says, less one.
    pub traced : Traced I T (trace I T)
    unfolding trace back steps sharing
    traced = go (I.size hor + I.size ver) refl
      where
        q : State
        q = come_best I T hor (I.size hor) (I.size ver)

        goal : (p : List Move) → Good hor (I.size hor) (I.size ver) (all T hor (I.size hor) (I.size ver)) p → Traced I T (reverse p)
        goal p g =
            record {
              leads = λ d. moved_reverse d p ∙ g.leads d ∙ end d;
              shares = rw reverse-reverse g.shares;
              kept = rw reverse-reverse g.kept;
            }
          where
            end : (d : Dir) → coord d hor (I.size hor) (I.size ver) ≡ I.size d
            end hor = refl
            end ver = refl

        go : (n : ℕ) → I.size hor + I.size ver ≡ n → Traced I T (reverse (back I T n q))
        go zero e =
            goal [] (record {
              leads = λ c. coord_zero c hor (I.size hor) (I.size ver) e;
              shares = omega (arith, all_start hor (I.size hor) (I.size ver) e);
              kept = tt;
            })
        go (suc n) e =
            let r = last n e in
            let c = cover q (back I T n (next I T q)) (rest n q r.ready) in
            goal (here I T q ∷ back I T n (next I T q)) (record { leads = λ d. c.leads d ∙ r.to d; shares = c.shares ∙ r.gives; kept = c.kept })

    -- ---- for a loop that finds the moves from the last one back

    -- the edge of the last move is in the centre's box, with n moves before it
    pub last_ready : (n : ℕ) → I.size hor + I.size ver ≡ suc n → Ready n (come_best I T hor (I.size hor) (I.size ver))
    last_ready n e = (last n e).ready

    -- one move back, one move fewer is left
    pub next_ready : (n : ℕ) (q : State) → Ready (suc n) q → Ready n (next I T q)
    next_ready n q r = (advance n q (next I T q) (takes q) r (source (suc n) q r)).reach.ready
