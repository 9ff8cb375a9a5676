-- T4: no walk shares more than the table says, whichever one direction is shared with each cross leaf.
--
-- The invariant of a walk that is at a vertex u with the gain g: g is below the table's best word at u; and for each cross leaf k, either g is
-- below `from k` at u, or the walk came into k's box at a vertex p before u, with a gain c below `from k` at p, and has gained no more since than
-- what lies between p and u along k's direction m. In the second case the table has a walk that is as good: from p straight along m, collecting
-- every edge as `run`, and then across to u, keeping `best` (`detour`). It ends with an edge of k, so its word counts for `best` at u and for
-- `from j` at u for every other leaf j. So the first straight stretch in a box is enough, and no step is ever exchanged.
use mathlib.Core.Path.{◌≡◌, refl}
use mathlib.Core.Logic.{◌⊎◌, inl, inr}
use mathlib.Core.Bool.{true}
use mathlib.Core.List.{List, [], ◌∷◌}
use Prim.Native.Nat.{ℕ, zero, suc, ◌+◌, ◌≤◌, ◌<◌}
use native.Mathlib.Omega.{arith}
use native.Mathlib.Nat.{eq-or-lt_of_le}
use native.Mathlib.Decide.{le_ind, ℕ_discrete}
use Rattle.network.specs.Steps.{Dir, hor, ver, other, steps}
use Rattle.network.proofs.Drawn.{step_sum}
use Rattle.sharing.specs.Box.{lo, hi, falls}
use Rattle.sharing.specs.Instance.{Instance, Inside, Owner, none, same, cross, owner}
use Rattle.sharing.specs.Table.{best, run, Table, all, unless, from, Exact}
use Rattle.sharing.proofs.Steps.{coord}
use Rattle.sharing.proofs.Table.{unless_other, only_own, plus_pos, all_turn, from_turn, from_all, best_all, best_from}
use Rattle.sharing.proofs.Owners.{EdgeIn, Separate, cross_in, cross_is}

-- ---- what a walk is worth

-- the length l of an edge along d, if m is d
abbrev pub pick : Dir → Dir → ℕ → ℕ
pick hor hor l = l
pick hor ver l = 0
pick ver hor l = 0
pick ver ver l = l

-- what an edge along d can share, where edges along `mode k` are shared with the cross leaf k
unfoldable pub worth : (ℕ → Dir) → Dir → Owner → ℕ → ℕ
worth mode d none l = 0
worth mode d (same k) l = l
worth mode d (cross k) l = pick d (mode k) l

-- ---- the table along a stretch

-- the vertex (s, t), read along d, is one of the centre's box and of the box of k
record Spot (I : Instance) (d : Dir) (k s t : ℕ) : Type 0 where
  low : lo (I.leaf k) d ≤ I.start d + s
  high : I.start d + s ≤ hi (I.leaf k) d
  low' : lo (I.leaf k) (other d) ≤ I.start (other d) + t
  high' : I.start (other d) + t ≤ hi (I.leaf k) (other d)
  fits : s ≤ I.size d
  fits' : t ≤ I.size (other d)

-- the same vertex, read along the other direction
turn_spot : {I : Instance} {d : Dir} {k s t : ℕ} → Spot I d k s t → Spot I (other d) k t s
turn_spot {d = hor} g = omega arith
turn_spot {d = ver} g = omega arith

-- n is gained by a walk that ends with an edge of k: it counts for the edges of any other owner
record Good (I : Instance) (T : Table) (d : Dir) (k s t n : ℕ) : Type 0 where
  whole : n ≤ all T d s t
  but : (j : ℕ) → ¬ (j ≡ k) → n ≤ from I T j d s t

-- the same, read along the other direction
turn_good : {I : Instance} {T : Table} {d : Dir} {k s t n : ℕ} → Good I T d k s t n → Good I T (other d) k t s n
turn_good {I} {T} {d} {s = s} {t = t} g =
    record { whole = omega (arith, g.whole, all_turn I T d s t); but = λ j h. omega (arith, g.but j h, from_turn I T j d s t) }

-- and back
back_good : {I : Instance} {T : Table} (d : Dir) {k s t n : ℕ} → Good I T (other d) k t s n → Good I T d k s t n
back_good hor g = turn_good g
back_good ver g = turn_good g

-- the length of the edges along d before line s
pos : Instance → Dir → ℕ → ℕ
pos I d zero = 0
pos I d (suc s) = pos I d s + I.len d s

-- k's box was entered at (s₀, t₀) with c, and g at (s, t) is no more than c and what lies between along m
record Span (I : Instance) (T : Table) (m : Dir) (k s₀ t₀ c s t g : ℕ) : Type 0 where
  first : Spot I m k s₀ t₀
  last : Spot I m k s t
  right : s₀ ≤ s
  up : t₀ ≤ t
  moved : s₀ + t₀ < s + t
  start : c < from I T k m s₀ t₀
  enough : g + pos I m s₀ ≤ c + pos I m s

data Reach (I : Instance) (T : Table) (m : Dir) (k s t g : ℕ) : Type 0 where
  here : g < from I T k m s t → Reach I T m k s t g
  since : {s₀ t₀ c : ℕ} → Span I T m k s₀ t₀ c s t g → Reach I T m k s t g

module _ (I : Instance) (T : Table) (S : Separate I) (E : Exact I T) where
  -- the rules, as inequalities
  cross_best : (d : Dir) (k s t : ℕ) → Inside I d s t → owner I d s t ≡ cross k
      → (all T d s t ≤ T d best (suc s) t) × (T d run (suc s) t ≤ T d best (suc s) t)
  cross_best d k s t i e = omega (arith, rw e at (E.best_is d s t i))

  -- a stretch with a cross leaf begins
  cross_new : (d : Dir) (k s t : ℕ) → Inside I d s t → owner I d s t ≡ cross k → 0 < from I T k d s t
      → from I T k d s t + I.len d s ≤ T d run (suc s) t
  cross_new d k s t i e h = omega (arith, rw e at (E.run_is d s t i), plus_pos (from I T k d s t) (I.len d s) h)

  -- and goes on
  cross_on : (d : Dir) (k s t : ℕ) → Inside I d (suc s) t → owner I d s t ≡ cross k → owner I d (suc s) t ≡ cross k → 0 < T d run (suc s) t
      → T d run (suc s) t + I.len d (suc s) ≤ T d run (suc (suc s)) t
  cross_on d k s t i e e' h =
      omega (
        arith,
        rw (only_own _ k (T d run (suc s) t) e) at (rw e' at (E.run_is d (suc s) t i)),
        plus_pos (T d run (suc s) t) (I.len d (suc s)) h,
      )

  -- what an edge of k holds is gained where it ends
  arrived : {d : Dir} {k s t n : ℕ} → owner I d s t ≡ cross k → n ≤ T d best (suc s) t → Good I T d k (suc s) t n
  arrived {d} {k} {s} {t} e h =
      record {
        whole = omega (arith, best_all I T d (suc s) t);
        but = λ j q. omega (arith, best_from I T j d s t, unless_other (owner I d s t) j k (T d best (suc s) t) e q);
      }

  -- by one edge of k along d, and by several, with nothing collected
  pass : {d : Dir} {k s t n : ℕ} → falls (I.leaf k) ≡ true → Spot I d k s t → Spot I d k (suc s) t → n ≤ all T d s t → Good I T d k (suc s) t n
  pass {d} {k} {s} {t} c u v h =
      let o = cross_is I d s t S k c (omega arith) in
      arrived o (omega (arith, cross_best d k s t (omega arith) o))

  -- by several edges
  passes : {d : Dir} {k s₀ s t n : ℕ} → falls (I.leaf k) ≡ true → Spot I d k s₀ t → Spot I d k s t → s₀ ≤ s → Good I T d k s₀ t n → Good I T d k s t n
  passes {d} {k} {s₀} {s} {t} {n} c u v h g = le_ind (λ x. x ≤ s → Good I T d k x t n) (λ _. g) more s h (omega arith)
    where
      more : (x : ℕ) → s₀ ≤ x → (x ≤ s → Good I T d k x t n) → suc x ≤ s → Good I T d k (suc x) t n
      more x l ih b = pass c (omega arith) (omega arith) (ih (omega arith)).whole

  -- by edges of k along d, all collected
  run_on : (d : Dir) (k s₀ s t c : ℕ) → falls (I.leaf k) ≡ true → Spot I d k s₀ t → Spot I d k (suc s) t → s₀ ≤ s → c < from I T k d s₀ t
      → c + pos I d (suc s) < T d run (suc s) t + pos I d s₀
  unfolding pos
  run_on d k s₀ s t c x u v h f = (le_ind At (λ _. first) more s h (omega arith)).1
    where
      At : ℕ → Type 0
      At z = z ≤ s → (0 < T d run (suc z) t) × (c + pos I d (suc z) < T d run (suc z) t + pos I d s₀)

      mine : (z : ℕ) → s₀ ≤ z → z ≤ s → owner I d z t ≡ cross k
      mine z l b = cross_is I d z t S k x (omega arith)

      first : (0 < T d run (suc s₀) t) × (c + pos I d (suc s₀) < T d run (suc s₀) t + pos I d s₀)
      first = omega (arith, cross_new d k s₀ t (omega arith) (mine s₀ (omega arith) h) (omega arith))

      more : (z : ℕ) → s₀ ≤ z → At z → At (suc z)
      more z l ih b =
          let i = ih (omega arith) in
          omega (arith, i, cross_on d k z t (omega arith) (mine z l (omega arith)) (mine (suc z) (omega arith) b) i.0)

  -- From (s₀, t₀) straight along d, collecting, and then across: by an edge of k to (s, t). If nothing lies along d, across at once.
  detour : {d : Dir} {k s₀ t₀ c s t g : ℕ} → falls (I.leaf k) ≡ true → Span I T d k s₀ t₀ c s t g → Good I T d k s t (suc g)
  detour {d} {k} {s₀} {t₀} {c} {s} {t} {g} x r = go s (eq-or-lt_of_le r.right) r
    where
      go : (s : ℕ) → (s₀ ≡ s) ⊎ (s₀ < s) → Span I T d k s₀ t₀ c s t g → Good I T d k s t (suc g)
      go s (inl q) r =
          let u : Spot I d k s t₀ = omega arith in
          let v : Spot I d k s (suc t₀) = omega arith in
          back_good d (passes x (turn_spot v) (turn_spot r.last) (omega arith) (pass x (turn_spot u) (turn_spot v)
          (omega (arith, rw q at (from_all I T k d s₀ t₀), rw q at r.start, rw q at r.enough, all_turn I T d s t₀))))
      go zero (inr q) r = omega arith
      go (suc s) (inr q) r =
          let u : Spot I d k (suc s) t₀ = omega arith in
          let o = cross_is I d s t₀ S k x (omega arith) in
          back_good d (passes x (turn_spot u) (turn_spot r.last) r.up (turn_good (arrived o
          (omega (arith, run_on d k s₀ s t₀ c x r.first u (omega arith) r.start, cross_best d k s t₀ (omega arith) o)))))

  module _ (mode : ℕ → Dir) where
    -- ---- the invariant

    -- the second part of the invariant, for a vertex that is read along d and a leaf that is shared along m
    abbrev ReachAt : Dir → ℕ → ℕ → ℕ → Dir → ℕ → Type 0
    ReachAt hor s t g hor k = Reach I T hor k s t g
    ReachAt hor s t g ver k = Reach I T ver k t s g
    ReachAt ver s t g hor k = Reach I T hor k t s g
    ReachAt ver s t g ver k = Reach I T ver k s t g

    -- a walk with the gain g is at the vertex (s, t), read along d
    record Inv (d : Dir) (s t g : ℕ) : Type 0 where
      below : g < all T d s t
      reach : (k : ℕ) → ReachAt d s t g (mode k) k

    -- read along the other direction
    turn_inv : (d : Dir) (s t g : ℕ) → Inv (other d) t s g → Inv d s t g
    turn_inv d s t g v = record { below = omega (arith, v.below, all_turn I T d s t); reach = λ k. go d (mode k) k (v.reach k) }
      where
        go : (d m : Dir) (k : ℕ) → ReachAt (other d) t s g m k → ReachAt d s t g m k
        go hor hor k r = r
        go hor ver k r = r
        go ver hor k r = r
        go ver ver k r = r

    -- the two cases of the invariant, wherever the vertex is read
    here_at : (d m : Dir) (k s t g : ℕ) → g < from I T k d s t → ReachAt d s t g m k
    here_at hor hor k s t g h = here h
    here_at hor ver k s t g h = here (omega (arith, from_turn I T k hor s t))
    here_at ver hor k s t g h = here (omega (arith, from_turn I T k ver s t))
    here_at ver ver k s t g h = here h

    -- since the walk entered the box
    since_at : {m : Dir} {k s₀ t₀ c s t g : ℕ} → Span I T m k s₀ t₀ c s t g → ReachAt m s t g m k
    since_at {m = hor} r = since r
    since_at {m = ver} r = since r

    -- by an edge with no cross owner
    fresh : (d : Dir) (s t g : ℕ) → ((k : ℕ) → unless (owner I d s t) k (T d best (suc s) t) ≡ T d best (suc s) t)
        → g < T d best (suc s) t → Inv d (suc s) t g
    fresh d s t g u h =
        record {
          below = omega (arith, best_all I T d (suc s) t);
          reach = λ k. here_at d (mode k) k (suc s) t g (omega (arith, best_from I T k d s t, u k));
        }

    -- inside the box of k
    within : {m : Dir} {k s₀ t₀ c s t g : ℕ} → falls (I.leaf k) ≡ true → mode k ≡ m → Span I T m k s₀ t₀ c s t g → Inv m s t g
    within {m} {k} {s = s} {t = t} {g = g} x e r = record { below = way.whole; reach = λ j. go j (ℕ_discrete j k) }
      where
        way : Good I T m k s t (suc g)
        way = detour x r

        go : (j : ℕ) → Dec (j ≡ k) → ReachAt m s t g (mode j) j
        go j (yes q) = rw (q, e) (since_at r)
        go j (no q) = here_at m (mode j) j s t g (way.but j q)

    -- by an edge of k along its mode, and across it
    along : (m : Dir) (k s t g : ℕ) → falls (I.leaf k) ≡ true → EdgeIn I m k s t → Inside I m s t → mode k ≡ m
        → Reach I T m k s t g → Inv m (suc s) t (g + I.len m s)
    unfolding pos
    along m k s t g x i b e (here h) = within {s₀ = s} {t₀ = t} {c = g} x e (omega arith)
    along m k s t g x i b e (since {s₀} {t₀} {c} r) = within {s₀ = s₀} {t₀ = t₀} {c = c} x e (omega arith)

    -- across its mode
    across : (m : Dir) (k s t g : ℕ) → falls (I.leaf k) ≡ true → Spot I m k s t → Spot I m k s (suc t) → mode k ≡ m
        → Reach I T m k s t g → Inv m s (suc t) (g + 0)
    across m k s t g x u v e (here h) = within {s₀ = s} {t₀ = t} {c = g} x e (omega arith)
    across m k s t g x u v e (since {s₀} {t₀} {c} r) = within {s₀ = s₀} {t₀ = t₀} {c = c} x e (omega arith)

    -- by an edge of a cross leaf, whatever the leaf's mode
    step_cross : (d m : Dir) (k s t g : ℕ) → falls (I.leaf k) ≡ true → EdgeIn I d k s t → Inside I d s t → mode k ≡ m
        → ReachAt d s t g m k → Inv d (suc s) t (g + pick d m (I.len d s))
    step_cross hor hor k s t g x i b e r = along hor k s t g x i b e r
    step_cross ver ver k s t g x i b e r = along ver k s t g x i b e r
    step_cross hor ver k s t g x i b e r = turn_inv hor (suc s) t (g + 0) (across ver k t s g x (omega arith) (omega arith) e r)
    step_cross ver hor k s t g x i b e r = turn_inv ver (suc s) t (g + 0) (across hor k t s g x (omega arith) (omega arith) e r)

    -- by any edge: the invariant holds on
    step : (d : Dir) (s t g : ℕ) → Inside I d s t → Inv d s t g → Inv d (suc s) t (g + worth mode d (owner I d s t) (I.len d s))
    unfolding worth unless
    step d s t g i v = go (owner I d s t) refl
      where
        go : (o : Owner) → owner I d s t ≡ o → Inv d (suc s) t (g + worth mode d o (I.len d s))
        go none e = fresh d s t (g + 0) (λ k. rw e) (omega (arith, v.below, rw e at (E.best_is d s t i)))
        go (same k) e =
            fresh d s t (g + I.len d s) (λ j. rw e)
            (omega (arith, v.below, rw e at (E.best_is d s t i), plus_pos (all T d s t) (I.len d s) (omega (arith, v.below))))
        go (cross k) e = let f = cross_in I d s t k e in step_cross d (mode k) k s t g f.0 f.1 i refl (v.reach k)

    -- it holds at the first point
    start : Inv hor 0 0 0
    unfolding all from
    start = record { below = omega arith; reach = λ k. here_at hor (mode k) k 0 0 0 (omega arith) }

    -- w counts no more for the edge along d from column i and row j than it is worth
    module _ (w : Dir → ℕ → ℕ → ℕ) (le : (d : Dir) (i j : ℕ) → Inside I d (coord d hor i j) (coord (other d) hor i j)
        → w d i j ≤ worth mode d (owner I d (coord d hor i j) (coord (other d) hor i j)) (I.len d (coord d hor i j))) where
      walk : (p : List Dir) (i j g x : ℕ) → x ≤ g → Inv hor i j g → i + steps hor p ≡ I.size hor → j + steps ver p ≡ I.size ver
          → x + step_sum w i j p < all T hor (I.size hor) (I.size ver)
      unfolding steps
      walk [] i j g x h v e f =
          let a : i ≡ I.size hor = omega arith in
          let b : j ≡ I.size ver = omega arith in
          omega (arith, rw (a, b) at v.below)
      walk (hor ∷ p) i j g x h v e f =
          let a : Inside I hor i j = omega arith in
          omega (arith, walk p (suc i) j _ (x + w hor i j) (omega (arith, le hor i j a)) (step hor i j g a v) (omega arith) (omega arith))
      walk (ver ∷ p) i j g x h v e f =
          let a : Inside I ver j i = omega arith in
          omega (
            arith,
            walk p i (suc j) _ (x + w ver i j) (omega (arith, le ver i j a))
                (turn_inv hor i (suc j) _ (step ver j i g a (turn_inv ver j i g v))) (omega arith) (omega arith),
          )

      -- T4: on a path from the centre's first point to its second w counts no more than the table says
      pub bounded : (p : List Dir) → steps hor p ≡ I.size hor → steps ver p ≡ I.size ver → step_sum w 0 0 p < all T hor (I.size hor) (I.size ver)
      bounded p e f = omega (arith, walk p 0 0 0 0 (omega arith) start (omega arith) (omega arith))
