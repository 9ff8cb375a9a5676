-- The moves that a traced walk shares with a leaf are consecutive, lie in the leaf's box, and go one way through it.
--
-- A move x shared with k has its edge in k's box. If the edge of the move before it lies in that box too, that move is shared with k as well: with
-- a same leaf every edge in its box is, and with a cross leaf by the rule that links x to the move before it. If not, the walk entered the box where
-- x begins, and nothing earlier can lie in the box, since a walk goes right and up only.
use mathlib.Core.Path.{◌≡◌, refl, sym, ap, ◌∙◌, subst}
use mathlib.Core.Logic.{◌⊎◌, inl, inr}
use mathlib.Core.Bool.{Bool, true, false, ◌&&◌, false≢true, or-true}
use mathlib.Core.List.{List, [], ◌∷◌, ◌++◌}
use Prim.Native.Nat.{ℕ, ◌+◌, ◌≤◌, ◌<◌}
use native.Mathlib.Omega.{arith}
use native.Mathlib.Decide.{ℕ_discrete, dec_lt}
use lib.Dec.{ltb, leb}
use borrow.Author.Tests.{leb-true, leb-false, lt-ltb}
use Rattle.network.specs.Lists.{All}
use Rattle.network.specs.Steps.{Dir, hor, ver, other, steps}
use Rattle.sharing.specs.Box.{Box, lo, hi, falls}
use Rattle.sharing.specs.Instance.{Instance, Owner, same, cross, in_leaf}
use Rattle.sharing.specs.Trace.{Share, alone, with, Move}
use Rattle.sharing.specs.Walk.{dirs, moved, owned, Suits, free, joined, ran, Before, goes_on, begun, Kept}
use Rattle.sharing.specs.Leaf.{forward}
use Rattle.network.proofs.StepCounts.{steps_same, steps_other, steps_le}
use Rattle.sharing.proofs.Owners.{EdgeIn, Separate, lies_in_lem, in_lies, owner_is, cross_in, same_in}

-- ---- which way a run goes through its box

-- where a run that goes to higher numbers begins and ends, and one that goes to lower numbers
pub forth_ends : (b : Box) (d : Dir) → forward b d ≡ true → (lo b d ≡ b.first d) × (hi b d ≡ b.second d)
unfolding forward lo hi
forth_ends b d e = omega (arith, leb-true (b.first d) (b.second d) e)

-- one that goes to lower numbers
pub back_ends : (b : Box) (d : Dir) → forward b d ≡ false → (lo b d ≡ b.second d) × (hi b d ≡ b.first d)
unfolding forward lo hi
back_ends b d e = omega (arith, leb-false (b.first d) (b.second d) e)

-- a run that does not fall, and is not straight, goes the same way along both directions
level_ways : (b : Box) → falls b ≡ false → lo b hor < hi b hor → lo b ver < hi b ver → forward b hor ≡ forward b ver
unfolding falls forward lo hi
level_ways b f h k = go (leb (b.first hor) (b.second hor)) refl (leb (b.first ver) (b.second ver)) refl
  where
    no : falls b ≡ true → ⊥
    no e = false≢true (sym f ∙ e)

    go : (x : Bool) → leb (b.first hor) (b.second hor) ≡ x → (y : Bool) → leb (b.first ver) (b.second ver) ≡ y → x ≡ y
    go true e true d = refl
    go false e false d = refl
    go true e false d =
        let p = leb-true (b.first hor) (b.second hor) e in
        let q = leb-false (b.first ver) (b.second ver) d in
        absurd (no (rw (lt-ltb (b.first hor) (b.second hor) (omega arith), lt-ltb (b.second ver) (b.first ver) (omega arith))))
    go false e true d =
        let p = leb-false (b.first hor) (b.second hor) e in
        let q = leb-true (b.first ver) (b.second ver) d in
        absurd (no (rw (
          lt-ltb (b.second hor) (b.first hor) (omega arith),
          lt-ltb (b.first ver) (b.second ver) (omega arith),
          or-true (ltb (b.first hor) (b.second hor) && ltb (b.second ver) (b.first ver)),
        )))

-- so it does along any two in which it is not straight
same_way : (b : Box) → falls b ≡ false → (d e : Dir) → lo b d < hi b d → lo b e < hi b e → forward b d ≡ forward b e
same_way b f hor hor h k = refl
same_way b f hor ver h k = level_ways b f h k
same_way b f ver hor h k = sym (level_ways b f k h)
same_way b f ver ver h k = refl

-- ---- shares and owners

-- what is shared with k is an edge of k
suits_owner : {o : Owner} {s : Share} {k : ℕ} → Suits o s → s ≡ with k → (o ≡ same k) ⊎ (o ≡ cross k)
suits_owner free e = absurd (let z : ◌≡◌ {A = ℕ} 0 1 = cc in omega arith)
suits_owner joined e = inl (cc)
suits_owner Suits.left e = absurd (let z : ◌≡◌ {A = ℕ} 0 1 = cc in omega arith)
suits_owner ran e = inr (cc)

-- an edge of a same leaf is shared with it
suits_same : {o : Owner} {s : Share} {k : ℕ} → Suits o s → o ≡ same k → s ≡ with k
suits_same free e = cc
suits_same joined e = cc
suits_same Suits.left e = cc
suits_same ran e = cc

-- whether it is shared with k
dec_with : (s : Share) (k : ℕ) → Dec (s ≡ with k)
dec_with alone k = no (λ e. let z : ◌≡◌ {A = ℕ} 0 1 = cc in omega arith)
dec_with (with j) k = go (ℕ_discrete j k)
  where
    go : Dec (j ≡ k) → Dec (with j ≡ with k)
    go (yes e) = yes (ap with e)
    go (no n) = no (λ e. n (cc))

-- ---- stretches

-- the move is shared with k, or is not
abbrev pub Mine : ℕ → Move → Type 0
Mine k x = x.share ≡ with k

abbrev pub Other : ℕ → Move → Type 0
Other k x = ¬ (x.share ≡ with k)

module _ (I : Instance) (k : ℕ) where
  -- the edge of a move x after the walk p lies in the box of k
  abbrev pub MoveIn : Move → List Move → Type 0
  MoveIn x p = EdgeIn I x.dir k (moved x.dir p) (moved (other x.dir) p)

  -- the moves m after the walk p are shared with k, lie in its box, and go the way f through it (as the lists have the last move first, m stands before p)
  abbrev pub Placed : Bool → List Move → List Move → Type 0
  Placed f [] p = Unit {0}
  Placed f (x ∷ m) p = Mine k x × MoveIn x (m ++ p) × (forward (I.leaf k) x.dir ≡ f) × Placed f m p

  -- the moves of a walk that are shared with k: none, or consecutive ones
  pub data Stretch (p : List Move) : Type 0 where
    never : All (Other k) p → Stretch p
    once : (after : List Move) (x : Move) (m before : List Move) (f : Bool) → p ≡ after ++ ((x ∷ m) ++ before)
        → All (Other k) after → Placed f (x ∷ m) before → All (Other k) before → Stretch p

  -- a vertex where an edge of k begins, or ends, lies in its box
  spot_in_lem : (d : Dir) (p : List Move) → EdgeIn I d k (moved d p) (moved (other d) p)
      → (e : Dir) → (lo (I.leaf k) e ≤ I.start e + moved e p) × (I.start e + moved e p ≤ hi (I.leaf k) e)
  spot_in_lem hor p i hor = omega arith
  spot_in_lem hor p i ver = omega arith
  spot_in_lem ver p i hor = omega arith
  spot_in_lem ver p i ver = omega arith

  -- where it ends
  end_in : (x : Move) (p : List Move) → MoveIn x p → (e : Dir) → I.start e + moved e (x ∷ p) ≤ hi (I.leaf k) e
  unfolding steps
  end_in x p i e = go x.dir e i
    where
      go : (d e : Dir) → EdgeIn I d k (moved d p) (moved (other d) p) → I.start e + steps e (d ∷ dirs p) ≤ hi (I.leaf k) e
      go hor hor i = omega arith
      go hor ver i = omega arith
      go ver hor i = omega arith
      go ver ver i = omega arith

  -- a stretch begins and ends in the box
  pub placed_from : (f : Bool) (x : Move) (m p : List Move) → Placed f (x ∷ m) p → (e : Dir) → lo (I.leaf k) e ≤ I.start e + moved e p
  placed_from f x [] p a e = (spot_in_lem x.dir p a.1 e).0
  placed_from f x (y ∷ m) p a e = placed_from f y m p a.3 e

  -- where it ends
  pub placed_upto : (f : Bool) (x : Move) (m p : List Move) → Placed f (x ∷ m) p → (e : Dir) → I.start e + moved e ((x ∷ m) ++ p) ≤ hi (I.leaf k) e
  placed_upto f x m p a e = end_in x (m ++ p) a.1 e

  -- all its moves are shared with k, and the leaf goes one way along each direction in which it goes
  pub placed_mine : (f : Bool) (m p : List Move) → Placed f m p → All (Mine k) m
  placed_mine f [] p a = tt
  placed_mine f (x ∷ m) p a = (a.0, placed_mine f m p a.3)

  -- the leaf goes that way along each of its moves
  pub placed_way : (f : Bool) (m p : List Move) → Placed f m p → All (λ x. forward (I.leaf k) x.dir ≡ f) m
  placed_way f [] p a = tt
  placed_way f (x ∷ m) p a = (a.2, placed_way f m p a.3)

  module _ (S : Separate I) where
    -- a move shared with k has its edge in the box of k
    pub mine_owner : (x : Move) (p : List Move) → Suits (owned I x p) x.share → Mine k x → MoveIn x p
    mine_owner x p s e = go (suits_owner s e)
      where
        go : (owned I x p ≡ same k) ⊎ (owned I x p ≡ cross k) → MoveIn x p
        go (inl o) = (same_in I x.dir _ _ k o).1
        go (inr o) = (cross_in I x.dir _ _ k o).1

    -- a walk that ends before the box begins shares nothing with k
    out_clear : (e : Dir) (p : List Move) → Kept I p → I.start e + moved e p < lo (I.leaf k) e → All (Other k) p
    out_clear e [] q h = tt
    out_clear e (x ∷ p) q h = (
      λ s. omega (arith, spot_in_lem x.dir p (mine_owner x p q.0 s) e, steps_le e x.dir (dirs p)),
      out_clear e p q.2 (omega (arith, steps_le e x.dir (dirs p))),
    )

    -- a move x shared with k after a move y: y is shared with k too and goes the same way through the box, or nothing before x is shared with k
    touch : (x y : Move) (p : List Move) → Kept I (x ∷ y ∷ p) → Mine k x
        → (Mine k y × (forward (I.leaf k) x.dir ≡ forward (I.leaf k) y.dir)) ⊎ All (Other k) (y ∷ p)
    touch x y p q e = go (in_leaf I k y.dir (moved y.dir p) (moved (other y.dir) p)) refl
      where
        here : MoveIn x (y ∷ p)
        here = mine_owner x (y ∷ p) q.0 e

        also : MoveIn y p → (b : Bool) → falls (I.leaf k) ≡ b → Mine k y × (forward (I.leaf k) x.dir ≡ forward (I.leaf k) y.dir)
        also i false f = (
          suits_same q.2.0 (owner_is I y.dir _ _ S k i ∙ rw f),
          same_way (I.leaf k) f x.dir y.dir (omega (arith, here)) (omega (arith, i)),
        )
        also i true f = go (q.1 k (owner_is I x.dir _ _ S k here ∙ rw f) e)
          where
            go : Before k x y (owned I y p) → Mine k y × (forward (I.leaf k) x.dir ≡ forward (I.leaf k) y.dir)
            go (goes_on d s) = (s, ap (forward (I.leaf k)) (sym d))
            go (begun n) = absurd (n (owner_is I y.dir _ _ S k i ∙ rw f))

        go : (b : Bool) → in_leaf I k y.dir (moved y.dir p) (moved (other y.dir) p) ≡ b
            → (Mine k y × (forward (I.leaf k) x.dir ≡ forward (I.leaf k) y.dir)) ⊎ All (Other k) (y ∷ p)
        go true t = inl (also (lies_in_lem (I.leaf k) y.dir _ _ t) (falls (I.leaf k)) refl)
        go false t =
            let not_in : MoveIn y p → ⊥ = λ i. false≢true (sym t ∙ in_lies (I.leaf k) y.dir _ _ i) in
            inr (λ s. not_in (mine_owner y p q.2.0 s), out_clear y.dir p q.2.2 (out (dec_lt (I.start y.dir + moved y.dir p) (lo (I.leaf k) y.dir)) not_in))
          where
            out : Dec (I.start y.dir + moved y.dir p < lo (I.leaf k) y.dir) → (MoveIn y p → ⊥) → I.start y.dir + moved y.dir p < lo (I.leaf k) y.dir
            out (yes h) n = h
            out (no h) n =
                absurd (n (omega (
                  arith,
                  spot_in_lem x.dir (y ∷ p) here y.dir,
                  spot_in_lem x.dir (y ∷ p) here (other y.dir),
                  steps_same y.dir (dirs p),
                  steps_other y.dir (dirs p),
                )))

    -- T5: the moves shared with k are consecutive
    pub stretch_of_lem : (p : List Move) → Kept I p → Stretch p
    stretch_of_lem [] q = never tt
    stretch_of_lem (x ∷ p) q = go (dec_with x.share k) (stretch_of_lem p q.2)
      where
        apart : Other k x → Stretch p → Stretch (x ∷ p)
        apart n (never c) = never (n, c)
        apart n (once a y m b f e c l d) = once (x ∷ a) y m b f (ap (λ r. x ∷ r) e) (n, c) l d

        -- x is the first that is shared
        alone_in : Mine k x → All (Other k) p → Stretch (x ∷ p)
        alone_in e c = once [] x [] p (forward (I.leaf k) x.dir) refl tt (e, mine_owner x p q.0 e, refl, tt) c

        -- the move before it is shared too
        joins : (y : Move) (r : List Move) → p ≡ y ∷ r → Mine k x → Mine k y → forward (I.leaf k) x.dir ≡ forward (I.leaf k) y.dir → Stretch p
            → Stretch (x ∷ p)
        joins y r w e d g (never c) = absurd ((subst (All (Other k)) w c).0 d)
        joins y r w e d g (once [] z m b f h c l o) =
            let yz : y ≡ z = cc in
            once [] x (z ∷ m) b f (ap (λ r. x ∷ r) h) tt
            (e, subst (MoveIn x) h (mine_owner x p q.0 e), g ∙ ap (λ u. forward (I.leaf k) u.dir) yz ∙ l.2, l) o
        joins y r w e d g (once (u ∷ a) z m b f h c l o) = absurd (c.0 (let yu : u ≡ y = cc in rw yu d))

        shared : (r : List Move) → p ≡ r → Kept I (x ∷ r) → Mine k x → Stretch p → Stretch (x ∷ p)
        shared [] w q' e t = alone_in e (rw w tt)
        shared (y ∷ r) w q' e t = go (touch x y r q' e)
          where
            go : (Mine k y × (forward (I.leaf k) x.dir ≡ forward (I.leaf k) y.dir)) ⊎ All (Other k) (y ∷ r) → Stretch (x ∷ p)
            go (inl h) = joins y r w e h.0 h.1 t
            go (inr h) = alone_in e (rw w h)

        go : Dec (x.share ≡ with k) → Stretch p → Stretch (x ∷ p)
        go (no n) t = apart n t
        go (yes e) t = shared p refl q e t
