-- One pass over the centre's moves finds, for every leaf, where the moves that are shared with it stand: a move that is shared with a leaf is one more of
-- its stretch and of no other's, and the first one says where the stretch begins.
use mathlib.Core.Path.{◌≡◌, refl, sym, ap, ◌∙◌}
use mathlib.Core.Bool.{Bool, true, false, cond}
use mathlib.Core.List.{List, [], ◌∷◌, ◌++◌, append-nil}
use Prim.Native.Nat.{ℕ, zero, suc, ◌+◌, ◌≤◌, ◌<◌}
use native.Mathlib.Decide.{ℕ_discrete}
use native.Mathlib.Numerals.{add-one}
use native.Mathlib.Omega.{arith}
use borrow.Author.Tests.{lt-ltb, le-ltb, eq-eqb, ne_eqb, eqb-true, eqb-false}
use lib.Dec.{ltb, eqb}
use lib.ListN.{length, length-append, length-map, get_or, set}
use lib.Seq.{get_or-set_same, get_or-set_other}
use Rattle.network.specs.Lists.{select, each}
use Rattle.network.specs.Steps.{hor, steps}
use Rattle.sharing.specs.Trace.{Move}
use Rattle.sharing.specs.Walk.{dirs, moved}
use Rattle.sharing.specs.Leaf.{is_with, before, stretch}
use Rattle.sharing.proofs.Leaf.{moved_append}
use Rattle.network.proofs.Lists.{select_append}
use Rattle.network.proofs.StepCounts.{steps_all}
use Rattle.layout.specs.declared.Stretch.{Stretch}
use Rattle.table.specs.Walk.{dir_by, share_if, move_by, move_at}
use Rattle.layout.specs.Stretch.{along_row, nothing, grown, Found}

-- ---- the moves

-- the first n moves of two tables
abbrev pub first_moves : (steps shares : List ℕ) → ℕ → List Move
first_moves steps shares n = each n (λ i. move_at steps shares i ∷ [])

-- the next move is one more at the end
pub moves_next : (steps shares : List ℕ) (n : ℕ) → first_moves steps shares (n + 1) ≡ first_moves steps shares n ++ move_at steps shares n ∷ []
moves_next steps shares n = rw add-one

-- there are as many as are taken
pub moves_length : (steps shares : List ℕ) (n : ℕ) → length (first_moves steps shares n) ≡ n
moves_length steps shares zero = refl
moves_length steps shares (suc n) = length-append (first_moves steps shares n) _ ∙ omega (arith, moves_length steps shares n)

-- a step along the row is one more of those
pub moved_next : (p : List Move) (v share : ℕ) → moved hor (p ++ move_by v share ∷ []) ≡ moved hor p + along_row v
unfolding steps
moved_next p v share = moved_append hor p (move_by v share ∷ []) ∙ ap (λ n. moved hor p + n) (go v)
  where
    go : (v : ℕ) → steps hor (dir_by v ∷ []) ≡ along_row v
    go zero = refl
    go (suc v) = rw (ne_eqb (suc v) 0 (λ e. omega arith))

-- no more moves go along a row than there are
pub moved_few : (p : List Move) → moved hor p ≤ length p
moved_few p = omega (arith, steps_all (dirs p), length-map p (λ (x : Move). x.dir))

-- ---- the moves before a stretch, and the stretch, with one move more

abbrev mine : ℕ → Move → Bool
mine k x = is_with k x.share

module _ (k : ℕ) where
  -- the stretch of two lists
  stretch_append : (p q : List Move) → stretch k (p ++ q) ≡ stretch k p ++ stretch k q
  unfolding stretch
  stretch_append p q = select_append (mine k) p q

  -- the stretch of one move
  stretch_one : (x : Move) (b : Bool) → mine k x ≡ b → stretch k (x ∷ []) ≡ cond b (x ∷ []) []
  unfolding stretch
  stretch_one x true e = rw (e, select)
  stretch_one x false e = rw (e, select)

  -- no more moves are shared than there are
  pub stretch_few : (p : List Move) → length (stretch k p) ≤ length p
  unfolding stretch
  stretch_few [] = omega arith
  stretch_few (x ∷ p) = go (mine k x) (stretch_few p)
    where
      go : (b : Bool) → length (select (mine k) p) ≤ length p
          → length {A = Move} (elim b as (λ u. List Move) [ true ↦ x ∷ select (mine k) p | false ↦ select (mine k) p ]) ≤ suc (length p)
      go true h = omega arith
      go false h = omega arith

  -- before a stretch that has begun
  before_begun : (p q : List Move) → 0 < length (stretch k p) → before k (p ++ q) ≡ before k p
  unfolding before stretch
  before_begun [] q h = absurd (omega arith)
  before_begun (x ∷ p) q h = go (mine k x) refl (before_begun p q)
    where
      go : (b : Bool) → mine k x ≡ b → (0 < length (select (mine k) p) → before k (p ++ q) ≡ before k p) → before k (x ∷ (p ++ q)) ≡ before k (x ∷ p)
      go true e r = rw (e, before)
      go false e r = rw (e, before) (ap (λ l. x ∷ l) (r (rw (e, select) at h)))

  -- before one that begins
  before_new : (p : List Move) (x : Move) → length (stretch k p) ≡ 0 → mine k x ≡ true → before k (p ++ x ∷ []) ≡ p
  unfolding before stretch
  before_new [] x h e = rw (e, before)
  before_new (y ∷ p) x h e = go (mine k y) refl (λ i. before_new p x i e)
    where
      go : (b : Bool) → mine k y ≡ b → (length (select (mine k) p) ≡ 0 → before k (p ++ x ∷ []) ≡ p) → before k (y ∷ (p ++ x ∷ [])) ≡ y ∷ p
      go true f r = absurd (let i = rw (f, select) at h in omega arith)
      go false f r = rw (f, before) (ap (λ l. y ∷ l) (r (rw (f, select) at h)))

  -- ---- what is found

  -- no moves, and no stretch
  pub found_none : Found k [] nothing
  unfolding stretch before steps
  found_none = record { size_is = refl; wide_is = refl; from_is = λ h. refl; across_is = λ h. refl }

  -- a move that is not shared with k changes nothing
  found_other : (p : List Move) (x : Move) (s : Stretch) → mine k x ≡ false → Found k p s → Found k (p ++ x ∷ []) s
  found_other p x s e f =
      let same : stretch k (p ++ x ∷ []) ≡ stretch k p = stretch_append p (x ∷ []) ∙ ap (λ l. stretch k p ++ l) (stretch_one x false e) ∙ append-nil (stretch k p) in
      let begun : 0 < s.size → before k (p ++ x ∷ []) ≡ before k p = λ h. before_begun p (x ∷ []) (rw f.size_is at h) in
      record {
        size_is = f.size_is ∙ ap length (sym same);
        wide_is = f.wide_is ∙ ap (moved hor) (sym same);
        from_is = λ h. f.from_is h ∙ ap length (sym (begun h));
        across_is = λ h. f.across_is h ∙ ap (moved hor) (sym (begun h));
      }

  -- a move that is shared with k is one more
  found_mine : (p : List Move) (v share : ℕ) (s : Stretch) → mine k (move_by v share) ≡ true → Found k p s
      → Found k (p ++ move_by v share ∷ []) (grown s (length p) (moved hor p) v)
  found_mine p v share s e f =
      let x = move_by v share in
      let more : stretch k (p ++ x ∷ []) ≡ stretch k p ++ x ∷ [] = stretch_append p (x ∷ []) ∙ ap (λ l. stretch k p ++ l) (stretch_one x true e) in
      record {
        size_is = ap (λ n. n + 1) f.size_is ∙ sym (length-append (stretch k p) (x ∷ [])) ∙ ap length (sym more);
        wide_is = ap (λ n. n + along_row v) f.wide_is ∙ sym (moved_next (stretch k p) v share) ∙ ap (moved hor) (sym more);
        from_is = λ h. (go (eqb s.size 0) refl).0;
        across_is = λ h. (go (eqb s.size 0) refl).1;
      }
    where
      go : (b : Bool) → eqb s.size 0 ≡ b
          → (cond b (length p) s.from ≡ length (before k (p ++ move_by v share ∷ [])))
          × (cond b (moved hor p) s.across ≡ moved hor (before k (p ++ move_by v share ∷ [])))
      go true t = let new = before_new p (move_by v share) (sym f.size_is ∙ eqb-true s.size 0 t) e in (ap length (sym new), ap (moved hor) (sym new))
      go false t =
          let h : 0 < s.size = let n = eqb-false s.size 0 t in omega arith in
          let begun = before_begun p (move_by v share ∷ []) (rw f.size_is at h) in
          (f.from_is h ∙ ap length (sym begun), f.across_is h ∙ ap (moved hor) (sym begun))

-- which leaf a move is shared with
share_mine : (k share : ℕ) → share < 32 → is_with k (share_if (ltb share 32) share) ≡ eqb share k
unfolding is_with
share_mine k share h = rw (lt-ltb share 32, is_with)

-- no leaf has an index of 32 or above
share_none : (k share : ℕ) → 32 ≤ share → is_with k (share_if (ltb share 32) share) ≡ false
unfolding is_with
share_none k share h = rw (le-ltb share 32, is_with)

-- t says where the moves shared with each of 32 leaves stand
abbrev pub AllFound : List Move → List Stretch → Type 0
AllFound p t = (k : ℕ) → k < 32 → Found k p (get_or t k nothing)

module _ (p : List Move) (t : List Stretch) (v share : ℕ) where
  -- one move more
  pub found_next : (n across : ℕ) → length p ≡ n → across ≡ moved hor p → length t ≡ 32 → share < 32 → AllFound p t
      → AllFound (p ++ move_by v share ∷ []) (set t share (grown (get_or t share nothing) n across v))
  found_next n across a b full h f k i = go (ℕ_discrete k share)
    where
      u : Stretch
      u = grown (get_or t share nothing) n across v

      go : Dec (k ≡ share) → Found k (p ++ move_by v share ∷ []) (get_or (set t share u) k nothing)
      go (yes e) =
          rw (e, get_or-set_same t share u nothing (omega arith), ← a, b)
          (found_mine share p v share (get_or t share nothing) (share_mine share share h ∙ eq-eqb share share refl) (f share h))
      go (no n) =
          rw (get_or-set_other t share k u nothing n)
          (found_other k p (move_by v share) (get_or t k nothing) (share_mine k share h ∙ ne_eqb share k (λ e. n (sym e))) (f k i))

  -- or one that is not shared
  pub found_same : 32 ≤ share → AllFound p t → AllFound (p ++ move_by v share ∷ []) t
  found_same h f k i = found_other k p (move_by v share) (get_or t k nothing) (share_none k share h) (f k i)
