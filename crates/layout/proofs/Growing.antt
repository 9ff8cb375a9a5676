-- Steps that grow: a step written behind them is one step more. So loops write a leg, or a part of a table, forth or back.
use mathlib.Core.Path.{◌≡◌, refl, ap, ◌∙◌, subst}
use mathlib.Core.Bool.{cond}
use mathlib.Core.List.{List, [], ◌∷◌, ◌++◌, map, map-append, append_assoc}
use Prim.Native.Nat.compare
use Prim.Native.Nat.{ℕ, zero, suc, ◌+◌, ◌-◌, ◌≤◌, ◌<◌}
use native.Mathlib.Numerals.{add-one}
use native.Mathlib.Omega.{arith}
use borrow.Author.Tests.{lt-ltb, le-ltb}
use lib.Dec.{ltb}
use lib.ListN.{length, get_or, take, set, replicate, length-append, length-replicate, length-set, get_or-replicate}
use lib.Seq.{take-suc, take-suc-set}
use borrow.Rule.Slice.PartMut.{put_mid, same_len_mid, mid_len}
use Rattle.std.proofs.lemmas.Slice.{take-put_mid}
use Rattle.network.specs.Steps.{Dir, hor, ver}
use Rattle.route.specs.Route.{dir_of}
use Rattle.layout.specs.Way.{leg_of}
use Rattle.layout.specs.Laid.{Longer}

-- a step written behind the steps is one step more
pub longer_step : (old : List ℕ) (at n : ℕ) (l : List Dir) (new : List ℕ) (next v : ℕ) → next < length new → Longer old at n l new next
    → Longer old at (n + 1) (l ++ dir_of v ∷ []) (set new next v) (next + 1)
longer_step old at n l new next v h p =
    record {
      same_size = length-set new next v ∙ p.same_size;
      more = omega (arith, p.more);
      goes =
          rw (add-one, take-suc-set new next v)
          (map-append dir_of (take next new) (v ∷ []) ∙ ap (λ k. k ++ dir_of v ∷ []) p.goes ∙ append_assoc (map dir_of (take at old)) l (dir_of v ∷ []));
    }

-- one growth after another
pub longer_more : (a : List ℕ) (at n : ℕ) (l : List Dir) (b : List ℕ) (next i : ℕ) (m : List Dir) (c : List ℕ) (last : ℕ) → Longer a at n l b next
    → Longer b next i m c last → Longer a at (n + i) (l ++ m) c last
longer_more a at n l b next i m c last p q =
    record {
      same_size = q.same_size ∙ p.same_size;
      more = omega (arith, p.more, q.more);
      goes = q.goes ∙ ap (λ k. k ++ m) p.goes ∙ append_assoc (map dir_of (take at a)) l m;
    }

-- ---- a leg

-- how many steps it has
pub leg_length : (across up : ℕ) → length (leg_of across up) ≡ across + up
leg_length across up =
    length-append (replicate across hor) (replicate up ver) ∙ omega (arith, length-replicate across hor, length-replicate up ver)

-- and the step at index i
leg_at : (across up i : ℕ) → i < across + up → get_or (leg_of across up) i hor ≡ cond (ltb i across) hor ver
leg_at zero up i h = rw (le-ltb i 0 (omega arith)) (get_or-replicate up i ver hor (omega arith))
leg_at (suc across) up zero h = rw (lt-ltb 0 (suc across) (omega arith))
leg_at (suc across) up (suc i) h = rw (compare.suc-suc (suc i) across) (leg_at across up i (omega arith))

-- ---- the steps that the loops write

module _ (old : List ℕ) (at : ℕ) (new : List ℕ) (i : ℕ) (room : at + i < length new) where
  -- the next step
  next_step : (l : List Dir) (v : ℕ) → Longer old at i l new (at + i) → Longer old at (i + 1) (l ++ dir_of v ∷ []) (set new (at + i) v) (at + (i + 1))
  next_step l v p =
      let e : at + i + 1 ≡ at + (i + 1) = omega arith in
      subst (λ n. Longer old at (i + 1) (l ++ dir_of v ∷ []) (set new (at + i) v) n) e (longer_step old at i l new (at + i) v room p)

  -- of a leg
  pub leg_next : (across up v : ℕ) → i < across + up → dir_of v ≡ cond (ltb i across) hor ver → Longer old at i (take i (leg_of across up)) new (at + i)
      → Longer old at (i + 1) (take (i + 1) (leg_of across up)) (set new (at + i) v) (at + (i + 1))
  leg_next across up v h e p =
      let g : take (i + 1) (leg_of across up) ≡ take i (leg_of across up) ++ dir_of v ∷ []
      = rw (add-one, take-suc (leg_of across up) i hor (omega (arith, leg_length across up)), leg_at across up i h, e) in
      rw g (next_step _ v p)

-- a part that is written at once
pub longer_part : (old : List ℕ) (at : ℕ) (part : List ℕ) → at + length part ≤ length old
    → Longer old at (length part) (map dir_of part) (put_mid at (at + length part - at) old part) (at + length part)
longer_part old at part h =
    record {
      same_size = same_len_mid at (at + length part - at) old part (omega (arith, mid_len at (at + length part) old h));
      more = refl;
      goes = rw (take-put_mid at (at + length part - at) old part (at + length part) refl (omega arith)) (map-append dir_of (take at old) part);
    }
