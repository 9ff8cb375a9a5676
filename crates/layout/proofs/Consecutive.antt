-- The moves of a traced walk that are shared with a leaf are consecutive: sharing finds them as a part of the walk, with no other before or behind it.
use mathlib.Core.Path.{◌≡◌, refl, sym, ap, ◌∙◌}
use mathlib.Core.List.{List, [], ◌∷◌, ◌++◌, append-nil, reverse, reverse-append, reverse-reverse}
use Prim.Native.Nat.{ℕ, ◌+◌, ◌<◌}
use native.Mathlib.Omega.{arith}
use lib.ListN.{length, length-append, length-reverse}
use lib.Seq.{take_at, take_all}
use Rattle.network.specs.Lists.{All}
use Rattle.sharing.specs.Instance.{Instance}
use Rattle.sharing.specs.Trace.{Move}
use Rattle.sharing.specs.Walk.{Kept}
use Rattle.sharing.specs.Leaf.{before}
use Rattle.sharing.proofs.Owners.{Separate}
use Rattle.sharing.proofs.Stretch.{Mine, Other, Stretch, never, once, placed_mine, stretch_of_lem}
use Rattle.sharing.proofs.Leaf.{is_other, all_reverse, stretch_none, stretch_parts, before_parts}
use Rattle.layout.specs.Stretch.{Together}

module _ (k : ℕ) where
  -- where nothing is shared with k, all moves are before its stretch
  before_all : (l : List Move) → All (Other k) l → before k l ≡ l
  unfolding before
  before_all [] a = refl
  before_all (x ∷ l) a = rw (is_other k x.share a.0, before) (ap (λ m. x ∷ m) (before_all l a.1))

  -- a walk in three parts, of which the middle one is shared with k
  together_parts : (u m z : List Move) → 0 < length m → All (Other k) u → All (Mine k) m → All (Other k) z → Together k (u ++ m ++ z)
  together_parts u m z h a b c =
      rw (stretch_parts k u m z a b c, before_parts k u m z a b h) (take_at (u ++ m) z (length u + length m) (length-append u m))

  -- a walk that shares nothing with k
  together_none : (p : List Move) → All (Other k) p → Together k p
  together_none p a = rw (stretch_none k p a, before_all p a) (take_all (length p + 0) p (omega arith) ∙ sym (append-nil p))

-- the moves that a traced walk shares with k are consecutive
pub kept_together : (I : Instance) → Separate I → (k : ℕ) (moves : List Move) → Kept I (reverse moves) → Together k moves
kept_together I S k moves kept = go (stretch_of_lem I k S (reverse moves) kept)
  where
    go : Stretch I k (reverse moves) → Together k moves
    go (never a) = rw (← (reverse-reverse moves)) (together_none k (reverse (reverse moves)) (all_reverse _ (reverse moves) a))
    go (once after x m front f e a l b) =
        let parts : moves ≡ reverse front ++ reverse (x ∷ m) ++ reverse after
        = sym (reverse-reverse moves) ∙ ap reverse e ∙ reverse-append after ((x ∷ m) ++ front) ∙ ap (λ r. r ++ reverse after) (reverse-append (x ∷ m) front) in
        rw parts (together_parts k (reverse front) (reverse (x ∷ m)) (reverse after) (omega (arith, length-reverse (x ∷ m)))
        (all_reverse _ front b) (all_reverse _ (x ∷ m) (placed_mine I k f (x ∷ m) front l)) (all_reverse _ after a))
