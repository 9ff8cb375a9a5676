-- What is known of the centre's traced moves: they lead from its first point to its second, share what the table says, and keep two local rules.
-- A walk p is here a list of moves with the last move first, so that the moves before a move are the rest of the list.
use Rattle.std.specs.Prelude.{◌≡◌, List, [], ◌∷◌, map, reverse, ℕ, ◌+◌}
use Rattle.network.specs.Steps.{Dir, hor, ver, other, steps}
use Rattle.sharing.specs.Instance.{Instance, Owner, none, same, cross, owner}
use Rattle.sharing.specs.Table.{Table, all}
use Rattle.sharing.specs.Trace.{Share, alone, with, Move}

-- the moves as steps
abbrev pub dirs : List Move → List Dir
dirs p = map (λ x. x.dir) p

-- how many moves go along d
abbrev pub moved : Dir → List Move → ℕ
moved d p = steps d (dirs p)

-- the length l of a move that is shared, or 0
abbrev pub length_if : Share → ℕ → ℕ
length_if alone l = 0
length_if (with k) l = l

module _ (I : Instance) where
  -- the owner of the edge of a move x after the walk p
  abbrev pub owned : Move → List Move → Owner
  owned x p = owner I x.dir (moved x.dir p) (moved (other x.dir) p)

  -- the length of the shared moves
  unfoldable pub sharing : List Move → ℕ
  sharing [] = 0
  sharing (x ∷ p) = sharing p + length_if x.share (I.len x.dir (moved x.dir p))

-- A move is shared with nobody or with its edge's owner; with a same owner always.
pub data Suits : Owner → Share → Type 0 where
  free : Suits none alone
  joined : {k : ℕ} → Suits (same k) (with k)
  left : {k : ℕ} → Suits (cross k) alone
  ran : {k : ℕ} → Suits (cross k) (with k)

-- Before a move x that is shared with the cross leaf k stands a move y of the same straight stretch, or one whose owner o is another.
pub data Before (k : ℕ) (x y : Move) (o : Owner) : Type 0 where
  goes_on : y.dir ≡ x.dir → y.share ≡ with k → Before k x y o
  begun : ¬ (o ≡ cross k) → Before k x y o

module _ (I : Instance) where
  abbrev pub Linked : Move → List Move → Type 0
  Linked x [] = Unit {0}
  Linked x (y ∷ p) = (k : ℕ) → owned I x (y ∷ p) ≡ cross k → x.share ≡ with k → Before k x y (owned I y p)

  -- the walk keeps both rules at each of its moves
  abbrev pub Kept : List Move → Type 0
  Kept [] = Unit {0}
  Kept (x ∷ p) = Suits (owned I x p) x.share × Linked x p × Kept p

-- the moves, the first one first, are traced in the table
pub record Traced (I : Instance) (T : Table) (moves : List Move) : Type 0 where
  pub leads : (d : Dir) → moved d moves ≡ I.size d
  pub shares : sharing I (reverse moves) + 1 ≡ all T hor (I.size hor) (I.size ver)
  pub kept : Kept I (reverse moves)
