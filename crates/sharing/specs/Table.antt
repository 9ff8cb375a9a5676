-- The table of best sharing and its local rules. With a `same` leaf the centre can share every edge of its route in the leaf's box, with a
-- `cross` leaf one straight stretch (000, 3.1, Lemma 3.1: the distance of the in-out pair, or the greater of its two distances), and the first
-- straight stretch after the walk has entered the box is enough.
use Rattle.std.specs.Prelude.{◌≡◌, Bool, true, false, not, ℕ, zero, suc, pred, ◌+◌, ◌≤◌, max, eqb}
use Rattle.network.specs.Steps.{Dir, hor, ver, other}
use Rattle.sharing.specs.Instance.{Instance, Inside, Owner, none, same, cross, owner}

-- `best`: the best sharing of a walk that ends with the edge. `run`: the same, where the edge is shared with its cross owner as part of the
-- first straight stretch since the walk entered that owner's box.
pub data Flag : Type 0 where
  best run : Flag

-- T d f s t is the word of the edge along d that ends at (s, t): 0 if there is no such walk, and n + 1 if n is the best sharing.
abbrev pub Table : Type 0
Table = Dir → Flag → ℕ → ℕ → ℕ

-- the walk of no edge, which shares nothing
abbrev pub at_start : ℕ → ℕ → ℕ
at_start zero zero = 1
at_start zero (suc t) = 0
at_start (suc s) t = 0

-- the best word of a walk that ends at (s, t)
unfoldable pub all : Table → Dir → ℕ → ℕ → ℕ
all T d s t = max (max (T d best s t) (T (other d) best t s)) (at_start s t)

-- n, or 0 if the test holds
abbrev pub zero_if : Bool → ℕ → ℕ
zero_if true n = 0
zero_if false n = n

-- n, or 0 if the owner is the cross leaf k
unfoldable pub unless : Owner → ℕ → ℕ → ℕ
unless none k n = n
unless (same j) k n = n
unless (cross j) k n = zero_if (eqb j k) n

-- n if the owner is the cross leaf k, or 0
unfoldable pub only : Owner → ℕ → ℕ → ℕ
only none k n = 0
only (same j) k n = 0
only (cross j) k n = zero_if (not (eqb j k)) n

-- the owner of the edge along d that ends at (s, t)
abbrev pub arrival : Instance → Dir → ℕ → ℕ → Owner
arrival I d zero t = none
arrival I d (suc s) t = owner I d s t

-- the best word of a walk that ends at (s, t), and not by an edge of the cross leaf k
unfoldable pub from : Instance → Table → ℕ → Dir → ℕ → ℕ → ℕ
from I T k d s t =
    max (max (unless (arrival I d s t) k (T d best s t)) (unless (arrival I (other d) t s) k (T (other d) best t s))) (at_start s t)

-- l more, but 0 stays 0
abbrev pub plus : ℕ → ℕ → ℕ
plus zero l = 0
plus (suc n) l = suc n + l

-- The words of an edge of length l. Its best word, by its owner, from the best word w where it begins and its run word r:
abbrev pub best_of : Owner → ℕ → ℕ → ℕ → ℕ
best_of none w r l = w
best_of (same k) w r l = plus w l
best_of (cross k) w r l = max w r

-- and its run word, where a stretch with k begins with the word new k, or goes on from the word on k
abbrev pub run_word : Owner → (ℕ → ℕ) → (ℕ → ℕ) → ℕ → ℕ
run_word none new on l = 0
run_word (same k) new on l = 0
run_word (cross k) new on l = max (plus (new k) l) (plus (on k) l)

-- the table holds these words at every vertex of the centre's box
pub record Exact (I : Instance) (T : Table) : Type 0 where
  pub no_edge : (d : Dir) (f : Flag) (t : ℕ) → t ≤ I.size (other d) → T d f 0 t ≡ 0
  pub best_is : (d : Dir) (s t : ℕ) → Inside I d s t → T d best (suc s) t ≡ best_of (owner I d s t) (all T d s t) (T d run (suc s) t) (I.len d s)
  pub run_is : (d : Dir) (s t : ℕ) → Inside I d s t
      → T d run (suc s) t ≡ run_word (owner I d s t) (λ k. from I T k d s t) (λ k. only (arrival I d s t) k (T d run s t)) (I.len d s)

-- what the table says that can be shared
unfoldable pub figure : Instance → Table → ℕ
figure I T = pred (all T hor (I.size hor) (I.size ver))
