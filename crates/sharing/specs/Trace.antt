-- The trace: from the table to the centre's moves, each with the leaf that it is shared with, found by walking back from the end and asking
-- at each edge again which term gave its word.
use Rattle.std.specs.Prelude.{Bool, true, false, ◌&&◌, List, [], ◌∷◌, reverse, ℕ, zero, suc, pred, ◌+◌, eqb, leb, ltb}
use Rattle.network.specs.Steps.{Dir, hor, ver, other}
use Rattle.sharing.specs.Instance.{Instance, Owner, none, same, cross, owner}
use Rattle.sharing.specs.Table.{Flag, best, run, Table, unless, arrival, from}

-- a move is shared with no leaf or with one
pub data Share : Type 0 where
  alone : Share
  with : ℕ → Share

-- a move of the centre: one step, and with whom it is shared
pub record Move : Type 0 where
  pub dir : Dir
  pub share : Share

-- an edge of the walk, along dir from (along, across), and which of its two words the walk is after
pub record State : Type 0 where
  pub dir : Dir
  pub flag : Flag
  pub along : ℕ
  pub across : ℕ

-- a cross edge whose run word is its best word is taken as run
abbrev pub run_if : Bool → Flag
run_if true = run
run_if false = best

abbrev pub settle : Owner → Bool → Flag
settle none b = best
settle (same k) b = best
settle (cross k) b = run_if b

-- the leaf that an edge is shared with
abbrev pub share_of : Owner → Flag → Share
share_of none f = alone
share_of (same k) f = with k
share_of (cross k) best = alone
share_of (cross k) run = with k

module _ (I : Instance) (T : Table) where
  -- the edge along d from (s, t), after its best word
  unfoldable pub settled : Dir → ℕ → ℕ → State
  settled d s t =
      record { dir = d; flag = settle (owner I d s t) (eqb (T d run (suc s) t) (T d best (suc s) t)); along = s; across = t }

  -- an edge by which the walk comes to the vertex (s, t): the one along d, or the one across
  unfoldable pub come : Bool → Dir → ℕ → ℕ → State
  come true d s t = settled d (pred s) t
  come false d s t = settled (other d) (pred t) s

  -- the edge with the larger best word, and the same without the edges of the cross leaf k
  unfoldable pub come_best : Dir → ℕ → ℕ → State
  come_best d s t = come (leb (T (other d) best t s) (T d best s t)) d s t

  unfoldable pub come_from : ℕ → Dir → ℕ → ℕ → State
  come_from k d s t =
      come (leb (unless (arrival I (other d) t s) k (T (other d) best t s)) (unless (arrival I d s t) k (T d best s t))) d s t

  -- the stretch with k begins with this edge
  unfoldable pub begins : ℕ → State → Bool
  begins k q =
      ltb 0 (from I T k q.dir q.along q.across)
      && eqb (from I T k q.dir q.along q.across + I.len q.dir q.along) (T q.dir run (suc q.along) q.across)

  -- the edge before one that is shared with k as part of a stretch
  unfoldable pub next_run : Bool → ℕ → State → State
  next_run true k q = come_from k q.dir q.along q.across
  next_run false k q = record { dir = q.dir; flag = run; along = pred q.along; across = q.across }

  unfoldable pub next_by : Owner → Flag → State → State
  next_by none f q = come_best q.dir q.along q.across
  next_by (same k) f q = come_best q.dir q.along q.across
  next_by (cross k) best q = come_best q.dir q.along q.across
  next_by (cross k) run q = next_run (begins k q) k q

  abbrev pub owner_of : State → Owner
  owner_of q = owner I q.dir q.along q.across

  -- the edge before
  unfoldable pub next : State → State
  next q = next_by (owner_of q) q.flag q

  abbrev pub here : State → Move
  here q = record { dir = q.dir; share = share_of (owner_of q) q.flag }

  -- the n moves of which the edge of q is the last, the last move first
  unfoldable pub back : ℕ → State → List Move
  back zero q = []
  back (suc n) q = here q ∷ back n (next q)

  -- the centre's moves, the first one first
  unfoldable pub trace : List Move
  trace = reverse (back (I.size hor + I.size ver) (come_best hor (I.size hor) (I.size ver)))
