-- The walk back through the table, edge by edge, in terms of the group's sets. (What it finds, and that it finds it: crate `sharing`.)
use Rattle.std.specs.Prelude.{Bool, true, false, cond, not, ◌&&◌, ◌||◌, List, [], ◌∷◌, reverse, ℕ, zero, suc, pred, ◌+◌, ◌-◌, max, eqb, leb, ltb, get_or}
use Rattle.std.specs.Int.Bits.{bit_and}
use Rattle.network.specs.Steps.{Dir, hor, ver}
use Rattle.sharing.specs.Trace.{Share, alone, with, Move}
use Rattle.grid.specs.Tables.{table}
use Rattle.intersection.specs.Sets.{members}
use Rattle.table.specs.declared.frame.Line.{Line}
use Rattle.table.specs.declared.fill.Edge.{Edge}
use Rattle.table.specs.declared.trace.Taken.{Taken}
use Rattle.table.specs.declared.trace.Trace.{Trace}
use Rattle.table.specs.Frame.{Group}
use Rattle.table.specs.Rule.{line_at, position, pair_of, edge_by, unless_own}

-- ---- one edge back

-- the edge's owner slopes the other way than the centre
abbrev pub is_cross : Edge → ℕ → Bool
is_cross e cross = not (eqb (bit_and e.own cross) 0)

-- an edge with a cross owner is taken as part of a stretch where its run word is its best word
unfoldable pub taken_by : Bool → Edge → ℕ → Taken
taken_by v e cross = record { ver = v; run = is_cross e cross && eqb e.run e.best; edge = e }

-- the edge along, or the one across
unfoldable pub chosen : Bool → Bool → Edge → Edge → ℕ → Taken
chosen true v along across cross = taken_by v along cross
chosen false v along across cross = taken_by (not v) across cross

-- the best word of the edges along and across that do not have the owner o
abbrev pub otherwise : Edge → Edge → ℕ → ℕ
otherwise along across o = max (unless_own along o) (unless_own across o)

-- the stretch of the edge e begins with it
unfoldable pub begins_with : Edge → Edge → Edge → Bool
begins_with e along across = not (eqb (otherwise along across e.own) 0) && eqb (otherwise along across e.own + e.len) e.run

-- the edge before t, from the edges along and across that end where t begins
unfoldable pub before_of : Taken → Edge → Edge → ℕ → Taken
before_of t along across cross =
    cond t.run
    (cond (begins_with t.edge along across)
    (chosen (leb (unless_own across t.edge.own) (unless_own along t.edge.own)) t.ver along across cross)
    (record { ver = t.ver; run = true; edge = along }))
    (chosen (leb across.best along.best) t.ver along across cross)

-- the same at a position, by its column and its row
unfoldable pub arrive_of : List ℕ → ℕ → Line → Line → Taken → ℕ → Taken
arrive_of words p col row t cross =
    cond t.ver (before_of t (edge_by (pair_of words p 1) row col) (edge_by (pair_of words p 0) col row) cross)
    (before_of t (edge_by (pair_of words p 0) col row) (edge_by (pair_of words p 1) row col) cross)

-- the same at the vertex in column a and row b of a group
abbrev pub arrive_at : Group → List ℕ → Taken → ℕ → ℕ → Taken
arrive_at g words t a b = arrive_of words (position g.w a b) (line_at g hor a) (line_at g ver b) t g.cross

-- ---- the whole walk

-- 1 for an edge along the column, 0 for one along the row; on the first column or row there is no choice
unfoldable pub up_no : Bool → ℕ → ℕ → ℕ
up_no v a b = cond (v && ltb 0 b || eqb a 0) 1 0

-- the leaf that the edge is shared with, or 32
unfoldable pub share_no : Taken → ℕ → ℕ
share_no t cross = cond (is_cross t.edge cross && not t.run) 32 (get_or (members t.edge.own) 0 32)

-- a direction by its number
abbrev pub dir_by : ℕ → Dir
dir_by zero = hor
dir_by (suc n) = ver

-- a leaf, or none
abbrev pub share_if : Bool → ℕ → Share
share_if true n = with n
share_if false n = alone

-- a move by its two numbers
abbrev pub move_by : ℕ → ℕ → Move
move_by d n = record { dir = dir_by d; share = share_if (ltb n 32) n }

-- the last n moves that lead to the vertex in column a and row b, the last one first, where t goes on from there
unfoldable pub walk : Group → List ℕ → ℕ → Taken → ℕ → ℕ → List Move
walk g words zero t a b = []
walk g words (suc n) t a b =
    move_by (up_no (arrive_at g words t a b).ver a b) (share_no (arrive_at g words t a b) g.cross)
    ∷ walk g words n (arrive_at g words t a b) (a - (1 - up_no (arrive_at g words t a b).ver a b)) (b - up_no (arrive_at g words t a b).ver a b)

-- before the last move
abbrev pub begin : Taken
begin = record { ver = false; run = false; edge = record { best = 0; run = 0; own = 0; len = 0 } }

-- move i of two arrays
abbrev pub move_at : List ℕ → List ℕ → ℕ → Move
move_at steps shares i = move_by (get_or steps i 0) (get_or shares i 0)

-- the trace that two arrays hold
abbrev pub trace_of : List ℕ → List ℕ → ℕ → Trace
trace_of steps shares count = record { steps = steps; shares = shares; count = count }

-- the moves that a trace holds, the first one first
abbrev pub moves_of : Trace → List Move
moves_of r = table (move_at r.steps r.shares) r.count

-- the moves of the whole walk, the first one first
abbrev pub walked : Group → List ℕ → List Move
walked g words = reverse (walk g words (pred g.w + pred g.h) begin (pred g.w) (pred g.h))
