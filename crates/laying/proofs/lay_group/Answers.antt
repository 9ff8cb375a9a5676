use mathlib.Core.Path.{◌≡◌, refl, sym, ap, ap₂, ◌∙◌, subst}
use mathlib.Core.List.{List, [], ◌∷◌, ◌++◌}
use Prim.Native.Nat.{ℕ, ◌+◌, ◌%◌, ◌≤◌, ◌<◌}
use native.Mathlib.Nat.{mod-eq_of_lt}
use lib.ListN.{length, get_or, get_or-replicate, length-set}
use Rattle.network.specs.Steps.{hor, steps}
use Rattle.sharing.specs.Walk.{moved}
use Rattle.sharing.specs.Leaf.{stretch}
use Rattle.table.specs.Side.{Side, side_of}
use Rattle.table.specs.declared.trace.Trace.{Trace}
use Rattle.layout.specs.declared.Stretch.{Stretch}
use Rattle.table.specs.Walk.{moves_of, move_by}
use Rattle.layout.specs.Laid.{Ready}
use Rattle.layout.specs.Points.{points_of}
use Rattle.layout.specs.Stretch.{nothing}
use Rattle.layout.proofs.Finding.{first_moves, moves_next, moves_length, moved_next, moved_few, stretch_few, AllFound, found_none, found_next, found_same}
use Rattle.layout.proofs.Laying.{centre_few}
use Rattle.laying.specs.Lease.{block_of, GroupLayable, GroupWritten}
use Rattle.laying.proofs.Blocks.{block_end, block_length, roomy_kept, block_here, block_there}
use Rattle.laying.proofs.Loop.{laid_none, laid_skip, laid_next}
use native.Mathlib.Omega.{arith}
use Rattle.laying.proofs.lay_group.Goals as goal
use Rattle.laying.proofs.lay_group.Goals.{else-group-c, else-leaf-lt32, then-group-c, then-leaf-lt32}

-- the moves that a group can be laid by are few
count_few : {xs ys : Side} {n : ℕ} {centres : List ℕ} (c : ℕ) (t : Trace) → GroupLayable xs ys n centres c (moves_of t) → t.count ≤ 126
count_few c t g = centre_few _ c t (g.layable c g.centre g.own)

-- behind the last move the stretches of all moves are found
all_found : (t : Trace) (i : ℕ) (found : List Stretch) → i ≡ t.count → AllFound (first_moves t.steps t.shares i) found → AllFound (moves_of t) found
all_found t i found e f = subst (λ n. AllFound (first_moves t.steps t.shares n) found) e f

-- and a run of the group can be laid
run_ready : {xs ys : Side} {n c : ℕ} {centres : List ℕ} (t : Trace) → GroupLayable xs ys n centres c (moves_of t) → (i : ℕ) (found : List Stretch) → i ≡ t.count
    → AllFound (first_moves t.steps t.shares i) found → (k : ℕ) → k < n → get_or centres k 0 ≡ c
    → Ready (points_of xs ys c) (points_of xs ys k) c (moves_of t) k (get_or found k nothing)
run_ready t g i found e f k below own =
    record { centre_layable = g.layable _ g.centre g.own; layable = g.layable _ below own; found = all_found t i found e f k (omega (arith, g.few)) }

pub loop-i-init : goal.loop-i-init
unfolding steps
loop-i-init c = (refl, refl, λ k h. rw (get_or-replicate 32 k nothing nothing) (found_none k))

pub bounds-trace-i : goal.bounds-trace-i
bounds-trace-i c = omega (arith, count_few c.args.c c.args.trace.now c.requires.0)

pub bounds-trace-i-in-loop-i : goal.bounds-trace-i-in-loop-i
bounds-trace-i-in-loop-i c = omega (arith, count_few c.args.c c.args.trace.now c.requires.0)

pub with_move-requires : goal.with_move-requires
with_move-requires c =
    let t = c.args.trace.now in
    let p = first_moves t.steps t.shares c.loop-i.i in
    let k = get_or t.shares c.loop-i.i 0 in
    let f = c.loop-i.invariant.2 k c.if-leaf-lt32.true in
    let few : length p ≤ 126 = omega (arith, moves_length t.steps t.shares c.loop-i.i, count_few c.args.c t c.requires.0) in
    let h = stretch_few k p in
    (omega (arith, f.size_is), omega (arith, f.wide_is, moved_few (stretch k p)))

pub overflow_add-across : goal.overflow_add-across
overflow_add-across c =
    let t = c.args.trace.now in
    omega (arith, c.loop-i.invariant.1, moved_few (first_moves t.steps t.shares c.loop-i.i), moves_length t.steps t.shares c.loop-i.i, count_few c.args.c t c.requires.0)

pub loop-i-preserved : goal.loop-i-preserved
loop-i-preserved c =
    let t = c.args.trace.now in
    let p = first_moves t.steps t.shares c.loop-i.i in
    let v = get_or t.steps c.loop-i.i 0 in
    let share = get_or t.shares c.loop-i.i 0 in
    let b : c.loop-i.i % 256 ≡ c.loop-i.i = mod-eq_of_lt (omega (arith, count_few c.args.c t c.requires.0)) in
    let next = moves_next t.steps t.shares c.loop-i.i in
    let j : (length c.if-leaf-lt32.found ≡ 32) × AllFound (p ++ move_by v share ∷ []) c.if-leaf-lt32.found
    = elim c.if-leaf-lt32.branch [
      | then-leaf-lt32 w ↦ rw (w.found-is, w.with_move.ensures, b) (
        length-set c.loop-i.found share _ ∙ c.loop-i.invariant.0,
        found_next p c.loop-i.found v share c.loop-i.i c.loop-i.across (moves_length t.steps t.shares c.loop-i.i) c.loop-i.invariant.1 c.loop-i.invariant.0
            (omega (arith, w.if-leaf-lt32.true)) c.loop-i.invariant.2,
      )
      | else-leaf-lt32 w ↦ rw w.found-is (c.loop-i.invariant.0, found_same p c.loop-i.found v share (omega (arith, w.if-leaf-lt32.false)) c.loop-i.invariant.2)
    ] in
    (j.0, ap₂ ◌+◌ c.loop-i.invariant.1 c.along_row-across.ensures.0 ∙ sym (moved_next p v share) ∙ ap (moved hor) (sym next), rw next j.1)

pub loop-k-init : goal.loop-k-init
loop-k-init c = laid_none _ _ _ _ _ _

pub overflow_mul-at : goal.overflow_mul-at
overflow_mul-at c = let l = c.loop-k in omega (arith, block_end _ _ _ _ _ c.requires.1 l.k c.loop-k-test.true)

pub overflow_add-at : goal.overflow_add-at
overflow_add-at c = let l = c.loop-k in omega (arith, block_end _ _ _ _ _ c.requires.1 l.k c.loop-k-test.true)

pub slice_bounds-route_of-end : goal.slice_bounds-route_of-end
slice_bounds-route_of-end c = let l = c.loop-k in omega (arith, block_end _ _ _ _ _ c.requires.1 l.k c.loop-k-test.true)

pub route_of-requires : goal.route_of-requires
route_of-requires c =
    let l = c.loop-k in
    let g = c.requires.0 in
    let below = c.loop-k-test.true in
    let r = roomy_kept _ _ _ _ _ c.requires.1 l.routes l.auto.routes in
    rw (c.of-centre.ensures, c.of-run.ensures) (
      c.requires.2,
      omega (arith, r.enough l.k below, block_length _ _ _ _ _ r l.k below),
      (c.args.trace.now.shares, run_ready c.args.trace.now g c.loop-i.i _ (omega arith) c.loop-i.invariant.2 l.k below c.if-group-c.true),
    )

pub loop-k-preserved : goal.loop-k-preserved
loop-k-preserved c =
    let l = c.loop-k in
    let a = c.args in
    let g = c.requires.0 in
    let below = c.loop-k-test.true in
    let r = roomy_kept _ _ _ _ _ c.requires.1 l.routes l.auto.routes in
    let xs = side_of a.x.now.first a.x.now.second [] in
    let ys = side_of a.y.now.first a.y.now.second [] in
    let Next : List ℕ → Type 0
    = λ routes. GroupWritten xs ys (l.k + 1) a.centres.now a.c (moves_of a.trace.now) (block_of a.routes.now a.stride) (block_of routes a.stride) in
    elim c.if-group-c.branch [
      | then-group-c w ↦ let new = w.route_of.new.to in
          let end = block_end _ _ _ _ _ r l.k below in
          let size = w.route_of.ensures.1 ∙ block_length _ _ _ _ _ r l.k below in
          subst Next (sym w.routes-is) (
          laid_next _ _ _ _ _ w.if-group-c.true
          (rw (block_here a.stride l.k l.routes new end size) (rw (c.of-centre.ensures, w.of-run.ensures) at (w.route_of.ensures.0 a.trace.now.shares)
          (run_ready a.trace.now g c.loop-i.i _ (omega arith) c.loop-i.invariant.2 l.k below w.if-group-c.true)))
          (block_there a.stride l.k l.routes new end size) l.invariant
          )
      | else-group-c w ↦ subst Next (sym w.routes-is) (laid_skip _ _ _ _ _ w.if-group-c.false l.invariant)
    ]

pub returns : goal.returns
returns c =
    let l = c.loop-k in
    let e : l.k ≡ c.args.n = omega arith in
    (rw e at l.invariant, l.auto.routes)
