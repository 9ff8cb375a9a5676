-- The centre's group is filled, read and walked in the work words; the laws of `Laying` put the stages' promises together.
use mathlib.Core.Path.{sym, subst}
use Prim.Native.Nat.{◌≤◌}
use Rattle.table.specs.Side.{side_by}
use Rattle.laying.specs.Lease.{table_words, GroupLayable, GroupLaid, Served}
use Rattle.laying.proofs.Laying.{group_asks, group_fits, work_beyond, walk_fits, group_served}
use native.Mathlib.Omega.{arith}
use Rattle.laying.proofs.put_moves.Goals as goal

pub offset_bounds-neighbours-c : goal.offset_bounds-neighbours-c
offset_bounds-neighbours-c c = let p = c.requires in omega (arith, p.1, p.0.1.few)

pub bounds-neighbours-c : goal.bounds-neighbours-c
bounds-neighbours-c c = let p = c.requires in omega (arith, p.1, p.0.1.few)

pub put_group-requires : goal.put_group-requires
put_group-requires c =
    let p = c.requires in
    let q = group_asks _ _ _ _ _ _ p.0.1 _ p.1 in
    (q.0, q.1, q.2, omega (arith, q.3), q.4, q.5, p.3, p.4)

pub fill-requires : goal.fill-requires
fill-requires c = let p = c.requires in group_fits _ _ _ _ _ _ p.0.1 _ p.1 _ c.put_group.ensures.0 _ p.0.2

pub figure_of-requires : goal.figure_of-requires
figure_of-requires c =
    let f = c.fill in
    let t = group_fits _ _ _ _ _ _ c.requires.0.1 _ c.requires.1 _ c.put_group.ensures.0 f.new.work
    (subst (λ m. table_words c.requires.0.0 ≤ m) (sym f.ensures.1.size) c.requires.0.2) in
    (t.some_columns, t.some_rows, t.room)

pub put_walk-requires : goal.put_walk-requires
put_walk-requires c =
    let f = c.fill in (
      group_fits _ _ _ _ _ _ c.requires.0.1 _ c.requires.1 _ c.put_group.ensures.0 f.new.work
          (subst (λ m. table_words c.requires.0.0 ≤ m) (sym f.ensures.1.size) c.requires.0.2),
      c.requires.5,
      c.requires.6,
    )

pub returns : goal.returns
returns c =
    let a = c.args in
    let xs = side_by a.x.now in
    let ys = side_by a.y.now in
    let p = c.requires in
    let f = c.fill in
    let g = c.put_group in
    let q = c.figure_of in
    let t = c.put_walk in (
      λ runs L. (
        record {
          layable = subst (GroupLayable xs ys a.n a.centres.now a.c) (sym t.ensures.0)
              (walk_fits runs xs ys a.n a.centres.now a.neighbours.now L a.c p.1 p.2 _ g.ensures.0 f.new.work f.ensures.0);
          serves = λ steps laid. subst (λ m. Served runs xs ys a.centres.now a.c m steps) (sym q.ensures)
              (group_served runs xs ys a.n a.centres.now a.neighbours.now L a.c p.1 p.2 _ g.ensures.0 f.new.work f.ensures.0 steps
              (subst (λ m. GroupLaid xs ys a.n a.centres.now a.c m steps) t.ensures.0 laid));
        },
        work_beyond _ _ _ _ _ _ L _ p.1 _ g.ensures.0 _ _ f.ensures.1,
      ),
      g.ensures.1,
      g.ensures.2,
      t.ensures.2,
      t.ensures.3,
    )
